-- The text of sampled values: a JSON array of objects (OCPP 1.6, section 7.43, SampledValue).
use Rattle.std.specs.Prelude.{ℕ, List, [], ◌∷◌, map, if◌then◌else◌, codes, Option, Some, None, option_map, bytes_eq}
use Rattle.json.specs.Json.{Json, string, array, object, Members, no_members, member}
use Rattle.json.specs.Print.{print}
use Rattle.json.specs.Tree.{json_tokens}
use Rattle.json.specs.Value.{items_of}
use Rattle.ocpp_types.specs.ReadingContext.{reading_context_name}
use Rattle.ocpp_types.specs.ValueFormat.{value_format_name}
use Rattle.ocpp_types.specs.Measurand.{measurand_name}
use Rattle.ocpp_types.specs.Phase.{phase_name}
use Rattle.ocpp_types.specs.Location.{location_name}
use Rattle.ocpp_types.specs.UnitOfMeasure.{unit_of_measure_name}
use Rattle.ocpp_types.specs.declared.reading_context.ReadingContext.TheVariants as context
use Rattle.ocpp_types.specs.declared.value_format.ValueFormat.TheVariants as format
use Rattle.ocpp_types.specs.declared.measurand.Measurand.TheVariants as measurand
use Rattle.ocpp_types.specs.declared.location.Location.TheVariants as location
use Rattle.ocpp_types.specs.declared.sampled_value.SampledValue.{SampledValue}

-- the name of a value, unless it is the default
abbrev pub unless : {A : Type 0} → (A → List ℕ) → A → A → Option (List ℕ)
unless name default x = if bytes_eq (name x) (name default) then None else Some (name x)

-- the members of a sampled value in their order; None is left out
abbrev pub rows_of : SampledValue → List (List ℕ × Option (List ℕ))
rows_of s =
    (codes "value", Some s.value)
    ∷ (codes "context", unless reading_context_name context.SamplePeriodic s.context)
    ∷ (codes "format", unless value_format_name format.Raw s.format)
    ∷ (codes "measurand", unless measurand_name measurand.EnergyActiveImportRegister s.measurand)
    ∷ (codes "phase", option_map phase_name s.phase)
    ∷ (codes "location", unless location_name location.Outlet s.location)
    ∷ (codes "unit", option_map unit_of_measure_name s.unit)
    ∷ []

-- the members with one more before them, if there is one
abbrev pub some_member : List ℕ → Option (List ℕ) → Members → Members
some_member name None ms = ms
some_member name (Some text) ms = member name (string text) ms

abbrev pub members_by : List (List ℕ × Option (List ℕ)) → Members
members_by [] = no_members
members_by (row ∷ rows) = some_member row.0 row.1 (members_by rows)

abbrev pub object_of : SampledValue → Json
object_of s = object (members_by (rows_of s))

-- the text of sampled values, with no blanks
abbrev pub text_of : List SampledValue → List ℕ
text_of sampled = print (json_tokens (array (items_of (map object_of sampled))))
