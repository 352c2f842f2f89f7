-- What is read of the text of sampled values.
use Rattle.std.specs.Prelude.{ℕ, List, [], ◌∷◌, codes, Option, Some, None}
use Rattle.json.specs.Json.{Json, Items, no_items, item, document}
use Rattle.json.specs.Find.{get, as_str, as_array}
use Rattle.ocpp_types.specs.Named.{named}
use Rattle.ocpp_types.specs.ReadingContext.{reading_contexts}
use Rattle.ocpp_types.specs.ValueFormat.{value_formats}
use Rattle.ocpp_types.specs.Measurand.{measurands}
use Rattle.ocpp_types.specs.Phase.{phases}
use Rattle.ocpp_types.specs.Location.{locations}
use Rattle.ocpp_types.specs.UnitOfMeasure.{units_of_measure}
use Rattle.ocpp_types.specs.declared.reading_context.ReadingContext.TheVariants as context
use Rattle.ocpp_types.specs.declared.value_format.ValueFormat.TheVariants as format
use Rattle.ocpp_types.specs.declared.measurand.Measurand.TheVariants as measurand
use Rattle.ocpp_types.specs.declared.location.Location.TheVariants as location
use Rattle.ocpp_types.specs.declared.sampled_value.SampledValue.{SampledValue}

infixl 10 ◌>>=◌
abbrev pub ◌>>=◌ : {A B : Type 0} → Option A → (A → Option B) → Option B
(Some x) >>= f = f x
None >>= f = None

-- a value by its name
abbrev pub choice : {A : Type 0} → List (List ℕ × A) → Json → Option A
choice names j = as_str j >>= named names

-- the value of a member, or the default where there is none
abbrev pub or_default : {A : Type 0} → A → List (List ℕ × A) → Option Json → Option A
or_default default names None = Some default
or_default default names (Some j) = choice names j

-- the value of a member that may be missing
abbrev pub if_any : {A : Type 0} → List (List ℕ × A) → Option Json → Option (Option A)
if_any names None = Some None
if_any names (Some j) = choice names j >>= (λ x. Some (Some x))

-- a sampled value, by its text and its other members
abbrev pub sampled_with : List ℕ → Json → Option SampledValue
sampled_with text j =
    or_default context.SamplePeriodic reading_contexts (get (codes "context") j) >>= (λ context.
    or_default format.Raw value_formats (get (codes "format") j) >>= (λ format.
    or_default measurand.EnergyActiveImportRegister measurands (get (codes "measurand") j) >>= (λ measurand.
    if_any phases (get (codes "phase") j) >>= (λ phase.
    or_default location.Outlet locations (get (codes "location") j) >>= (λ location.
    if_any units_of_measure (get (codes "unit") j) >>= (λ unit.
    Some (record {
      context = context;
      format = format;
      measurand = measurand;
      phase = phase;
      location = location;
      unit = unit;
      value = text;
    })))))))

-- an object with a value; members of other names aren't read
abbrev pub sampled_of_json : Json → Option SampledValue
sampled_of_json j = (get (codes "value") j >>= as_str) >>= (λ text. sampled_with text j)

abbrev pub each_sampled : Items → Option (List SampledValue)
each_sampled no_items = Some []
each_sampled (item j js) = sampled_of_json j >>= (λ s. each_sampled js >>= (λ rest. Some (s ∷ rest)))

-- the sampled values that a text is, if it is an array of them
abbrev pub sampled_in : List ℕ → Option (List SampledValue)
sampled_in text = (document text >>= as_array) >>= each_sampled
