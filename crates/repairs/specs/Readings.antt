-- What is read in place of readings of a meter.
use Rattle.std.specs.Prelude.{ℕ, nat_eq, ◌||◌, List, [], ◌∷◌, map, codes, Bool, false, if◌then◌else◌, Option, Some, None}
use Rattle.std.specs.Cmp.Lexicographic.{pointwise}
use Rattle.std.specs.Result.{is_ok}
use Rattle.json.specs.Json.{Json, null, boolean, number, string, array, object, Members, no_members, member}
use Rattle.json.specs.Print.{print}
use Rattle.json.specs.Tree.{json_tokens}
use Rattle.serde_json.specs.Data.{Data}
use Rattle.serde_json.specs.Read.{read}
use Rattle.ocpp_types.specs.Location.{locations}
use Rattle.ocpp_types.specs.Measurand.{measurands}
use Rattle.ocpp_types.specs.Phase.{phases}
use Rattle.ocpp_types.specs.ReadingContext.{reading_contexts}
use Rattle.ocpp_types.specs.UnitOfMeasure.{units_of_measure}
use Rattle.ocpp_types.specs.ValueFormat.{value_formats}
use Rattle.ocpp_payload.specs.Readings as strict
use Rattle.repairs.specs.Names.{names, named_if_any, is_unnamed}
use Rattle.repairs.specs.Tables.{Repair, always, Table, by_table, repaired_items, repaired_members}
use Rattle.repairs.specs.Texts.{time, value_text}

-- the members of a sampled value that are names, each with its names
abbrev pub named_members : List (List ℕ × List (List ℕ))
named_members =
    (codes "context", names reading_contexts)
    ∷ (codes "format", names value_formats)
    ∷ (codes "measurand", names measurands)
    ∷ (codes "phase", names phases)
    ∷ (codes "location", names locations)
    ∷ (codes "unit", names units_of_measure)
    ∷ []

abbrev pub sampled_value_table : Table
sampled_value_table = (codes "value", always value_text) ∷ map (λ row. (row.0, named_if_any row.1)) named_members

-- the member should be a name of the list under its own name, and none is alike
abbrev pub is_unnamed_at : List (List ℕ × List (List ℕ)) → List ℕ → Json → Bool
is_unnamed_at [] name j = false
is_unnamed_at (row ∷ rows) name j = if pointwise nat_eq name row.0 then is_unnamed row.1 j else is_unnamed_at rows name j

abbrev pub has_unnamed : Members → Bool
has_unnamed no_members = false
has_unnamed (member name j ms) = is_unnamed_at named_members name j || has_unnamed ms

-- a sampled value, by its members; one that says what is no name is left out, since it can't be told what was measured
abbrev pub sampled_object : Members → Option Json
sampled_object ms = if has_unnamed ms then None else Some (object (repaired_members sampled_value_table ms))

-- what is no object is kept
abbrev pub sampled_value : Repair
sampled_value null = Some null
sampled_value (boolean b) = Some (boolean b)
sampled_value (number s) = Some (number s)
sampled_value (string s) = Some (string s)
sampled_value (array js) = Some (array js)
sampled_value (object ms) = sampled_object ms

abbrev pub sampled_values : Json → Json
sampled_values null = null
sampled_values (boolean b) = boolean b
sampled_values (number s) = number s
sampled_values (string s) = string s
sampled_values (array js) = array (repaired_items sampled_value js)
sampled_values (object ms) = object ms

abbrev pub meter_value_table : List ℕ → Table
meter_value_table now = (codes "timestamp", always (time now)) ∷ (codes "sampledValue", always sampled_values) ∷ []

-- the strict reader reads it as a meter value
abbrev pub is_meter_value : Option Data → Bool
is_meter_value None = false
is_meter_value (Some d) = is_ok (strict.meter_value d)

abbrev pub if_read : Json → Option Json
if_read j = if is_meter_value (read (print (json_tokens j))) then Some j else None

-- a meter value; one that can't be read even so is left out
abbrev pub meter_value : List ℕ → Repair
meter_value now j = if_read (by_table (meter_value_table now) j)

-- a list of meter values; what is no list is left out, and null is as no member
abbrev pub meter_values : List ℕ → Repair
meter_values now null = Some null
meter_values now (boolean b) = None
meter_values now (number s) = None
meter_values now (string s) = None
meter_values now (array js) = Some (array (repaired_items (meter_value now) js))
meter_values now (object ms) = None
