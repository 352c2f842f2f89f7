-- What is written is read again.
use Rattle.std.proofs.Common.{◌≡◌, ℕ, ◌≤◌, List, [], ◌∷◌, map, Bool, true, false, cond, codes, Option, Some, None, option_map, refl, sym, ap, ◌∙◌, arith}
use Rattle.std.proofs.lemmas.Slice.Eq.{bytes_eq-Decides}
use Rattle.std.specs.Prelude.{bytes_eq}
use Rattle.json.specs.Json.{string, array}
use Rattle.json.specs.Find.{get, get_member, as_str, as_array, later_or}
use Rattle.json.specs.Tree.{items_depth, members_depth, ItemsHaveNumbers, MembersHaveNumbers}
use Rattle.json.specs.Value.{items_of}
use Rattle.json.proofs.Printed.Trees.{document-print}
use Rattle.ocpp_types.specs.Named.{named}
use Rattle.ocpp_types.specs.ReadingContext.{reading_contexts, reading_context_name}
use Rattle.ocpp_types.specs.ValueFormat.{value_formats, value_format_name}
use Rattle.ocpp_types.specs.Measurand.{measurands, measurand_name}
use Rattle.ocpp_types.specs.Phase.{phases, phase_name}
use Rattle.ocpp_types.specs.Location.{locations, location_name}
use Rattle.ocpp_types.specs.UnitOfMeasure.{units_of_measure, unit_of_measure_name}
use Rattle.ocpp_types.specs.declared.reading_context.ReadingContext.{ReadingContext}
use Rattle.ocpp_types.specs.declared.reading_context.ReadingContext.TheVariants as context
use Rattle.ocpp_types.specs.declared.value_format.ValueFormat.{ValueFormat}
use Rattle.ocpp_types.specs.declared.value_format.ValueFormat.TheVariants as format
use Rattle.ocpp_types.specs.declared.measurand.Measurand.{Measurand}
use Rattle.ocpp_types.specs.declared.measurand.Measurand.TheVariants as measurand
use Rattle.ocpp_types.specs.declared.phase.Phase.{Phase}
use Rattle.ocpp_types.specs.declared.phase.Phase.TheVariants as phase
use Rattle.ocpp_types.specs.declared.location.Location.{Location}
use Rattle.ocpp_types.specs.declared.location.Location.TheVariants as location
use Rattle.ocpp_types.specs.declared.unit_of_measure.UnitOfMeasure.{UnitOfMeasure}
use Rattle.ocpp_types.specs.declared.unit_of_measure.UnitOfMeasure.TheVariants as unit
use Rattle.ocpp_types.specs.declared.sampled_value.SampledValue.{SampledValue}
use Rattle.meter_values.specs.Written.{unless, rows_of, members_by, object_of, text_of}
use Rattle.meter_values.specs.Read.{◌>>=◌, or_default, if_any, sampled_with, sampled_of_json, each_sampled, sampled_in}

-- ---- names

context_again : (x : ReadingContext) → named reading_contexts (reading_context_name x) ≡ Some x
context_again context.InterruptionBegin = refl
context_again x = refl

format_again : (x : ValueFormat) → named value_formats (value_format_name x) ≡ Some x
format_again format.Raw = refl
format_again format.SignedData = refl

measurand_again : (x : Measurand) → named measurands (measurand_name x) ≡ Some x
measurand_again measurand.CurrentExport = refl
measurand_again x = refl

phase_again : (x : Phase) → named phases (phase_name x) ≡ Some x
phase_again phase.L1 = refl
phase_again x = refl

location_again : (x : Location) → named locations (location_name x) ≡ Some x
location_again location.Body = refl
location_again x = refl

unit_again : (x : UnitOfMeasure) → named units_of_measure (unit_of_measure_name x) ≡ Some x
unit_again unit.Wh = refl
unit_again x = refl

module _ {A : Type 0} (names : List (List ℕ × A)) (name : A → List ℕ) (again : (x : A) → named names (name x) ≡ Some x) where
  by_name : (default x : A) (b : Bool) → bytes_eq (name x) (name default) ≡ b → or_default default names (option_map string (cond b None (Some (name x)))) ≡ Some x
  by_name default x true e = sym (again default) ∙ ap (named names) (sym ((bytes_eq-Decides (name x) (name default)).0 e)) ∙ again x
  by_name default x false e = again x

  default_again : (default x : A) → or_default default names (option_map string (unless name default x)) ≡ Some x
  default_again default x = by_name default x (bytes_eq (name x) (name default)) refl

  any_again : (o : Option A) → if_any names (option_map string (option_map name o)) ≡ Some o
  any_again None = refl
  any_again (Some x) = ap (λ r. r >>= (λ y. Some (Some y))) (again x)

-- ---- members

abbrev Row : Type 0
Row = List ℕ × Option (List ℕ)

abbrev later : Option (List ℕ) → Option (List ℕ) → Option (List ℕ)
later None earlier = earlier
later (Some text) earlier = Some text

-- the text of the last row of that name
abbrev last_row : List ℕ → List Row → Option (List ℕ)
last_row name [] = None
last_row name (row ∷ rows) = later (last_row name rows) (cond (bytes_eq row.0 name) row.1 None)

later_none : (o : Option (List ℕ)) → later o None ≡ o
later_none None = refl
later_none (Some text) = refl

no_row : (o : Option (List ℕ)) (b : Bool) → later o (cond b None None) ≡ o
no_row o true = later_none o
no_row o false = later_none o

one_row : (o : Option (List ℕ)) (b : Bool) (text : List ℕ) → later_or (option_map string o) (cond b (Some (string text)) None) ≡ option_map string (later o (cond b (Some text) None))
one_row None true text = refl
one_row None false text = refl
one_row (Some other) b text = refl

get-members_by : (name : List ℕ) (rows : List Row) → get_member name (members_by rows) ≡ option_map string (last_row name rows)
get-members_by name [] = refl
get-members_by name ((k, None) ∷ rows) = get-members_by name rows ∙ ap (option_map string) (sym (no_row (last_row name rows) (bytes_eq k name)))
get-members_by name ((k, Some text) ∷ rows) =
    ap (λ o. later_or o (cond (bytes_eq k name) (Some (string text)) None)) (get-members_by name rows) ∙ one_row (last_row name rows) (bytes_eq k name) text

found : (s : SampledValue) (name : List ℕ) (o : Option (List ℕ)) → last_row name (rows_of s) ≡ o → get name (object_of s) ≡ option_map string o
found s name o e = get-members_by name (rows_of s) ∙ ap (option_map string) e

-- the rows before that one have other names
after_1 : (o : Option (List ℕ)) → later o None ≡ o
after_1 = later_none

after_2 : (o : Option (List ℕ)) → later (later o None) None ≡ o
after_2 o = later_none (later o None) ∙ after_1 o

after_3 : (o : Option (List ℕ)) → later (later (later o None) None) None ≡ o
after_3 o = later_none (later (later o None) None) ∙ after_2 o

after_4 : (o : Option (List ℕ)) → later (later (later (later o None) None) None) None ≡ o
after_4 o = later_none _ ∙ after_3 o

after_5 : (o : Option (List ℕ)) → later (later (later (later (later o None) None) None) None) None ≡ o
after_5 o = later_none _ ∙ after_4 o

after_6 : (o : Option (List ℕ)) → later (later (later (later (later (later o None) None) None) None) None) None ≡ o
after_6 o = later_none _ ∙ after_5 o

-- ---- sampled values

in_turn : {A B : Type 0} (r : Option A) (x : A) (rest : A → Option B) (y : B) → r ≡ Some x → rest x ≡ Some y → (r >>= rest) ≡ Some y
in_turn r x rest y e h = ap (λ r. r >>= rest) e ∙ h

members_again : (s : SampledValue) → sampled_with s.value (object_of s) ≡ Some s
members_again s =
    in_turn _ s.context _ s (ap (or_default context.SamplePeriodic reading_contexts) (found s (codes "context") _ (after_1 _)) ∙ default_again reading_contexts reading_context_name context_again context.SamplePeriodic s.context)
    (in_turn _ s.format _ s (ap (or_default format.Raw value_formats) (found s (codes "format") _ (after_2 _)) ∙ default_again value_formats value_format_name format_again format.Raw s.format)
    (in_turn _ s.measurand _ s (ap (or_default measurand.EnergyActiveImportRegister measurands) (found s (codes "measurand") _ (after_3 _)) ∙ default_again measurands measurand_name measurand_again measurand.EnergyActiveImportRegister s.measurand)
    (in_turn _ s.phase _ s (ap (if_any phases) (found s (codes "phase") _ (after_4 _)) ∙ any_again phases phase_name phase_again s.phase)
    (in_turn _ s.location _ s (ap (or_default location.Outlet locations) (found s (codes "location") _ (after_5 _)) ∙ default_again locations location_name location_again location.Outlet s.location)
    (in_turn _ s.unit _ s (ap (if_any units_of_measure) (found s (codes "unit") _ (after_6 _)) ∙ any_again units_of_measure unit_of_measure_name unit_again s.unit)
    refl)))))

one_again : (s : SampledValue) → sampled_of_json (object_of s) ≡ Some s
one_again s = in_turn _ s.value _ s (ap (λ o. o >>= as_str) (found s (codes "value") (Some s.value) refl)) (members_again s)

each_again : (sampled : List SampledValue) → each_sampled (items_of (map object_of sampled)) ≡ Some sampled
each_again [] = refl
each_again (s ∷ rest) = in_turn _ s _ (s ∷ rest) (one_again s) (in_turn _ rest _ (s ∷ rest) (each_again rest) refl)

-- ---- the text

members_have_numbers : (rows : List Row) → MembersHaveNumbers (members_by rows)
members_have_numbers [] = tt
members_have_numbers ((k, None) ∷ rows) = members_have_numbers rows
members_have_numbers ((k, Some text) ∷ rows) = (tt, members_have_numbers rows)

items_have_numbers : (sampled : List SampledValue) → ItemsHaveNumbers (items_of (map object_of sampled))
items_have_numbers [] = tt
items_have_numbers (s ∷ rest) = (members_have_numbers (rows_of s), items_have_numbers rest)

members_flat : (rows : List Row) → members_depth (members_by rows) ≡ 0
members_flat [] = refl
members_flat ((k, None) ∷ rows) = members_flat rows
members_flat ((k, Some text) ∷ rows) = omega (arith, members_flat rows)

items_flat : (sampled : List SampledValue) → items_depth (items_of (map object_of sampled)) ≤ 1
items_flat [] = omega arith
items_flat (s ∷ rest) = omega (arith, members_flat (rows_of s), items_flat rest)

pub read_again : (sampled : List SampledValue) → sampled_in (text_of sampled) ≡ Some sampled
read_again sampled =
    ap (λ o. (o >>= as_array) >>= each_sampled)
    (document-print (array (items_of (map object_of sampled))) (items_have_numbers sampled) (omega (arith, items_flat sampled)))
    ∙ each_again sampled
