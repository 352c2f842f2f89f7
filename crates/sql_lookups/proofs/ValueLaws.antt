-- The last meter value of a station, by its numbers alone.
use Rattle.std.proofs.Common.{◌≡◌, ◌&&◌, ◌||◌, ℕ, List, [], ◌∷◌, Bool, true, false, cond, filter, Option, None, Some, is_some, option_map, Ok, Err, Result, IfOk, IsOk, OnOk, map, refl, sym, ap, ◌∙◌, inl, inr}
use Rattle.std.specs.List.{list_any}
use Rattle.std.specs.Str.{bytes_eq}
use Rattle.std.proofs.lemmas.Bool.{cases_Bool}
use Rattle.sqlite_value.specs.Order.{Row}
use Rattle.sqlite.specs.declared.error.Error.{Error}
use Rattle.sqlite.specs.State.{State}
use Rattle.sqlite_rules.proofs.ListLemmas.{has_filtered, some_from}
use Rattle.hub_rows.specs.declared.meter_value_row.MeterValueRow.{MeterValueRow}
use Rattle.hub_rows.specs.Keyed.{first}
use Rattle.hub_rows.specs.MeterValues.{is_meter_value, is_sent_with, meter_values_in, number_of_last}
use Rattle.hub_rows.proofs.ListLaws.{and-true}
use Rattle.sql_rows.specs.Kept.{AreTopCells, IsServing, IsTop, ShowsTopCells}
use Rattle.sql_rows.specs.TypedTable.{rows_in}
use Rattle.sql_rows.specs.TypedTables.{first_and_count, first_and_count_cells, meter_values}
use Rattle.sql_rows.specs.Values.{numbers_in}
use Rattle.sql_rows.proofs.Calls.{any_filtered}
use Rattle.sql_rows.proofs.StoreLemmas.{commits_as, leaves_as}
use Rattle.sql_rows.specs.Kept.{AsksIn}
use Rattle.sql_lookups.specs.Asks.{AreLastNumbers}
use Rattle.sql_lookups.specs.Pages.{last_in}
use Rattle.sql_lookups.proofs.PageLaws.{IsInOrder, top_last}

-- ---- what is shown of it

numbers_shown : (ts : List MeterValueRow) → option_map numbers_in (first (map first_and_count_cells ts)) ≡ option_map first_and_count (first ts)
numbers_shown [] = refl
numbers_shown (t ∷ ts) = refl

numbers_found : {V E F : Type 0} (items : V → List Row) (all : List MeterValueRow) (r : Result V E) (q : Result (Option (ℕ × ℕ)) F) → OnOk q (IsOk r) → IfOk r (λ v. IfOk q (λ pair. pair ≡ option_map numbers_in (first (items v))))
    → IfOk r (λ v. AreTopCells first_and_count_cells (λ m. m.first) all (items v)) → IfOk q (AreLastNumbers all)
numbers_found items all (Ok v) (Ok o) ok is top = (top.0, top.1, is ∙ ap (λ l. option_map numbers_in (first l)) top.2 ∙ numbers_shown top.0)
numbers_found items all (Ok v) (Err e) ok is top = tt
numbers_found items all (Err x) (Ok o) ok is top = absurd cc
numbers_found items all (Err x) (Err e) ok is top = tt

-- the numbers of the meter value with the greatest
pub asks_numbers : {V F : Type 0} {items : V → List Row} {p : MeterValueRow → Bool} {old new : State} {r : Result V Error} {q : Result (Option (ℕ × ℕ)) F} → (IsServing old → ShowsTopCells items meter_values first_and_count_cells (λ m. m.first) p old new r) → OnOk q (IsOk r)
    → IfOk r (λ v. IfOk q (λ pair. pair ≡ option_map numbers_in (first (items v)))) → AsksIn old new q (λ db. AreLastNumbers (filter p (rows_in meter_values db)))
asks_numbers {V} {F} {items} {p} {old} {new} {r} {q} shows ok pair = record {
  found = λ serves up. numbers_found items (filter p (rows_in meter_values old.now.trees)) r q ok pair ((shows serves).ok up);
  same = λ serves up. leaves_as old new r q ok ((shows serves).same up);
  stops = commits_as old new r q ok (λ serves. (shows serves).stops);
}

-- ---- what follows from it

-- the number of the last reading
pub last_found : (values : List MeterValueRow) → IsInOrder (λ m. m.first) values → (numbers : Option (ℕ × ℕ)) → AreLastNumbers values numbers → last_in numbers ≡ number_of_last values
last_found values up numbers last = ap last_in last.2 ∙ go last.0 last.1
  where
    go : (ts : List MeterValueRow) → IsTop (λ m. m.first) values ts → last_in (option_map first_and_count (first ts)) ≡ number_of_last values
    go [] none = ap number_of_last (sym none)
    go (t ∷ ts) top = sym (top_last values up t top.1 top.2)

none_passes : {T : Type 0} (q : T → Bool) (all : List T) → filter q all ≡ [] → list_any q all ≡ false
none_passes q [] none = refl
none_passes q (x ∷ all) none = elim (cases_Bool (q x)) [
  | inl e ↦ let clash = sym (ap (λ b. cond b (x ∷ filter q all) (filter q all)) e) ∙ none in absurd (cc)
  | inr e ↦ ap (λ b. b || list_any q all) e ∙ none_passes q all (sym (ap (λ b. cond b (x ∷ filter q all) (filter q all)) e) ∙ none)
]

-- whether there is one
some_there : {T : Type 0} (number : T → ℕ) (q : T → Bool) (all ts : List T) → IsTop number (filter q all) ts → is_some (first ts) ≡ list_any q all
some_there number q all [] none = sym (none_passes q all none)
some_there number q all (t ∷ ts) top = let f = has_filtered q all t top.1 in sym (some_from q all t f.0 f.1)

still_some : {A B : Type 0} (f : A → B) (o : Option A) → is_some (option_map f o) ≡ is_some o
still_some f None = refl
still_some f (Some a) = refl

parts : (a s c : Bool) → ((a && (s && true)) && c) ≡ (a && (s && c))
parts true s c = ap (λ b. b && c) (and-true s)
parts false s c = refl

pub named_found : {E F : Type 0} (b st : List ℕ) (n : ℕ) (all : List MeterValueRow) (r : Result (Option (ℕ × ℕ)) E) (q : Result Bool F) → OnOk q (IsOk r) → IfOk r (λ o. IfOk q (λ is. is ≡ is_some o))
    → IfOk r (AreLastNumbers (meter_values_in b st (Some n) all)) → IfOk q (λ named. named ≡ list_any (λ m. is_sent_with (Some n) m.value.transaction) (meter_values_in b st None all))
named_found b st n all (Ok o) (Ok is) ok same last =
    same ∙ ap is_some last.2 ∙ still_some first_and_count (first last.0)
    ∙ some_there (λ m. m.first) (λ m. bytes_eq m.op b && is_meter_value st (Some n) m) all last.0 last.1
    ∙ sym (any_filtered (λ m. bytes_eq m.op b && is_meter_value st None m) (λ m. is_sent_with (Some n) m.value.transaction) (λ m. bytes_eq m.op b && is_meter_value st (Some n) m)
    (λ m. parts (bytes_eq m.op b) (bytes_eq m.station st) (is_sent_with (Some n) m.value.transaction)) all)
named_found b st n all (Ok o) (Err e) ok same last = tt
named_found b st n all (Err x) (Ok is) ok same last = absurd cc
named_found b st n all (Err x) (Err e) ok same last = tt
