-- What a call on a connection answers, by the rows that the database shows.
use Rattle.std.proofs.Common.{◌≡◌, ◌||◌, ◌&&◌, refl, ℕ, List, [], ◌∷◌, Bool, Option, Some, is_some, true, false, cond, Ok, Err, Result, IfOk, IsOk, OnOk, filter, find, map, ap, sym, ◌∙◌}
use Rattle.std.specs.List.{list_any}
use Rattle.sqlite_trees.specs.Tree.{Trees}
use Rattle.sqlite_value.specs.Order.{Row, column}
use Rattle.hub_rows.specs.Keyed.{first, greatest, put_all}
use Rattle.hub_rows.proofs.OrderLaws.{find-first}
use Rattle.sql_rows.specs.TypedTable.{TypedTable, cmp, rows_in}
use Rattle.sql_rows.specs.Values.{count_in}

-- the first of the rows that are shown is the first that passes
pub first_finds : {V T E F : Type 0} (items : V → List Row) (s : TypedTable T) (p : T → Bool) (db : Trees) (r : Result V E) (q : Result (Option T) F) → OnOk q (IsOk r)
    → IfOk r (λ v. IfOk q (λ o. o ≡ first (put_all (cmp s) (map s.read (items v)) []))) → IfOk r (λ v. put_all (cmp s) (map s.read (items v)) [] ≡ filter p (rows_in s db)) → IfOk q (λ o. o ≡ find p (rows_in s db))
first_finds items s p db (Ok v) (Ok o) ok is shown = is ∙ ap first shown ∙ sym (find-first p (rows_in s db))
first_finds items s p db (Ok v) (Err e) ok is shown = tt
first_finds items s p db (Err x) (Ok o) ok is shown = absurd cc
first_finds items s p db (Err x) (Err e) ok is shown = tt

find_any : {T : Type 0} (p : T → Bool) (xs : List T) → is_some (find p xs) ≡ list_any p xs
find_any p [] = refl
find_any p (x ∷ xs) = elim (p x) as (λ b. is_some (cond b (Some x) (find p xs)) ≡ (b || list_any p xs)) [ true ↦ refl | false ↦ find_any p xs ]

-- whether a row is found is whether any passes
pub any_finds : {T E F : Type 0} (p : T → Bool) (xs : List T) (r : Result (Option T) E) (q : Result Bool F) → OnOk q (IsOk r) → IfOk r (λ o. IfOk q (λ b. b ≡ is_some o)) → IfOk r (λ o. o ≡ find p xs) → IfOk q (λ b. b ≡ list_any p xs)
any_finds p xs (Ok o) (Ok b) ok is found = is ∙ ap is_some found ∙ find_any p xs
any_finds p xs (Ok o) (Err e) ok is found = tt
any_finds p xs (Err x) (Ok b) ok is found = absurd cc
any_finds p xs (Err x) (Err e) ok is found = tt

-- whether any of the rows that pass the one test passes the other
pub any_filtered : {T : Type 0} (p q t : T → Bool) → ((x : T) → (p x && q x) ≡ t x) → (xs : List T) → list_any q (filter p xs) ≡ list_any t xs
any_filtered p q t same [] = refl
any_filtered p q t same (x ∷ xs) =
    elim (p x) as (λ b. list_any q (cond b (x ∷ filter p xs) (filter p xs)) ≡ ((b && q x) || list_any t xs)) [
      | true ↦ ap (λ l. q x || l) (any_filtered p q t same xs)
      | false ↦ any_filtered p q t same xs
    ]
    ∙ ap (λ b. b || list_any t xs) (same x)

-- the number that is shown is the last
pub last_finds : {V E F : Type 0} (items : V → List Row) (at last : ℕ) (r : Result V E) (q : Result ℕ F) → OnOk q (IsOk r)
    → IfOk r (λ v. IfOk q (λ n. n ≡ greatest (map (λ x. count_in (column x at)) (items v)))) → IfOk r (λ v. greatest (map (λ x. count_in (column x at)) (items v)) ≡ last) → IfOk q (λ n. n ≡ last)
last_finds items at last (Ok v) (Ok n) ok is shown = is ∙ shown
last_finds items at last (Ok v) (Err e) ok is shown = tt
last_finds items at last (Err x) (Ok n) ok is shown = absurd cc
last_finds items at last (Err x) (Err e) ok is shown = tt

pub regrouped : (a b c d : Bool) → ((a && (b && c)) && d) ≡ (a && (c && (b && d)))
regrouped true true true d = refl
regrouped true true false d = refl
regrouped true false true d = refl
regrouped true false false d = refl
regrouped false b c d = refl
