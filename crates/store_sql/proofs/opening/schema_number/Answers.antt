use Rattle.std.proofs.Common.{◌≡◌, ◌∙◌, ◌+◌, ◌<◌, ℕ, zero, suc, List, [], ◌∷◌, ◌++◌, length, get_or, take, w64, to_z, of_z, ap, sym, subst, arith, rules, inl, inr}
use Rattle.std.proofs.lemmas.Int.{to_z-of_z}
use Rattle.std.proofs.lemmas.List.{take_more}
use Rattle.sqlite_rules.specs.Lists.{Has}
use Rattle.sqlite_rules.proofs.ListLemmas.{has_either}
use Rattle.store_sql.specs.Known.{number_row}
use Rattle.store_sql.proofs.opening.schema_number.Goals as goal

has_at : {X : Type 0} (xs : List X) (i : ℕ) (x : X) → i < length xs → x ≡ get_or xs i x → Has xs x
has_at [] i x within is = absurd (omega (arith, within))
has_at (y ∷ xs) zero x within is = inl is
has_at (y ∷ xs) (suc i) x within is = inr (has_at xs i x (omega (arith, within)) is)

pub returns-in-Some : goal.returns-in-Some
returns-in-Some c =
    let round : to_z w64 (of_z w64 c.in-Some.number) ≡ c.in-Some.number = grind (arith, to_z-of_z) in
    let same = (c.number_named.ensures c.in-Some.number).0 c.in-Some.is in
    subst (Has c.args.rows.now) (same ∙ ap number_row (sym round)) (has_at c.args.rows.now c.rows.row-index c.row-item.result c.rows-test.true c.row-item.is)

pub rows-preserved : goal.rows-preserved
rows-preserved c = λ n h.
    let before = take c.rows.row-index c.args.rows.now in
    let more : take (c.rows.row-index + 1) c.args.rows.now ≡ before ++ c.row-item.result ∷ [] = search (rules, take_more) in
    elim (has_either before (c.row-item.result ∷ []) (number_row n) (subst (λ l. Has l (number_row n)) more h)) [
      | inl there ↦ c.rows.invariant n there
      | inr (inl here) ↦ c.in_default.not-Some n ((c.number_named.ensures n).1 (sym here))
      | inr (inr none) ↦ absurd none
    ]
