use Rattle.std.proofs.Common.{◌≡◌, ◌∙◌, ℕ, ℤ, List, [], ◌∷◌, Some, length, w64, to_z, of_z, ap, arith, rules}
use Rattle.std.proofs.lemmas.Int.{to_z-of_z}
use Rattle.sqlite_value.specs.declared.value.Value.TheVariants.{Int, Text}
use Rattle.sqlite_value.specs.Order.{Row, column}
use Rattle.store_sql.proofs.opening.number_named.Goals as goal

two_columns : (row : Row) (text : List ℕ) (n : ℤ) → length row ≡ 2 → column row 0 ≡ Text text → column row 1 ≡ Int n → row ≡ Text text ∷ Int n ∷ []
two_columns [] text n long first second = absurd (omega (arith, long))
two_columns (a ∷ []) text n long first second = absurd (omega (arith, long))
two_columns (a ∷ b ∷ []) text n long first second = λ i. first i ∷ second i ∷ []
two_columns (a ∷ b ∷ c ∷ row) text n long first second = absurd (omega (arith, long))

pub returns-in-2-Ok-Text-Ok-Int : goal.returns-in-2-Ok-Text-Ok-Int
returns-in-2-Ok-Text-Ok-Int c =
    let k = c.in-2-Ok-Text-Ok-Int.number in
    let round : to_z w64 (of_z w64 k) ≡ k = grind (arith, to_z-of_z) in
    let long : length c.args.row.now ≡ 2 = search rules in
    let first : column c.args.row.now 0 ≡ Text c.args.name.now = search rules in
    let second : column c.args.row.now 1 ≡ Int k = search rules in
    let whole = two_columns c.args.row.now c.args.name.now k long first second in
    λ n. (
      λ e. let same : k ≡ n = cc in whole ∙ ap (λ z. Text c.args.name.now ∷ Int z ∷ []) same,
      λ is. let same : k ≡ n = cc in ap Some (round ∙ same),
    )
