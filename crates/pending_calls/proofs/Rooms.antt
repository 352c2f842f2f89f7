-- What is left of a room beside a sum of sizes, which are taken from it one after another.
use Rattle.std.specs.Prelude.{◌≡◌, ℕ, ◌+◌, ◌-◌, ◌<◌, ◌≤◌, List, length, drop, sum_by, map}
use Rattle.std.proofs.Common.{get_or, sym, ◌∙◌, ap, arith}
use Rattle.std.proofs.lemmas.List.{drop_all}
use Rattle.std.proofs.Math.ListN.{get_or-map}
use Rattle.std.proofs.lemmas.List.Sums.{sum_by-drop_more}

module _ {X : Type 0} (size : X → ℕ) where
  -- one size more is taken
  pub one_taken : (xs : List X) (i : ℕ) (x : X) (left new room : ℕ) → i < length xs → x ≡ get_or xs i x → new ≡ left - size x → left - sum_by size (drop i xs) ≡ room - sum_by size xs → new - sum_by size (drop (i + 1) xs) ≡ room - sum_by size xs
  one_taken xs i x left new room within is taken before =
      let here : sum_by size (drop i xs) ≡ size (get_or xs i x) + sum_by size (drop (i + 1) xs) = sum_by-drop_more size xs i x within in
      let same : size (get_or xs i x) ≡ size x = ap size (sym is) in
      omega arith

  -- all sizes are taken
  pub all_taken : (xs : List X) (i : ℕ) (left room : ℕ) → length xs ≤ i → left - sum_by size (drop i xs) ≡ room - sum_by size xs → left ≡ room - sum_by size xs
  all_taken xs i left room end before =
      let none : sum_by size (drop i xs) ≡ 0 = ap (sum_by size) (drop_all i xs end) in
      omega arith

-- the image of the element at an index
pub mapped_at : {X Y : Type 0} (f : X → Y) (xs : List X) (i : ℕ) (x : X) → x ≡ get_or xs i x → f x ≡ get_or (map f xs) i (f x)
mapped_at f xs i x is = ap f is ∙ sym (get_or-map f xs i x)
