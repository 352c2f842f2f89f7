-- The readings of a meter value, one after the other.
use Rattle.std.proofs.Common.{arith, ◌≡◌, ◌+◌, ◌∙◌, ℕ, List, [], ◌∷◌, ◌++◌, length, ap, map}
use Rattle.std.specs.List.{enumerate_from}

-- one more is numbered after those before it
pub one_more : {X Y : Type 0} (f : ℕ × X → Y) (n : ℕ) (xs : List X) (x : X) → map f (enumerate_from n (xs ++ x ∷ [])) ≡ map f (enumerate_from n xs) ++ f (n + length xs, x) ∷ []
one_more f n [] x = let same : n ≡ n + 0 = omega arith in ap (λ m. f (m, x) ∷ []) same
one_more f n (y ∷ ys) x =
    let same : (n + 1) + length ys ≡ n + length (y ∷ ys) = omega arith in
    ap (λ l. f (n, y) ∷ l) (one_more f (n + 1) ys x ∙ ap (λ m. map f (enumerate_from (n + 1) ys) ++ f (m, x) ∷ []) same)
