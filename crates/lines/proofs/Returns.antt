-- A text without a carriage return at its end.
use Rattle.std.proofs.Common.{arith, ◌≡◌, ◌≢◌, ◌∙◌, ℕ, ◌+◌, ◌-◌, true, false, List, [], ◌∷◌, ◌++◌, length, take, sym, ap, refl}
use Rattle.std.specs.Prelude.{slice_index}
use Rattle.std.specs.Io.BufRead.{ends_with_byte, strip_last}
use Rattle.std.proofs.Math.Seq.{take-length}
use Rattle.std.proofs.lemmas.List.{take_more}

with_last : (xs : List ℕ) (n byte : ℕ) → length xs ≡ n + 1 → slice_index xs n ≡ byte → xs ≡ take n xs ++ byte ∷ []
with_last xs n byte size last =
    sym (take-length xs) ∙ ap (λ k. take k xs) size ∙ take_more xs n 0 (omega (arith, size)) ∙ ap (λ b. take n xs ++ b ∷ []) last

-- where no front followed by a carriage return is the text, nothing is stripped
pub lacks_return : (xs : List ℕ) → ((front : List ℕ) → xs ≢ front ++ 13 ∷ []) → xs ≡ strip_last 13 xs
lacks_return xs lacks =
    elim (ends_with_byte 13 xs) as (λ b. ends_with_byte 13 xs ≡ b → xs ≡ strip_last 13 xs) [
      | true ↦ λ e. absurd (lacks (take (length xs - 1) xs) (with_last xs (length xs - 1) 13 (grind (arith, e)) (grind (arith, e))))
      | false ↦ λ e. grind (arith, e)
    ] refl
