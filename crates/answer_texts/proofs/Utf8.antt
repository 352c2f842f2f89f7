-- A text that stays UTF-8 as pieces are added.
use Rattle.std.proofs.Common.{◌≡◌, ℕ, List, ◌++◌, IsUtf8, sym, subst}
use Rattle.std.proofs.lemmas.Str.{IsUtf8-append, IsUtf8-had}

pub added : (items before piece : List ℕ) → ∥ IsUtf8 before ∥₁ → IsUtf8 piece → items ≡ before ++ piece → ∥ IsUtf8 items ∥₁
added items before piece had more e = ∣ subst IsUtf8 (sym e) (IsUtf8-append before piece (IsUtf8-had before had) more) ∣₁
