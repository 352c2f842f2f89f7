-- Digits that don't begin with a zero.
use Rattle.std.proofs.Common.{◌≡◌, ◌≢◌, ℕ, List, [], ◌∷◌, cond, refl, ap}
use Rattle.std.proofs.lemmas.Bool.{ne_eqb}
use Rattle.repairs.specs.Texts.{without_zeros}

pub without_zeros-other : (digits : List ℕ) → ((rest : List ℕ) → digits ≢ 48 ∷ rest) → without_zeros digits ≡ digits
without_zeros-other [] h = refl
without_zeros-other (c ∷ []) h = refl
without_zeros-other (c ∷ d ∷ rest) h = ap (λ b. cond b (without_zeros (d ∷ rest)) (c ∷ d ∷ rest)) (ne_eqb c 48 (λ e. h (d ∷ rest) (ap (λ x. x ∷ d ∷ rest) e)))
