-- A number above all of some is none of them.
use Rattle.std.specs.Prelude.{◌≡◌, ℕ, ◌<◌, ◌≤◌, nat_lt, max, List, [], ◌∷◌, true, false, ◌||◌, ◌==◌, not}
use Rattle.std.proofs.Common.{refl, sym, ap, arith}
use Rattle.std.proofs.Math.Nat.{le-max_left, le-max_right}
use Rattle.std.proofs.lemmas.Bool.Decides.{Decides-eqb, nat_tests}
use Rattle.hub_rows.specs.Forgetting.{has_number}
use Rattle.hub_rows.specs.Keyed.{greatest}

not-equal : (m n : ℕ) → m < n → (m == n) ≡ false
not-equal m n low =
    elim (m == n) as (λ b. (m == n) ≡ b → b ≡ false) [
      | true ↦ λ e. let same : m ≡ n = (Decides-eqb m n).0 e in absurd (omega (arith, low, same))
      | false ↦ λ e. refl
    ] refl

above-none : (ns : List ℕ) (n : ℕ) → greatest ns < n → has_number ns n ≡ false
above-none [] n low = refl
above-none (m ∷ ns) n low =
    let here : m ≤ max m (greatest ns) = le-max_left m (greatest ns) in
    let there : greatest ns ≤ max m (greatest ns) = le-max_right m (greatest ns) in
    λ i. not-equal m n (omega (arith, here, low)) i || above-none ns n (omega (arith, there, low)) i

pub none-above : (ns : List ℕ) (n : ℕ) → (nat_lt (greatest ns) n || not (has_number ns n)) ≡ not (has_number ns n)
none-above ns n =
    elim (nat_lt (greatest ns) n) as (λ b. nat_lt (greatest ns) n ≡ b → (b || not (has_number ns n)) ≡ not (has_number ns n)) [
      | true ↦ λ e. let low : greatest ns < n = grind (arith, nat_tests, e) in sym (ap not (above-none ns n low))
      | false ↦ λ e. refl
    ] refl
