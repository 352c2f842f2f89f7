-- Peers at some places, one after the other.
use Rattle.std.proofs.Common.{List, [], drop, subst, refl, ℕ, ◌+◌, ◌∷◌, ◌≡◌, sym}
use Rattle.ws_server.specs.Probes.{Visit, Visits}

module _ {P : Type 0} (R : P → P → Type 0) (places : List ℕ) (old : List P) where
  -- what changes at the places from i on has changed at all
  abbrev pub Left : ℕ → List P → Type 0
  Left i now = (end : List P) → Visits R (drop i places) now end → Visits R places old end

  -- one place more
  pub visit-on : (i n : ℕ) (now new : List P) → drop i places ≡ n ∷ drop (i + 1) places → Left i now → Visit R n now new → Left (i + 1) new
  visit-on i n now new next on visit = λ end rest. on end (subst (λ ns. Visits R ns now end) (sym next) (new, visit, rest))

  -- no place is left
  pub visit-end : (i : ℕ) (now : List P) → drop i places ≡ [] → Left i now → Visits R places old now
  visit-end i now none on = on now (subst (λ ns. Visits R ns now now) (sym none) refl)
