-- A text before which a sign stands.
use Rattle.std.proofs.Common.{◌≡◌, ◌≢◌, ℕ, List, [], ◌∷◌, Option, Some, None, Bor, MatchOption, option_map, ap, sym, refl, if◌then◌else◌}
use Rattle.std.proofs.lemmas.Bool.{ne_eqb}
use Rattle.clients.specs.Replies.{after_sign}

no_sign : (text : List ℕ) → ((rest : List ℕ) → text ≢ 35 ∷ rest) → None ≡ after_sign text
no_sign [] h = refl
no_sign (c ∷ rest) h = sym (ap (λ b. if b then Some rest else None) (ne_eqb c 35 (λ e. h rest (ap (λ d. d ∷ rest) e))))

-- what is left once the sign is cut off
pub sign_cut : (text : List ℕ) (found : Option (Bor (List ℕ))) → MatchOption found ((rest : List ℕ) → text ≢ 35 ∷ rest) (λ x. text ≡ 35 ∷ x.now) → option_map (λ x. x.now) found ≡ after_sign text
sign_cut text None h = no_sign text h
sign_cut text (Some x) h = sym (ap after_sign h)
