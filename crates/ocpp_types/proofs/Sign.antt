-- Texts whose sign was looked for.
use Rattle.std.proofs.Common.{◌≡◌, ◌≢◌, ℕ, List, [], ◌∷◌, false, cond, Option, Some, None, Bor, MatchOption, drop, refl, ap, sym}
use Rattle.std.specs.Option.{unwrap_or}
use Rattle.std.specs.Str.Parse.{starts_with_minus, without_leading_plus}
use Rattle.std.proofs.lemmas.Bool.{ne_eqb}

pub no_minus : (bs : List ℕ) → ((rest : List ℕ) → bs ≢ 45 ∷ rest) → starts_with_minus bs ≡ false
no_minus [] h = refl
no_minus (c ∷ cs) h = ne_eqb c 45 (λ e. h cs (ap (λ d. d ∷ cs) e))

no_plus : (bs : List ℕ) → ((rest : List ℕ) → bs ≢ 43 ∷ rest) → without_leading_plus bs ≡ bs
no_plus [] h = refl
no_plus (c ∷ cs) h = ap (λ b. drop (cond b 1 0) (c ∷ cs)) (ne_eqb c 43 (λ e. h cs (ap (λ d. d ∷ cs) e)))

pub plus_left_out : (text : Bor (List ℕ)) (found : Option (Bor (List ℕ))) → MatchOption found ((rest : List ℕ) → text.now ≢ 43 ∷ rest) (λ x. text.now ≡ 43 ∷ x.now)
    → (unwrap_or found text).now ≡ without_leading_plus text.now
plus_left_out text None h = sym (no_plus text.now h)
plus_left_out text (Some x) h = ap without_leading_plus (sym h)
