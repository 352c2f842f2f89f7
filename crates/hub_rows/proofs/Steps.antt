-- Steps of loops over lists.
use Rattle.std.proofs.Math.Seq.{take-append_seam}
use Rattle.std.proofs.Common.{◌++◌, take, ◌≡◌, ℕ, suc, ◌+◌, ◌<◌, List, ◌∷◌, length, get_or, drop, ◌∙◌, ap, sym, drop-cons, add-one}

-- what is left begins with the element that is read
pub drop_here : {X : Type 0} (xs : List X) (i : ℕ) (x : X) → i < length xs → x ≡ get_or xs i x → drop i xs ≡ x ∷ drop (i + 1) xs
drop_here xs i x within is = rw add-one (drop-cons xs i x within ∙ ap (λ y. y ∷ drop (suc i) xs) (sym is))

-- a list to which more is added begins with what it was
pub begins : {X : Type 0} (old more : List X) → take (length old) (old ++ more) ≡ old
begins old more = take-append_seam old more
