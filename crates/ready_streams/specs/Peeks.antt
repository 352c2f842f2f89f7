-- What a peek gives.
use Rattle.std.specs.Prelude.{◌≡◌, ℕ, List, length, take, min, ⊤, Option, None, Some, Result, Ok, IfOk}

-- where it is known which bytes reads will give, a peek gives as many of them as there is room for, from the first on;
-- where it isn't, nothing is said
abbrev pub PeekShows : {E : Type 0} → Option (List ℕ) → Result ℕ E → List ℕ → Type 0
PeekShows None r buf = ⊤
PeekShows (Some all) r buf = (r ≡ Ok (min (length buf) (length all))) × IfOk r (λ n. take n buf ≡ take n all)
