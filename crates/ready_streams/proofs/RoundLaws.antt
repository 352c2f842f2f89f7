-- Fewer streams come before one that waits, with each turn.
use Rattle.std.proofs.Common.{◌≡◌, ℕ, zero, suc, ◌+◌, ◌<◌, ◌≤◌, Bool, true, false, cond, List, [], ◌∷◌, length, get_or, Option, Some, IfSome, ◌⊎◌, inl, inr, refl, ap, ◌∙◌, subst, Contains, count_by, arith}
use Rattle.std.proofs.lemmas.Bool.Decides.{nat_tests}
use Rattle.std.proofs.lemmas.List.Recursion.{is_count_by}
use Rattle.ready_streams.specs.Order.{is_before, count_before}
use Rattle.ready_streams.specs.Rounds.{Waits}
use Rattle.ready_streams.specs.declared.round.Round.{Round}

-- how many pass the test
abbrev tally : (ℕ → Bool) → List ℕ → ℕ
tally p [] = 0
tally p (x ∷ xs) = cond (p x) (1 + tally p xs) (tally p xs)

tally_is : (p : ℕ → Bool) (xs : List ℕ) → tally p xs ≡ count_by p xs
tally_is p xs = is_count_by (tally p) p refl (λ _ _. refl) xs

step_le : (b c : Bool) (m n : ℕ) → (b ≡ true → c ≡ true) → m ≤ n → cond b (1 + m) m ≤ cond c (1 + n) n
step_le true true m n h l = omega arith
step_le true false m n h l = let e = h refl in cc
step_le false true m n h l = omega arith
step_le false false m n h l = l

step_lt : (b c : Bool) (m n : ℕ) → (b ≡ true → c ≡ true) → m < n → cond b (1 + m) m < cond c (1 + n) n
step_lt true true m n h l = omega arith
step_lt true false m n h l = let e = h refl in cc
step_lt false true m n h l = omega arith
step_lt false false m n h l = l

step_new : (b c : Bool) (m n : ℕ) → b ≡ false → c ≡ true → m ≤ n → cond b (1 + m) m < cond c (1 + n) n
step_new false true m n p q l = omega arith
step_new true c m n p q l = cc
step_new false false m n p q l = cc

tally_le : (p q : ℕ → Bool) → ((u : ℕ) → q u ≡ true → p u ≡ true) → (xs : List ℕ) → tally q xs ≤ tally p xs
tally_le p q h [] = omega arith
tally_le p q h (x ∷ xs) = step_le (q x) (p x) _ _ (h x) (tally_le p q h xs)

tally_lt : (p q : ℕ → Bool) → ((u : ℕ) → q u ≡ true → p u ≡ true) → (xs : List ℕ) (k x : ℕ) → k < length xs → get_or xs k x ≡ x → p x ≡ true → q x ≡ false → tally q xs < tally p xs
tally_lt p q h [] k x within is was now = absurd (omega arith)
tally_lt p q h (y ∷ ys) zero x within is was now = step_new (q y) (p y) _ _ (ap q is ∙ now) (ap p is ∙ was) (tally_le p q h ys)
tally_lt p q h (y ∷ ys) (suc k) x within is was now = step_lt (q y) (p y) _ _ (h y) (tally_lt p q h ys k x (omega arith) is was now)

-- what comes before in the order behind a later token did so before
before_more : (last first token u : ℕ) → is_before last first token ≡ true → is_before first u token ≡ true → is_before last u token ≡ true
before_more last first token u one two = grind (arith, nat_tests)

-- a token is behind all in the order behind itself
before_itself : (last token : ℕ) → is_before last last token ≡ false
before_itself last token = grind (arith, nat_tests)

count_less : (last first token : ℕ) (streams : List ℕ) → Contains streams first → is_before last first token ≡ true → count_before first token streams < count_before last token streams
count_less last first token streams has before =
    let p : ℕ → Bool = λ u. is_before last u token in
    let q : ℕ → Bool = λ u. is_before first u token in
    let less = tally_lt p q (λ u. before_more last first token u before) streams has.0 first has.1 has.2 before (before_itself first token) in
    omega (arith, tally_is p streams, tally_is q streams)

nearer_parts : (last first token : ℕ) (streams : List ℕ) → Contains streams first → (first ≡ token) ⊎ (is_before last first token ≡ true) → (Some first ≡ Some token) ⊎ (count_before first token streams < count_before last token streams)
nearer_parts last first token streams has (inl is) = inl (ap Some is)
nearer_parts last first token streams has (inr before) = inr (count_less last first token streams has before)

-- one that waits is the first, or fewer come before it behind the first
pub nearer : (r : Round) (first token : ℕ) (streams : List ℕ) → r.first ≡ Some first → IfSome r.first (Contains streams) → Waits r token → (Some first ≡ Some token) ⊎ (count_before first token streams < count_before r.last token streams)
nearer r first token streams is has w =
    let same : w.first ≡ first = cc in
    let member : IfSome (Some first) (Contains streams) = subst (λ (o : Option ℕ). IfSome o (Contains streams)) is has in
    nearer_parts r.last first token streams member (subst (λ (f : ℕ). (f ≡ token) ⊎ (is_before r.last f token ≡ true)) same w.behind)
