-- One give after another.
use Rattle.std.proofs.Common.{◌≡◌, ℕ, ◌-◌, ◌≤◌, Bool, true, false, List, [], ◌++◌, length, take, drop, Option, Result, Ok, Err, refl, sym, ap, ◌∙◌, append_assoc, take-append-drop, arith, OnOk, OnErr, IfErr, ◌+◌, ◌<◌, if◌then◌else◌}
use Rattle.std.proofs.lemmas.List.{nil_from_length, take-append-le, drop-append-le, take_rest}
use Rattle.std.proofs.KnownBytes.{Appends-nil, Appends-trans}
use Rattle.std.specs.Io.KnownBytes.{Appends}
use Rattle.std.specs.IoError.{error_kind}
use Rattle.std.specs.declared.io.Error.{Error}
use Rattle.std.specs.declared.io.ErrorKind.TheVariants.{WriteZero, BrokenPipe, OutOfMemory}
use Rattle.ready_streams.specs.Blocks.{joined}
use Rattle.ready_streams.specs.declared.unsent.Unsent.{Unsent}
use Rattle.ready_streams.specs.Unsent.{waiting, left_of, Gives, Adds}

at_flag : (b : Bool) (xs : List ℕ) → (b ≡ true → xs ≡ []) → xs ≡ (if b then [] else xs)
at_flag true xs h = h refl
at_flag false xs h = refl

-- what waits is left of itself
pub left_self : (u : Unsent) → waiting u ≡ left_of u (waiting u)
left_self u = at_flag u.has_failed (waiting u) (λ failed. nil_from_length _ (sym u.counted ∙ u.dropped failed))

-- where no write has failed, the rest is left
pub left_lasts : (u : Unsent) (rest : List ℕ) → u.has_failed ≡ false → left_of u rest ≡ rest
left_lasts u rest lasts = ap (λ b. if b then [] else rest) lasts

-- nothing is given
pub gives_nothing : (a : Option (List ℕ)) (u : Unsent) → Gives a a u u
gives_nothing a u = record { given = []; rest = waiting u; parts = refl; passed = Appends-nil a; waits = left_self u; for_good = λ h. h }

-- one give after another
pub gives_more : (a b c : Option (List ℕ)) (u v w : Unsent) → Gives a b u v → v.has_failed ≡ false → Gives b c v w → Gives a c u w
gives_more a b c u v w one lasts two = record {
  given = one.given ++ two.given;
  rest = two.rest;
  parts = one.parts ∙ ap (λ xs. one.given ++ xs) (sym (left_lasts v one.rest lasts) ∙ sym one.waits ∙ two.parts) ∙ sym (append_assoc one.given two.given two.rest);
  passed = Appends-trans a b c one.given two.given one.passed two.passed;
  waits = two.waits;
  for_good = λ h. two.for_good (one.for_good h);
}

-- what waits begins with the rest of the first block
pub waiting_front : (u : Unsent) (block : List ℕ) → block ≡ u.blocks.first.items → waiting u ≡ take (length block - u.sent) (drop u.sent block) ++ joined u.blocks.later.items
waiting_front u block is =
    drop-append-le u.sent u.blocks.first.items (joined u.blocks.later.items) u.begun
    ∙ ap (λ xs. drop u.sent xs ++ joined u.blocks.later.items) (sym is)
    ∙ ap (λ xs. xs ++ joined u.blocks.later.items) (sym (take_rest block u.sent))

-- the stream has taken so many bytes of the block in front
pub gives_front : (a b : Option (List ℕ)) (u v : Unsent) (block behind : List ℕ) (n : ℕ) → waiting u ≡ block ++ behind → n ≤ length block → Appends a b (take n block) → waiting v ≡ drop n (waiting u) → u.has_failed ≡ false → v.has_failed ≡ u.has_failed → Gives a b u v
gives_front a b u v block behind n is within passed waits lasts same = record {
  given = take n block;
  rest = drop n (waiting u);
  parts = sym (take-append-drop n (waiting u)) ∙ ap (λ xs. xs ++ drop n (waiting u)) (ap (take n) is ∙ take-append-le n block behind within);
  passed = passed;
  waits = waits ∙ sym (left_lasts v _ (same ∙ lasts));
  for_good = λ h. same ∙ h;
}

-- an addition that was refused
pub adds_none : (a b : Option (List ℕ)) (bytes : List ℕ) (room : ℕ) (u v : Unsent) (e : Error) → Gives a b u v → (error_kind e ≡ WriteZero → room < length (waiting v) + length bytes) → (error_kind e ≡ BrokenPipe → v.has_failed ≡ true)
    → Adds a b bytes room u v (Err e)
adds_none a b bytes room u v e gives full broken = record { given = gives.given; rest = gives.rest; parts = gives.parts; passed = gives.passed; ok = tt; within = tt; err = gives.waits; for_good = gives.for_good; full = full; broken = broken }

-- an addition that was tried
pub adds_tried : (a b : Option (List ℕ)) (bytes : List ℕ) (room count : ℕ) (u v w : Unsent) (r : Result (Unit {0}) Error) → count ≤ room → Gives a b u v → v.has_failed ≡ false → w.has_failed ≡ false
    → OnOk r (waiting w ≡ waiting v ++ bytes) → OnOk r (length (waiting w) ≡ count) → OnErr r (waiting w ≡ waiting v) → IfErr r (λ e. error_kind e ≡ OutOfMemory) → Adds a b bytes room u w r
adds_tried a b bytes room count u v w (Ok x) fits gives lasts kept ok counted err memory =
    let waits : waiting v ≡ gives.rest = gives.waits ∙ left_lasts v gives.rest lasts in
    record { given = gives.given; rest = gives.rest; parts = gives.parts; passed = gives.passed; ok = ok ∙ ap (λ xs. xs ++ bytes) waits; within = omega arith; err = tt; for_good = λ h. (let failed = gives.for_good h in cc); full = tt; broken = tt }
adds_tried a b bytes room count u v w (Err e) fits gives lasts kept ok counted err memory =
    let waits : waiting v ≡ gives.rest = gives.waits ∙ left_lasts v gives.rest lasts in
    record { given = gives.given; rest = gives.rest; parts = gives.parts; passed = gives.passed; ok = tt; within = tt; err = err ∙ waits ∙ sym (left_lasts w gives.rest kept); for_good = λ h. (let failed = gives.for_good h in cc); full = λ is. cc; broken = λ is. cc }
