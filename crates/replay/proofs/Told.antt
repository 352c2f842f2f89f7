-- That what was written is on record. A store that isn't clean can't be told from one that is by what a reopening finds: so
-- where nothing follows of it, any rows count as on record, and there are other ones than those found.
use Rattle.std.proofs.Common.{◌≡◌, ◌∙◌, sym, ap, subst, ◌⊎◌, inl, inr, ◌+◌, ◌-◌, ◌++◌, List, ℕ, [], ◌∷◌, Bool, true, false, true≢false, length, length-append, take, drop, refl, append_assoc, append-nil, arith}
use Rattle.std.specs.Prelude.{Option, Some, None, IfSome, Err}
use Rattle.std.specs.Str.{bytes_eq}
use Rattle.std.proofs.lemmas.List.{append_cancel_right}
use Rattle.std.proofs.Math.Seq.{take-append_seam, drop-append_seam}
use Rattle.hub_rows.proofs.ListLaws.{same_text, text_itself}
use Rattle.hub_rows.proofs.OnRecord.{record_as}
use Rattle.hub_rows.specs.declared.store.Flush.{Flush}
use Rattle.hub_rows.specs.declared.store.Flush.TheVariants.{AtOnce, Later}
use Rattle.hub_rows.specs.Rows.{Rows}
use Rattle.hub_rows.specs.Stops.{FindsOldOr, HasOnRecord, IsKept, PutsOnRecord, Records, StaysOnRecord}
use Rattle.hub_rows.specs.StoreView.{StoreView}
use Rattle.hub.specs.World.{Setting, World}
use Rattle.lines.specs.InputLines.{spelled}
use Rattle.replay.specs.Held.{lines_of}
use Rattle.replay.specs.Lines.{HandsOut}
use Rattle.replay.specs.Run.{AppendsFront, Begins, Falls, Grown, Stands, answer, answers_to, after, world_after}
use Rattle.replay.specs.Told.{AreTold, Tells, pending}
use Rattle.replay.specs.Turns.{SettlesBeforeWriting}
use Rattle.std.specs.Io.KnownBytes.{Keeps}
use Rattle.replay.proofs.Facts.{falls_part, stands_start, stands_kept}
use Rattle.replay.proofs.Progress.{Progress, ProgressOf, line_done}
use Rattle.replay.proofs.Turns.{Waits}

-- ---- what was written, or not

-- rows that aren't these
other : (r : Rows) → (x : Rows) × (r ≡ x → ⊥)
other r = (record r { grants = record { op = []; key = []; to = []; until = None } ∷ r.grants }, λ e. omega (arith, ap (λ (x : Rows). length x.grants) e))

told_or_made : (T Q : Type 0) (r on : Rows) → T ⊎ (T → ⊥) → ((x : Rows) → (T → x ≡ on) → (r ≡ x) ⊎ Q) → ((r ≡ on) × T) ⊎ Q
told_or_made T Q r on (inl t) all = elim (all on (λ t'. refl)) [
  | inl same ↦ inl (same, t)
  | inr made ↦ inr made
]
told_or_made T Q r on (inr untold) all = let o = other r in elim (all o.0 (λ t. absurd (untold t))) [
  | inl same ↦ absurd (o.1 same)
  | inr made ↦ inr made
]

told_alone : (T : Type 0) (r on : Rows) → T ⊎ (T → ⊥) → ((x : Rows) → (T → x ≡ on) → r ≡ x) → (r ≡ on) × T
told_alone T r on known all = elim (told_or_made T ⊥ r on known (λ x h. inl (all x h))) [
  | inl both ↦ both
  | inr none ↦ absurd none
]

-- the front and the rest of it, by lengths
front_of : (xs ys text whole : List ℕ) (n : ℕ) (f : Falls (Some xs) (Some ys) text whole) → n ≡ length ys - length xs → take n whole ≡ f.stands.done
front_of xs ys text whole n f count =
    let g = f.stands in
    let same : n ≡ length g.done = omega (arith, count, ap length g.now, length-append xs g.done) in
    ap (λ m. take m whole) same ∙ ap (take (length g.done)) (sym g.all) ∙ take-append_seam g.done (text ++ f.ahead)

rest_of : (xs ys text whole : List ℕ) (n : ℕ) (f : Falls (Some xs) (Some ys) text whole) → n ≡ length ys - length xs → drop (n + length text) whole ≡ f.ahead
rest_of xs ys text whole n f count =
    let g = f.stands in
    let same : n + length text ≡ length (g.done ++ text) = omega (arith, count, ap length g.now, length-append xs g.done, length-append g.done text) in
    ap (λ m. drop m whole) same ∙ ap (drop (length (g.done ++ text))) (sym g.all ∙ sym (append_assoc g.done text f.ahead)) ∙ drop-append_seam (g.done ++ text) f.ahead

whole_of : (xs ys text whole : List ℕ) (n : ℕ) (f : Falls (Some xs) (Some ys) text whole) → n ≡ length ys - length xs → whole ≡ take n whole ++ (text ++ drop (n + length text) whole)
whole_of xs ys text whole n f count =
    sym f.stands.all ∙ (λ i. sym (front_of xs ys text whole n f count) i ++ (text ++ sym (rest_of xs ys text whole n f count) i))

grown_or_not : (xs ys text whole : List ℕ) (n : ℕ) (a b : Bool) → n ≡ length ys - length xs → bytes_eq ys (xs ++ take n whole) ≡ a → bytes_eq whole (take n whole ++ (text ++ drop (n + length text) whole)) ≡ b
    → Falls (Some xs) (Some ys) text whole ⊎ (Falls (Some xs) (Some ys) text whole → ⊥)
grown_or_not xs ys text whole n true true count front rest = inl (record {
  ahead = drop (n + length text) whole;
  stands = record { done = take n whole; now = same_text ys (xs ++ take n whole) front; all = sym (same_text whole (take n whole ++ (text ++ drop (n + length text) whole)) rest) };
})
grown_or_not xs ys text whole n false b count front rest = inr (λ f.
    let g = f.stands in
    true≢false (sym (text_itself ys (xs ++ take n whole) (g.now ∙ ap (λ d. xs ++ d) (sym (front_of xs ys text whole n f count)))) ∙ front))
grown_or_not xs ys text whole n true false count front rest = inr (λ f.
    true≢false (sym (text_itself whole (take n whole ++ (text ++ drop (n + length text) whole)) (whole_of xs ys text whole n f count)) ∙ rest))

falls_or_not : (begin now : Option (List ℕ)) (text whole : List ℕ) → Falls begin now text whole ⊎ (Falls begin now text whole → ⊥)
falls_or_not None now text whole = inl (record { ahead = []; stands = tt })
falls_or_not (Some xs) None text whole = inr (λ f. f.stands)
falls_or_not (Some xs) (Some ys) text whole = let n = length ys - length xs in
    grown_or_not xs ys text whole n (bytes_eq ys (xs ++ take n whole)) (bytes_eq whole (take n whole ++ (text ++ drop (n + length text) whole))) refl refl refl

-- ---- what the lines so far were answered

answers_split : (st : Setting) (w : World) (k : ℕ) (front rest : List (List ℕ)) → answers_to st w k (front ++ rest) ≡ answers_to st w k front ++ answers_to st (world_after st w front) (k + length front) rest
unfolding answers_to world_after
answers_split st w k [] rest = ap (λ n. answers_to st w n rest) (omega arith)
answers_split st w k (l ∷ front) rest =
    let said = answer st w k (spelled st.is_hosted l) in
    let next = after st w (spelled st.is_hosted l) in
    ap (λ t. said ++ t) (answers_split st next (k + 1) front rest ∙ ap (λ n. answers_to st next (k + 1) front ++ answers_to st (world_after st next front) n rest) (omega arith))
    ∙ sym (append_assoc said (answers_to st next (k + 1) front) (answers_to st (world_after st next front) (k + length (l ∷ front)) rest))

grown_done : (xs ys text' rest whole before : List ℕ) → Grown xs ys (text' ++ rest) whole → whole ≡ before ++ rest → Falls (Some xs) (Some ys) text' before
grown_done xs ys text' rest whole before g split = record {
  ahead = [];
  stands = record {
    done = g.done;
    now = g.now;
    all = ap (λ t. g.done ++ t) (append-nil text') ∙ append_cancel_right (g.done ++ text') before rest (append_assoc g.done text' rest ∙ g.all ∙ split);
  };
}

falls_done : (begin now : Option (List ℕ)) (text' rest whole before : List ℕ) → Stands begin now (text' ++ rest) whole → whole ≡ before ++ rest → Falls begin now text' before
falls_done None now text' rest whole before s split = record { ahead = []; stands = tt }
falls_done (Some xs) None text' rest whole before s split = absurd s
falls_done (Some xs) (Some ys) text' rest whole before s split = grown_done xs ys text' rest whole before s split

-- of the lines so far, all but what waits was written
done_falls : (clean : Type 0) (st : Setting) (w v : World) (k n : ℕ) (begin now : Option (List ℕ)) (text text' : List ℕ) (all ahead : List (List ℕ)) (p : Progress clean st w v k n begin now text text' all ahead) → clean → Falls begin now text' (text ++ answers_to st w k p.done)
done_falls clean st w v k n begin now text text' all ahead p c =
    let whole = text ++ answers_to st w k all in
    falls_done begin now text' (answers_to st v n ahead) whole (text ++ answers_to st w k p.done) (p.written c begin whole (stands_start begin whole))
    (ap (λ t. text ++ t) (ap (answers_to st w k) p.lines ∙ answers_split st w k p.done ahead
    ∙ (λ i. answers_to st w k p.done ++ answers_to st (sym (p.world c) i) (sym p.number i) ahead))
    ∙ sym (append_assoc text (answers_to st w k p.done) (answers_to st v n ahead)))

-- the same of what may be written after a fault
falls_pending : (when : Flush) (begin now : Option (List ℕ)) (text' whole : List ℕ) → Falls begin now text' whole → Falls begin now (pending when text') whole
falls_pending AtOnce begin now text' whole f = f
falls_pending Later begin now text' whole f = record { ahead = text' ++ f.ahead; stands = f.stands }

done_taken : (all done ahead : List (List ℕ)) → all ≡ done ++ ahead → take (length done) all ≡ done
done_taken all done ahead lines = ap (take (length done)) lines ∙ take-append_seam done ahead

-- ---- while lines are answered

-- so many lines are on record, and no other answers than theirs were written; where other ones were, any rows count as on record
pub record Told (st : Setting) (w : World) (k : ℕ) (begin : Option (List ℕ)) (text : List ℕ) (all : List (List ℕ)) (when : Flush) (s : StoreView) (now : Option (List ℕ)) (text' : List ℕ) : Type 0 where
  pub taken : ℕ
  pub has : (x : Rows) → (Falls begin now (pending when text') (text ++ answers_to st w k (take taken all)) → x ≡ (world_after st w (take taken all)).rows) → HasOnRecord x s

abbrev pub ToldOf : Setting → World → ℕ → Option (List ℕ) → List ℕ → Option (List (List ℕ)) → Flush → StoreView → Option (List ℕ) → List ℕ → Type 0
ToldOf st w k begin text None when s now text' = Unit {0}
ToldOf st w k begin text (Some all) when s now text' = Told st w k begin text all when s now text'

-- where the rows of the store are on record
pub told_kept : (st : Setting) (w v : World) (k n : ℕ) (begin now : Option (List ℕ)) (text text' : List ℕ) (all ahead : Option (List (List ℕ))) (when : Flush) (s : StoreView) →
    ProgressOf s.clean st w v k n begin now text text' all ahead → s.rows ≡ v.rows → IsKept s → ToldOf st w k begin text all when s now text'
told_kept st w v k n begin now text text' None ahead when s p same kept = tt
told_kept st w v k n begin now text text' (Some all) None when s p same kept = absurd p
told_kept st w v k n begin now text text' (Some all) (Some ahead) when s p same kept =
    let taken = done_taken all p.done ahead p.lines in
    record {
      taken = length p.done;
      has = λ x h. record_as s s.rows x (λ c. same ∙ ap (λ (u : World). u.rows) (p.world c ∙ ap (world_after st w) (sym taken))
          ∙ sym (h (subst (λ ls. Falls begin now (pending when text') (text ++ answers_to st w k ls)) (sym taken)
          (falls_pending when begin now text' (text ++ answers_to st w k p.done) (done_falls s.clean st w v k n begin now text text' all ahead p c))))) kept;
    }

-- after a line
pub told_line : (st : Setting) (w v : World) (k n : ℕ) (begin now : Option (List ℕ)) (text text' text'' : List ℕ) (all ahead : Option (List (List ℕ))) (when : Flush) (old new : StoreView) →
    ProgressOf new.clean st w v k n begin now text text'' all ahead → new.rows ≡ v.rows → (when ≡ AtOnce → IsKept new) → (when ≡ Later → StaysOnRecord old new) → ToldOf st w k begin text all when old now text' → ToldOf st w k begin text all when new now text''
told_line st w v k n begin now text text' text'' all ahead AtOnce old new p same kept stays was = told_kept st w v k n begin now text text'' all ahead AtOnce new p same (kept refl)
told_line st w v k n begin now text text' text'' None ahead Later old new p same kept stays was = tt
told_line st w v k n begin now text text' text'' (Some all) ahead Later old new p same kept stays was = record { taken = was.taken; has = λ x h. stays refl x (was.has x h) }

-- between two calls a reopening finds the lines that are on record
told_here : (st : Setting) (w : World) (k : ℕ) (begin now : Option (List ℕ)) (text text' : List ℕ) (lines : List (List ℕ)) (r : Rows) (taken : ℕ) → (r ≡ (world_after st w (take taken lines)).rows) × Falls begin now text' (text ++ answers_to st w k (take taken lines)) → Tells st w k begin now text text' lines r
told_here st w k begin now text text' lines r taken both = record { taken = taken; is = both.0; told = both.1 }

pub told_found : (st : Setting) (w : World) (k : ℕ) (begin now : Option (List ℕ)) (text text' : List ℕ) (all : Option (List (List ℕ))) (when : Flush) (old : StoreView) (r : Rows) →
    ToldOf st w k begin text all when old now text' → ((x : Rows) → HasOnRecord x old → r ≡ x) → IfSome all (λ ls. Tells st w k begin now text (pending when text') ls r)
told_found st w k begin now text text' None when old r was finds = tt
told_found st w k begin now text text' (Some all) when old r was finds =
    told_here st w k begin now text (pending when text') all r was.taken
    (told_alone (Falls begin now (pending when text') (text ++ answers_to st w k (take was.taken all))) r (world_after st w (take was.taken all)).rows
    (falls_or_not begin now (pending when text') (text ++ answers_to st w k (take was.taken all))) (λ x h. finds x (was.has x h)))

-- after answers were written, or not yet
told_same : (st : Setting) (w : World) (k : ℕ) (begin now now' : Option (List ℕ)) (text text' text'' : List ℕ) (all : Option (List (List ℕ))) (old new : StoreView) → now' ≡ now → StaysOnRecord old new → ToldOf st w k begin text all Later old now text' → ToldOf st w k begin text all Later new now' text''
told_same st w k begin now now' text text' text'' None old new same stays was = tt
told_same st w k begin now now' text text' text'' (Some all) old new same stays was = record {
  taken = was.taken;
  has = λ x h. stays x (was.has x (λ f. h (subst (λ o. Falls begin o [] (text ++ answers_to st w k (take was.taken all))) (sym same) f)));
}

pub told_settle : {H : Type 0} (view : H → StoreView) (old new : H) (st : Setting) (w v : World) (k n : ℕ) (begin now now' : Option (List ℕ)) (text text' text'' : List ℕ) (all ahead : Option (List (List ℕ))) (when : Flush) →
    ProgressOf (view new).clean st w v k n begin now' text text'' all ahead → (view new).rows ≡ v.rows → (when ≡ AtOnce → new ≡ old) → (when ≡ Later → SettlesBeforeWriting (now' ≡ now) (view old) (view new)) → Waits st w all when (view old) →
    ToldOf st w k begin text all when (view old) now text' → ToldOf st w k begin text all when (view new) now' text''
told_settle view old new st w v k n begin now now' text text' text'' all ahead AtOnce p rows same stays waits was =
    told_kept st w v k n begin now' text text'' all ahead AtOnce (view new) p rows (subst (λ h. IsKept (view h)) (sym (same refl)) (waits.kept refl))
told_settle view old new st w v k n begin now now' text text' text'' all ahead Later p rows same stays waits was =
    elim (stays refl) [
      | inl rests ↦ told_same st w k begin now now' text text' text'' all (view old) (view new) rests.0 rests.1 was
      | inr puts ↦ told_kept st w v k n begin now' text text'' all ahead Later (view new) p rows (puts waits.on_record waits.has)
    ]

-- ---- stops

-- all lines so far are on record
done_tells : (clean : Type 0) (st : Setting) (w v : World) (k n : ℕ) (begin now now' : Option (List ℕ)) (text text' text'' : List ℕ) (all ahead : List (List ℕ)) (r : Rows) (p : Progress clean st w v k n begin now text text' all ahead) → clean → r ≡ v.rows → Falls begin now' text'' (text ++ answers_to st w k p.done) → Tells st w k begin now' text text'' all r
done_tells clean st w v k n begin now now' text text' text'' all ahead r p c is f =
    let taken = done_taken all p.done ahead p.lines in
    record {
      taken = length p.done;
      is = is ∙ ap (λ (u : World). u.rows) (p.world c ∙ ap (world_after st w) (sym taken));
      told = subst (λ ls. Falls begin now' text'' (text ++ answers_to st w k ls)) (sym taken) f;
    }

-- as answers are written
pub told_stop : {H : Type 0} (view : H → StoreView) (old new : H) (st : Setting) (w v : World) (k n : ℕ) (begin now now' : Option (List ℕ)) (text text' text'' : List ℕ) (all ahead : Option (List (List ℕ))) (when : Flush) (r : Rows) →
    ProgressOf (view old).clean st w v k n begin now text text' all ahead → (view old).rows ≡ v.rows → (when ≡ AtOnce → new ≡ old) → (when ≡ Later → (now' ≡ now) ⊎ PutsOnRecord (view old) (view new)) → FindsOldOr v.rows (view old) (view new) →
    ((start : Option (List ℕ)) (more whole : List ℕ) → Stands start now (text' ++ more) whole → Falls start now' text'' whole) → ((view new).clean → (view old).clean) → ((view new).clean → (view new).rows ≡ v.rows) →
    Waits st w all when (view old) → ToldOf st w k begin text all when (view old) now text' → (view new).may_find r → IfSome all (λ ls. Tells st w k begin now' text (pending when text'') ls r)
told_stop view old new st w v k n begin now now' text text' text'' None ahead when r p rows same first finds fault back world waits was found = tt
told_stop view old new st w v k n begin now now' text text' text'' (Some all) None when r p rows same first finds fault back world waits was found = absurd p
told_stop view old new st w v k n begin now now' text text' text'' (Some all) (Some ahead) AtOnce r p rows same first finds fault back world waits was found =
    let one = (waits.kept refl).alone r (subst (λ h. (view h).may_find r) (same refl) found) in
    let f = done_falls (view old).clean st w v k n begin now text text' all ahead p one.0 in
    done_tells (view old).clean st w v k n begin now now' text text' text'' all ahead r p one.0 (one.1 ∙ rows) (fault begin f.ahead (text ++ answers_to st w k p.done) f.stands)
told_stop view old new st w v k n begin now now' text text' text'' (Some all) (Some ahead) Later r p rows same first finds fault back world waits was found =
    elim (first refl) [
      | inl unwritten ↦ subst (λ o. Tells st w k begin o text [] all r) (sym unwritten)
          (elim (told_or_made (Falls begin now [] (text ++ answers_to st w k (take was.taken all))) ((view old).clean × (r ≡ v.rows)) r (world_after st w (take was.taken all)).rows
          (falls_or_not begin now [] (text ++ answers_to st w k (take was.taken all))) (λ x h. (finds x (was.has x h) r found).1)) [
            | inl both ↦ told_here st w k begin now text [] all r was.taken both
            | inr made ↦ done_tells (view old).clean st w v k n begin now now text text' [] all ahead r p made.0 made.1
                (falls_pending Later begin now text' (text ++ answers_to st w k p.done) (done_falls (view old).clean st w v k n begin now text text' all ahead p made.0))
          ])
      | inr puts ↦
          let one = (puts waits.on_record waits.has).alone r found in
          let f = done_falls (view old).clean st w v k n begin now text text' all ahead p (back one.0) in
          done_tells (view old).clean st w v k n begin now now' text text' [] all ahead r p (back one.0) (one.1 ∙ world one.0)
          (falls_pending Later begin now' text'' (text ++ answers_to st w k p.done) (fault begin f.ahead (text ++ answers_to st w k p.done) f.stands))
    ]

falls_more : (begin now : Option (List ℕ)) (text front whole more : List ℕ) → Begins text front → Falls begin now front whole → Falls begin now text (whole ++ more)
falls_more None now text front whole more b f = record { ahead = []; stands = tt }
falls_more (Some xs) None text front whole more b f = absurd f.stands
falls_more (Some xs) (Some ys) text front whole more b f = let g = f.stands in record {
  ahead = b.more ++ (f.ahead ++ more);
  stands = record {
    done = g.done;
    now = g.now;
    all = ap (λ t. g.done ++ t) (sym (append_assoc text b.more (f.ahead ++ more)) ∙ ap (λ t. t ++ (f.ahead ++ more)) b.is ∙ sym (append_assoc front f.ahead more))
        ∙ sym (append_assoc g.done (front ++ f.ahead) more) ∙ ap (λ t. t ++ more) g.all;
  };
}

-- one line more is on record
line_tells : (clean : Type 0) (st mine : Setting) (w v : World) (k n : ℕ) (begin now : Option (List ℕ)) (text text' text'' : List ℕ) (all rest : List (List ℕ)) (l : List ℕ) (r : Rows) → Progress clean st w v k n begin now text text' all (l ∷ rest) → clean → mine ≡ st →
    r ≡ (after mine v (spelled mine.is_hosted l)).rows → Begins text'' (text' ++ answer mine v n (spelled mine.is_hosted l)) → Tells st w k begin now text text'' all r
line_tells clean st mine w v k n begin now text text' text'' all rest l r p c alike is begins =
    let after' = line_done clean clean st mine w v (after mine v (spelled mine.is_hosted l)) k n (n + 1) begin now text text' (text' ++ answer mine v n (spelled mine.is_hosted l)) all rest l p (λ x. x) alike refl (λ x. refl) (λ x. refl) in
    let f = done_falls clean st w (after mine v (spelled mine.is_hosted l)) k (n + 1) begin now text (text' ++ answer mine v n (spelled mine.is_hosted l)) all rest after' c in
    done_tells clean st w (after mine v (spelled mine.is_hosted l)) k (n + 1) begin now now text (text' ++ answer mine v n (spelled mine.is_hosted l)) text'' all rest r after' c is
    (subst (λ t. Falls begin now text'' t) (append-nil (text ++ answers_to st w k after'.done))
    (falls_more begin now text'' (text' ++ answer mine v n (spelled mine.is_hosted l)) (text ++ answers_to st w k after'.done) [] begins f))

-- in a line
pub told_in_line : {T E : Type 0} (st mine : Setting) (w v : World) (k n : ℕ) (begin now : Option (List ℕ)) (text text' text'' : List ℕ) (all ahead rest : Option (List (List ℕ))) (P : List ℕ → Type 0) (when : Flush) (old new : StoreView) (r : Rows) (fault : E) →
    ProgressOf old.clean st w v k n begin now text text' all ahead → HandsOut ahead rest P → mine ≡ st → Waits st w all when old → ToldOf st w k begin text all when old now text' →
    ((l : List ℕ) → P l → Records {T = T} {E = E} when (after mine v (spelled mine.is_hosted l)).rows old new (Err fault)) →
    (when ≡ AtOnce → (text'' ≡ text') ⊎ ((IsKept old → IsKept new) × (new.clean → (l : List ℕ) → P l → new.rows ≡ (after mine v (spelled mine.is_hosted l)).rows))) →
    (new.clean → (l : List ℕ) → P l → Begins text'' (text' ++ answer mine v n (spelled mine.is_hosted l))) → (new.clean → old.clean) → new.may_find r → IfSome all (λ ls. Tells st w k begin now text (pending when text'') ls r)
told_in_line st mine w v k n begin now text text' text'' None ahead rest P when old new r fault p h alike waits was f told begins back found = tt
told_in_line st mine w v k n begin now text text' text'' (Some all) None rest P when old new r fault p h alike waits was f told begins back found = absurd p
told_in_line st mine w v k n begin now text text' text'' (Some all) (Some ahead) None P when old new r fault p h alike waits was f told begins back found = absurd h
told_in_line st mine w v k n begin now text text' text'' (Some all) (Some ahead) (Some rest) P Later old new r fault p h alike waits was f told begins back found =
    told_found st w k begin now text text' (Some all) Later old r was (λ x has. ((f h.0 h.2).left refl x has r found).1)
told_in_line st mine w v k n begin now text text' text'' (Some all) (Some ahead) (Some rest) P AtOnce old new r fault p h alike waits was f told begins back found =
    let l = h.0 in
    let here : Progress old.clean st w v k n begin now text text' all (l ∷ rest) = subst (λ ls. Progress old.clean st w v k n begin now text text' all ls) h.1 p in
    let next = answer mine v n (spelled mine.is_hosted l) in
    elim (told refl) [
      | inl same ↦ elim (told_or_made (Falls begin now text' (text ++ answers_to st w k (take was.taken all))) (old.clean × (r ≡ (after mine v (spelled mine.is_hosted l)).rows)) r (world_after st w (take was.taken all)).rows
          (falls_or_not begin now text' (text ++ answers_to st w k (take was.taken all))) (λ x x_is. ((f l h.2).stopped refl x (was.has x x_is) r found).1)) [
            | inl both ↦ subst (λ t. Tells st w k begin now text t all r) (sym same) (told_here st w k begin now text text' all r was.taken both)
            | inr made ↦ line_tells old.clean st mine w v k n begin now text text' text'' all rest l r here made.0 alike made.1 (record { more = next; is = ap (λ t. t ++ next) same })
          ]
      | inr kept ↦
          let one = (kept.0 (waits.kept refl)).alone r found in
          line_tells old.clean st mine w v k n begin now text text' text'' all rest l r here (back one.0) alike (one.1 ∙ kept.1 one.0 l h.2) (begins one.0 l h.2)
    ]

-- what an answer in a line says, by what the line says
pub told_by : (Same Kept Clean : Type 0) (Q : List ℕ → Type 0) (v said : World) (made : List ℕ → World) → ((l : List ℕ) → Q l → said ≡ made l) → Same ⊎ (Kept × (Clean → v ≡ said)) → Same ⊎ (Kept × (Clean → (l : List ℕ) → Q l → v ≡ made l))
told_by Same Kept Clean Q v said made is (inl same) = inl same
told_by Same Kept Clean Q v said made is (inr kept) = inr (kept.0, λ clean l q. kept.1 clean ∙ is l q)

-- what an answer in a line says, by the line that is held
pub line_told : (Same Kept Clean : Type 0) (P Q : List ℕ → Type 0) (v : World) (made : List ℕ → World) → ((l : List ℕ) → P l → Q l) → Same ⊎ (Kept × (Clean → (l : List ℕ) → Q l → v ≡ made l)) → Same ⊎ (Kept × (Clean → (l : List ℕ) → P l → v.rows ≡ (made l).rows))
line_told Same Kept Clean P Q v made held (inl same) = inl same
line_told Same Kept Clean P Q v made held (inr kept) = inr (kept.0, λ clean l p. ap (λ (u : World). u.rows) (kept.1 clean l (held l p)))

-- at the end
pub tells_kept : (st : Setting) (w : World) (k : ℕ) (begin now last : Option (List ℕ)) (text text' : List ℕ) (all : Option (List (List ℕ))) (r : Rows) → Keeps now last → IfSome all (λ ls. Tells st w k begin now text text' ls r) → IfSome all (λ ls. Tells st w k begin last text text' ls r)
tells_kept st w k begin now last text text' None r keeps t = tt
tells_kept st w k begin now last text text' (Some all) r keeps t = record {
  taken = t.taken;
  is = t.is;
  told = record { ahead = t.told.ahead; stands = stands_kept begin now last (text' ++ t.told.ahead) (text ++ answers_to st w k (take t.taken all)) keeps t.told.stands };
}

pub told_all : (st : Setting) (w : World) (old now : Option (List ℕ)) (text text' : List ℕ) (r : Rows) → text ≡ [] → (input : List ℕ) → Tells st w 1 old now text text' (lines_of input) r → AreTold st w (lines_of input) r old now
told_all st w old now text text' r none input t = record {
  taken = t.taken;
  is = t.is;
  told = subst (λ x. AppendsFront old now (x ++ answers_to st w 1 (take t.taken (lines_of input)))) none (falls_part old now text' (text ++ answers_to st w 1 (take t.taken (lines_of input))) t.told);
}

-- after a fault
pub told_last : (st : Setting) (w : World) (old now new : Option (List ℕ)) (text text' : List ℕ) (r : Rows) → text ≡ [] → ((begin : Option (List ℕ)) (ahead whole : List ℕ) → Stands begin now (text' ++ ahead) whole → AppendsFront begin new whole) → (input : List ℕ) → Tells st w 1 old now text text' (lines_of input) r → AreTold st w (lines_of input) r old new
told_last st w old now new text text' r none last input t = record {
  taken = t.taken;
  is = t.is;
  told = subst (λ x. AppendsFront old new (x ++ answers_to st w 1 (take t.taken (lines_of input)))) none (last old t.told.ahead (text ++ answers_to st w 1 (take t.taken (lines_of input))) t.told.stands);
}
