-- What is on record while changes wait.
use Rattle.std.proofs.Common.{◌≡◌, ◌∙◌, sym, ap, subst, inl, inr, List, ℕ, [], refl}
use Rattle.std.specs.Prelude.{Option, Some, None, IfSome, Result, Ok, Err, OnOk, OnErr}
use Rattle.hub_rows.proofs.OnRecord.{finds_only, record_as}
use Rattle.hub_rows.specs.declared.store.Flush.{Flush}
use Rattle.hub_rows.specs.declared.store.Flush.TheVariants.{AtOnce, Later}
use Rattle.hub_rows.specs.Rows.{Rows}
use Rattle.hub_rows.specs.Stops.{FindsOldOr, HasOnRecord, IsKept, PutsOnRecord, Records, StaysOnRecord}
use Rattle.hub_rows.specs.StoreView.{StoreView}
use Rattle.hub.specs.World.{Setting, World}
use Rattle.lines.specs.InputLines.{spelled}
use Rattle.replay.specs.Lines.{HandsOut}
use Rattle.replay.specs.Run.{AreReached, after, world_after}
use Rattle.replay.specs.Turns.{SettlesBeforeWriting}
use Rattle.replay.proofs.Progress.{ProgressOf, progress_none, progress_stop_world, progress_stop_rows, progress_line_rows, reached, rows_reached}

-- ---- one call

any_ok : {T E P : Type 0} (result : Result T E) → P → OnOk result P
any_ok (Ok x) p = p
any_ok (Err e) p = tt

any_err : {T E P : Type 0} (result : Result T E) → P → OnErr result P
any_err (Ok x) p = tt
any_err (Err e) p = p

-- what a change says of the record stands whatever comes of it
pub after_change : {T E T' E' : Type 0} (when : Flush) (made : Rows) (old new : StoreView) (x : T) (result : Result T' E') → Records {T = T} {E = E} when made old new (Ok x) → Records when made old new result
after_change when made old new x result p = record {
  stopped = p.stopped;
  kept = λ now was. any_ok result (p.kept now was);
  waits = λ later. any_ok result (p.waits later);
  left = λ later. any_err result (λ on_record was. finds_only new on_record (p.waits later on_record was));
}

pub found_same : (made : Rows) (s : StoreView) → FindsOldOr made s s
found_same made s on_record was r found = let it = finds_only s on_record was r found in (it.0, inl it.1)

pub record_same : (s : StoreView) (P : Type 0) → P → SettlesBeforeWriting P s s
record_same s P p = inl (p, λ on_record has. has)

-- ---- a run of lines

-- rows that are on record are those after a number of lines; where no change waits they are those of the store
pub record Waits (st : Setting) (w : World) (all : Option (List (List ℕ))) (when : Flush) (s : StoreView) : Type 0 where
  pub on_record : Rows
  pub has : HasOnRecord on_record s
  pub reached : IfSome all (λ ls. AreReached st w ls on_record)
  pub kept : when ≡ AtOnce → IsKept s

-- before the first line
pub waits_none : (st : Setting) (w : World) (all : Option (List (List ℕ))) (when : Flush) (s : StoreView) → s.rows ≡ w.rows → IsKept s → Waits st w all when s
waits_none st w all when s same kept = record {
  on_record = s.rows;
  has = kept;
  reached = progress_stop_rows st w w all s.rows (progress_stop_world (Unit {0}) (Unit {0}) st w w 0 0 None None [] [] all all (progress_none (Unit {0}) st w 0 None [] all) (λ x. x) tt) same;
  kept = λ now. kept;
}

-- where the rows of the store are on record
pub waits_kept : (st : Setting) (w v : World) (k n : ℕ) (begin now : Option (List ℕ)) (text text' : List ℕ) (all ahead : Option (List (List ℕ))) (when : Flush) (s : StoreView) →
    ProgressOf s.clean st w v k n begin now text text' all ahead → s.rows ≡ v.rows → IsKept s → Waits st w all when s
waits_kept st w v k n begin now text text' None ahead when s p same kept = record { on_record = s.rows; has = kept; reached = tt; kept = λ now'. kept }
waits_kept st w v k n begin now text text' (Some all) None when s p same kept = absurd p
waits_kept st w v k n begin now text text' (Some all) (Some ahead) when s p same kept =
    let before : World = world_after st w p.done in
    record {
      on_record = before.rows;
      has = record_as s s.rows before.rows (λ c. same ∙ ap (λ (u : World). u.rows) (p.world c)) kept;
      reached = rows_reached st w before all before.rows (reached st w before all p.done ahead p.lines refl) refl;
      kept = λ now'. kept;
    }

-- after a line
pub waits_line : (st : Setting) (w v : World) (k n : ℕ) (begin now : Option (List ℕ)) (text text' : List ℕ) (all ahead : Option (List (List ℕ))) (when : Flush) (old new : StoreView) →
    ProgressOf new.clean st w v k n begin now text text' all ahead → new.rows ≡ v.rows → (when ≡ AtOnce → IsKept old → IsKept new) → (when ≡ Later → StaysOnRecord old new) → Waits st w all when old → Waits st w all when new
waits_line st w v k n begin now text text' all ahead AtOnce old new p same kept stays was = waits_kept st w v k n begin now text text' all ahead AtOnce new p same (kept refl (was.kept refl))
waits_line st w v k n begin now text text' all ahead Later old new p same kept stays was = record {
  on_record = was.on_record;
  has = stays refl was.on_record was.has;
  reached = was.reached;
  kept = λ now'. absurd (cc);
}

-- after answers were written
pub waits_settle : {H : Type 0} (view : H → StoreView) (old new : H) (P : Type 0) (st : Setting) (w v : World) (k n : ℕ) (begin now : Option (List ℕ)) (text text' : List ℕ) (all ahead : Option (List (List ℕ))) (when : Flush) →
    ProgressOf (view new).clean st w v k n begin now text text' all ahead → (view new).rows ≡ v.rows → (when ≡ AtOnce → new ≡ old) → (when ≡ Later → SettlesBeforeWriting P (view old) (view new)) → Waits st w all when (view old) → Waits st w all when (view new)
waits_settle view old new P st w v k n begin now text text' all ahead AtOnce p rows same stays was = subst (λ h. Waits st w all AtOnce (view h)) (sym (same refl)) was
waits_settle view old new P st w v k n begin now text text' all ahead Later p rows same stays was =
    elim (stays refl) [
      | inl same' ↦ record { on_record = was.on_record; has = same'.1 was.on_record was.has; reached = was.reached; kept = λ now'. absurd (cc) }
      | inr puts ↦ waits_kept st w v k n begin now text text' all ahead Later (view new) p rows (puts was.on_record was.has)
    ]

-- after the last line
pub waits_end : {H : Type 0} (view : H → StoreView) (old new : H) (st : Setting) (w : World) (all : Option (List (List ℕ))) (when : Flush) →
    (when ≡ AtOnce → new ≡ old) → (when ≡ Later → PutsOnRecord (view old) (view new)) → Waits st w all when (view old) → IsKept (view new)
waits_end view old new st w all AtOnce same puts was = subst (λ h. IsKept (view h)) (sym (same refl)) (was.kept refl)
waits_end view old new st w all Later same puts was = puts refl was.on_record was.has

-- ---- stops

on_record_reached : (st : Setting) (w : World) (all : Option (List (List ℕ))) (r on_record : Rows) → IfSome all (λ ls. AreReached st w ls on_record) → r ≡ on_record → IfSome all (λ ls. AreReached st w ls r)
on_record_reached st w all r on_record reaches same = subst (λ x. IfSome all (λ ls. AreReached st w ls x)) (sym same) reaches

-- between two calls
pub waits_found : (st : Setting) (w : World) (all : Option (List (List ℕ))) (when : Flush) (s : StoreView) (r : Rows) → Waits st w all when s → s.may_find r → IfSome all (λ ls. AreReached st w ls r)
waits_found st w all when s r was found = on_record_reached st w all r was.on_record was.reached (was.has.alone r found).1

-- as answers are written
pub waits_stop : (st : Setting) (w v : World) (k n : ℕ) (begin now : Option (List ℕ)) (text text' : List ℕ) (all ahead : Option (List (List ℕ))) (when : Flush) (old new : StoreView) (r : Rows) →
    ProgressOf old.clean st w v k n begin now text text' all ahead → FindsOldOr v.rows old new → Waits st w all when old → new.may_find r → IfSome all (λ ls. AreReached st w ls r)
waits_stop st w v k n begin now text text' all ahead when old new r p finds was found =
    elim ((finds was.on_record was.has r found).1) [
      | inl same ↦ on_record_reached st w all r was.on_record was.reached same
      | inr made ↦ progress_stop_rows st w v all r (progress_stop_world old.clean old.clean st w v k n begin now text text' all ahead p (λ x. x) made.0) made.1
    ]

-- in a line
pub waits_in_line : {T E : Type 0} (st mine : Setting) (w v : World) (k n : ℕ) (begin now : Option (List ℕ)) (text text' : List ℕ) (all ahead rest : Option (List (List ℕ))) (P : List ℕ → Type 0) (when : Flush) (old new : StoreView) (r : Rows) (fault : E) →
    ProgressOf old.clean st w v k n begin now text text' all ahead → HandsOut ahead rest P → mine ≡ st → old.rows ≡ v.rows → Waits st w all when old →
    ((l : List ℕ) → P l → Records {T = T} {E = E} when (after mine v (spelled mine.is_hosted l)).rows old new (Err fault)) → new.may_find r → IfSome all (λ ls. AreReached st w ls r)
waits_in_line st mine w v k n begin now text text' None ahead rest P when old new r fault p h alike rows was f found = tt
waits_in_line st mine w v k n begin now text text' (Some all) None rest P when old new r fault p h alike rows was f found = absurd p
waits_in_line st mine w v k n begin now text text' (Some all) (Some ahead) None P when old new r fault p h alike rows was f found = absurd h
waits_in_line st mine w v k n begin now text text' (Some all) (Some ahead) (Some rest) P AtOnce old new r fault p h alike rows was f found =
    progress_line_rows old.clean st mine w v k n begin now text text' (Some all) (Some ahead) (Some rest) P r p h alike
    (λ on_record same l held. ((f l held).stopped refl on_record (record_as old old.rows on_record (λ c. rows ∙ same c) (was.kept refl)) r found).1)
waits_in_line st mine w v k n begin now text text' (Some all) (Some ahead) (Some rest) P Later old new r fault p h alike rows was f found =
    on_record_reached st w (Some all) r was.on_record was.reached ((f h.0 h.2).left refl was.on_record was.has r found).1
