-- What is on record over calls.
use Rattle.std.proofs.Common.{◌≡◌, ◌∙◌, Err, Ok, OnErr, OnOk, Result, inl, subst, sym}
use Rattle.hub_rows.specs.declared.store.Flush.{Flush}
use Rattle.hub_rows.specs.Rows.{Rows}
use Rattle.hub_rows.specs.StoreView.{StoreView}
use Rattle.hub_rows.specs.Stops.{FindsOnly, HasOnRecord, IsKept, Records, StaysOnRecord}

-- rows that are on record are all that is found
pub finds_only : (s : StoreView) (rows : Rows) → HasOnRecord rows s → FindsOnly rows s
finds_only s rows on = λ r found. let it = on.alone r found in (s.was_sound it.0, it.1)

-- a store that stays as it is records nothing
pub rests : {T E : Type 0} (when : Flush) (made : Rows) (s : StoreView) (result : Result T E) → Records when made s s result
rests when made s result = record {
  stopped = λ now on_record was r found. let it = finds_only s on_record was r found in (it.0, inl it.1);
  kept = λ now was. whichever_ok result was;
  waits = λ later. whichever_ok result (λ on_record was. was);
  left = λ later. whichever_err result (λ on_record was. finds_only s on_record was);
}
  where
    whichever_ok : {T E P : Type 0} (result : Result T E) → P → OnOk result P
    whichever_ok (Ok x) p = p
    whichever_ok (Err e) p = tt

    whichever_err : {T E P : Type 0} (result : Result T E) → P → OnErr result P
    whichever_err (Ok x) p = tt
    whichever_err (Err e) p = p

-- rows that are on record, by what a clean store says of them
pub record_as : (s : StoreView) (a b : Rows) → (s.clean → a ≡ b) → HasOnRecord a s → HasOnRecord b s
record_as s a b same on = record {
  alone = λ r found. let it = on.alone r found in (it.0, it.1 ∙ same it.0);
  takes = λ clean. subst s.may_find (same clean) (on.takes clean);
}

-- a kept store whose rows stay is kept
pub kept_same : (old new : StoreView) → (new.clean → new.rows ≡ old.rows) → StaysOnRecord old new → IsKept old → IsKept new
kept_same old new same stays was = record_as new old.rows new.rows (λ clean. sym (same clean)) (stays old.rows was)
