-- What every call says of a store, by the store before the call and after it, and by its answer.
use Rattle.std.specs.Prelude.{◌≡◌, ◌≤◌, Result, Err, OnOk}
use Rattle.hub_rows.specs.declared.store.StoreFault.{StoreFault}
use Rattle.hub_rows.specs.declared.store.StoreFault.TheVariants.{Failed}
use Rattle.hub_rows.specs.Failures.{Rose}
use Rattle.hub_rows.specs.Stops.{FindsOld, StaysOnRecord}
use Rattle.hub_rows.specs.StoreView.{StoreView}

-- what a call says that may change the rows, where `DidFail` says that it answers a failure of the store
pub record IsCounted {S : Type 0} (view : S → StoreView) (old new : S) (DidFail : Type 0) : Type 0 where
  -- it was clean, if it is
  pub was_clean : (view new).clean → (view old).clean
  -- where it failed, the count of its failures rose
  pub failed : DidFail → Rose (view old).failures (view new).failures
  pub count : (view old).failures ≤ (view new).failures

-- what a call says that leaves the rows
pub record OnlyReads {S T : Type 0} (view : S → StoreView) (old new : S) (result : Result T StoreFault) : Type 0 where
  pub was_clean : (view new).clean → (view old).clean
  pub kept : (view new).clean → (view new).rows ≡ (view old).rows
  pub failed : result ≡ Err Failed → Rose (view old).failures (view new).failures
  pub count : (view old).failures ≤ (view new).failures
  -- a stop during the call leaves what is on record, and so does an Ok
  pub stopped : FindsOld (view old) (view new)
  pub stays : OnOk result (StaysOnRecord (view old) (view new))
