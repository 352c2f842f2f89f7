-- What calls of a turn leave on record.
use Rattle.std.proofs.Common.{Err, Ok, Result, refl, sym, true≢false, ◌∙◌}
use Rattle.std.specs.Result.{IsErr, IsOk}
use Rattle.hub_events.specs.declared.fault.Fault.{Fault}
use Rattle.hub_rows.proofs.OnRecord.{finds_only}
use Rattle.hub_rows.specs.StoreView.{StoreView}
use Rattle.turn_hub.specs.TurnHub.{KeepsRecord, hub_view}
use Rattle.turn_hub.specs.declared.turn_hub.TurnHub.{TurnHub}

module _ {S V W : Type 0} (view : S → StoreView) where
  -- a hub that stays as it is
  pub unchanged : (h : TurnHub S V W) (WasOk : Type 0) → KeepsRecord view h h WasOk
  unchanged h WasOk = record {
    commits = refl;
    waits = λ later. later;
    left = λ later on_record was. finds_only (hub_view view h) on_record was;
    stays = λ later ok on_record was. was;
  }

  module _ (old mid new : TurnHub S V W) (First Second : Type 0) where
    -- one call after another that was Ok
    pub records_more : First → KeepsRecord view old mid First → KeepsRecord view mid new Second → KeepsRecord view old new Second
    records_more ok first second = record {
      commits = second.commits ∙ first.commits;
      waits = λ later. second.waits (first.waits later);
      left = λ later on_record was. second.left (first.waits later) on_record (first.stays later ok on_record was);
      stays = λ later more on_record was. second.stays (first.waits later) more on_record (first.stays later ok on_record was);
    }

pub never_ok : {A E : Type 0} (r : Result A E) → IsErr r → IsOk r → ⊥
never_ok (Ok x) err ok = true≢false (sym err)
never_ok (Err e) err ok = true≢false (sym ok)

module _ {S V W A : Type 0} (view : S → StoreView) (old mid new : TurnHub S V W) (First Late : Type 0) where
  -- one that met a fault, after another that was Ok
  pub records_fault : (r : Result A Fault) → IsErr r → First → KeepsRecord view old mid First → KeepsRecord view mid new Late → KeepsRecord view old new (IsOk r)
  records_fault r err ok first second = record {
    commits = second.commits ∙ first.commits;
    waits = λ later. second.waits (first.waits later);
    left = λ later on_record was. second.left (first.waits later) on_record (first.stays later ok on_record was);
    stays = λ later no. absurd (never_ok r err no);
  }
