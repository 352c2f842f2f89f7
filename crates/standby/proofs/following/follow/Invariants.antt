-- How far the journal is followed.
use Rattle.std.proofs.Common.{◌≡◌}
use Rattle.turn_hub.specs.TurnHub.{world, setting, is_clean}
use Rattle.standby.specs.Progress.{Followed}
use Rattle.standby.specs.Follows.{pending_of}
use Rattle.standby.proofs.following.follow.Given as goal

abbrev pub invariant-loop : goal.invariant-loop
invariant-loop g l = let st = setting g.V.VendorHandler.view l.fn.hub in record {
  was_clean : is_clean g.S.Store.view l.hub → is_clean g.S.Store.view l.fn.hub;
  same : setting g.V.VendorHandler.view l.hub ≡ st;
  followed : Followed (is_clean g.S.Store.view l.hub) st (world g.S.Store.view l.fn.hub) (world g.S.Store.view l.hub) (pending_of l.waiting)
      (g.R.Read.remaining l.fn.reader) (g.R.Read.remaining l.reader);
}
