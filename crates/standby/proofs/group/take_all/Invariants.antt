-- How many events were taken.
use Rattle.std.proofs.Common.{◌≡◌, take}
use Rattle.hub.specs.World.{world_run}
use Rattle.turn_hub.specs.TurnHub.{world, setting, is_clean}
use Rattle.standby.proofs.group.take_all.Given as goal

abbrev pub invariant-loop-event : goal.invariant-loop-event
invariant-loop-event g l = let st = setting g.V.VendorHandler.view l.fn.hub in record {
  was_clean : is_clean g.S.Store.view l.hub → is_clean g.S.Store.view l.fn.hub;
  world : is_clean g.S.Store.view l.hub → world g.S.Store.view l.hub ≡ world_run st (world g.S.Store.view l.fn.hub) (take l.event-index l.events);
  setting : setting g.V.VendorHandler.view l.hub ≡ st;
}
