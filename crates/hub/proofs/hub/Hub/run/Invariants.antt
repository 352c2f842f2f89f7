use Rattle.std.proofs.Common.{◌≡◌, ◌≤◌, true, take}
use Rattle.std.specs.List.{AllWithin}
use Rattle.hub_rows.specs.Stops.{IsKept}
use Rattle.hub.specs.World.{run_outputs, world_run}
use Rattle.hub.specs.Hub.{world, setting, is_taken}
use Rattle.hub.proofs.hub.Hub.run.Given as goal

abbrev pub invariant-loop-event : goal.invariant-loop-event
invariant-loop-event g l = let st = setting g.V.VendorHandler.view l.fn.self in let w = world g.S.Store.view l.fn.self in record {
  at : l.taken ≡ l.event-index;
  hosted : AllWithin (λ e. is_taken st e ≡ true) l.events 0 l.event-index;
  was_clean : (g.S.Store.view l.self.book.store).clean → (g.S.Store.view l.fn.self.book.store).clean;
  outputs : (g.S.Store.view l.self.book.store).clean → l.outs.items ≡ run_outputs st w (take l.event-index l.events);
  world : (g.S.Store.view l.self.book.store).clean → world g.S.Store.view l.self ≡ world_run st w (take l.event-index l.events);
  setting : setting g.V.VendorHandler.view l.self ≡ st;
  kept : IsKept (g.S.Store.view l.fn.self.book.store) → IsKept (g.S.Store.view l.self.book.store);
  count : (g.S.Store.view l.fn.self.book.store).failures ≤ (g.S.Store.view l.self.book.store).failures;
}
