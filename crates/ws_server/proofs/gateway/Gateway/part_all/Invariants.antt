use Rattle.std.proofs.Common.{◌≡◌, length, true}
use Rattle.turn_hub.specs.TurnHub.{KeepsRecord, hub_view, setting}
use Rattle.hub_rows.specs.Reads.{IsCounted}
use Rattle.ws_server.specs.Steps.{Takes}
use Rattle.ws_server.specs.Tells.{peers_of}
use Rattle.ws_server.specs.Turns.{FirstPlaces, Parts}
use Rattle.ws_server.proofs.gateway.Gateway.part_all.Given as goal

abbrev pub invariant-loop-n : goal.invariant-loop-n
invariant-loop-n g l = record {
  takes : Takes g.S.Store.view g.V.VendorHandler.view g.W.Write.contents l.fn.hub l.hub (λ steps. FirstPlaces (Parts g.T.Write.contents (setting g.V.VendorHandler.view l.fn.hub).is_hosted l.moment) l.n (peers_of l.fn.self) (peers_of l.self) steps);
  counted : IsCounted (hub_view g.S.Store.view) l.fn.hub l.hub ⊥;
  records : KeepsRecord g.S.Store.view l.fn.hub l.hub (true ≡ true);
  count : length (peers_of l.self) ≡ length (peers_of l.fn.self);
  end : l.n-end ≡ length (peers_of l.fn.self);
}
