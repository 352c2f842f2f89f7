use Rattle.std.proofs.Common.{Ok, true, ◌≡◌}
use Rattle.hub_rows.specs.Reads.{IsCounted}
use Rattle.turn_hub.specs.TurnHub.{KeepsRecord, hub_view, setting}
use Rattle.ws_server.specs.Steps.{Takes}
use Rattle.ws_server.specs.Tells.{peers_of}
use Rattle.ws_server.specs.TurnServers.{ServesSome}
use Rattle.ws_server.proofs.turn_server.TurnServer.serve_each.Given as goal

abbrev pub invariant-loop : goal.invariant-loop
invariant-loop g l = record {
  takes : Takes g.S.Store.view g.V.VendorHandler.view g.W.Write.contents l.fn.self.hub l.self.hub (λ steps. ServesSome g.T.Read.remaining g.T.Write.contents (setting g.V.VendorHandler.view l.fn.self.hub).is_hosted l.moment (peers_of l.fn.self.gateway) (peers_of l.self.gateway) steps (Ok tt));
  counted : IsCounted (hub_view g.S.Store.view) l.fn.self.hub l.self.hub ⊥;
  records : KeepsRecord g.S.Store.view l.fn.self.hub l.self.hub (true ≡ true);
  state : l.self.state ≡ l.fn.self.state;
  written : g.D.Reactor.written l.reactor ≡ g.D.Reactor.written l.fn.reactor;
}
