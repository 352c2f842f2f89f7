use Rattle.std.proofs.Common.{Ok, ◌≡◌, ◌≤◌, true}
use Rattle.hub_rows.specs.Reads.{IsCounted}
use Rattle.turn_hub.specs.TurnHub.{KeepsRecord, hub_view}
use Rattle.ws_server.specs.Admits.{WelcomesSome}
use Rattle.ws_server.specs.Lobbies.{origins_of, waiting_count}
use Rattle.ws_server.specs.Steps.{Takes}
use Rattle.ws_server.specs.Tells.{peers_of}
use Rattle.ws_server.proofs.lobby.Lobby.serve.Given as goal

abbrev pub invariant-loop : goal.invariant-loop
invariant-loop g l = record {
  takes : Takes g.S.Store.view g.V.VendorHandler.view g.W.Write.contents l.fn.hub l.hub (λ steps. WelcomesSome g.T.Read.remaining g.T.Write.contents l.moment (origins_of l.fn.self) (peers_of l.fn.gateway) (peers_of l.gateway) steps (Ok tt));
  counted : IsCounted (hub_view g.S.Store.view) l.fn.hub l.hub ⊥;
  records : KeepsRecord g.S.Store.view l.fn.hub l.hub (true ≡ true);
  fewer : waiting_count l.self ≤ waiting_count l.fn.self;
  origins : origins_of l.self ≡ origins_of l.fn.self;
}
