use Rattle.ws_server.proofs.LobbyLaws.{asks_at}
use Rattle.ws_server.proofs.lobby.Lobby.next.Goals as goal

pub returns-clause-asks : goal.returns-clause-asks
returns-clause-asks g c =
    let self = c.args.self.now in
    asks_at g.T.Read.remaining self.origins.items c.as_slice.result.now self.waiting.items c.args.n c.index-one.result.now c.next_of.result c.as_slice.ensures.value c.requires c.index-one.ensures c.next_of.ensures
