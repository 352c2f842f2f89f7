-- What sending outputs does to the peers.
use Rattle.std.specs.Prelude.{ℕ, List, [], ◌∷◌, Option, ◌≡◌, true, false}
use Rattle.hub_events.specs.declared.out.Out.{Out}
use Rattle.hub_events.specs.declared.out.Said.{Said}
use Rattle.hub_events.specs.declared.out.Said.TheVariants as said
use Rattle.lines.specs.OutputLines.{line_of}
use Rattle.ws_peers.specs.declared.peer.Peer.{Peer}
use Rattle.ws_peers.specs.Lists.{peers, ToStation, ToOperator}
use Rattle.ws_peers.specs.Peers.{is_open_peer}
use Rattle.ws_peers.specs.Sends.{Sent}
use Rattle.ws_server.specs.declared.gateway.Gateway.{Gateway}

module _ {T : Type 0} where
  -- its peers, by place
  abbrev pub peers_of : Gateway T → List (Peer T)
  peers_of g = peers g.peers

  -- the operators that are named full: they have as many connections of stations as they may have
  abbrev pub full_of : Gateway T → List (List ℕ)
  full_of g = g.full.items

  -- a peer is sent a text, and none once its connection has ended
  pub record SentWhileOpen (contents : T → Option (List ℕ)) (text : List ℕ) (old new : Peer T) : Type 0 where
    pub while_open : is_open_peer old ≡ true → Sent contents text old new
    pub once_ended : is_open_peer old ≡ false → new ≡ old

  -- a text is sent to its station, and all else as a line to the operator
  abbrev pub TellsSaid : (T → Option (List ℕ)) → List ℕ → Said → List ℕ → List (Peer T) → List (Peer T) → Type 0
  TellsSaid contents op (said.Send station text) line = ToStation contents op station text
  TellsSaid contents op _ line = ToOperator contents op line

  -- one output
  abbrev pub Tells : (T → Option (List ℕ)) → Out → List (Peer T) → List (Peer T) → Type 0
  Tells contents out = TellsSaid contents out.op out.said (line_of out)

  -- several, in order
  abbrev pub TellsAll : (T → Option (List ℕ)) → List Out → List (Peer T) → List (Peer T) → Type 0
  TellsAll contents [] old new = new ≡ old
  TellsAll contents (out ∷ outs) old new = (mid : List (Peer T)) × Tells contents out old mid × TellsAll contents outs mid new
