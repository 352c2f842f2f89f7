-- Peers that are silent.
use Rattle.std.specs.Prelude.{ℕ, List, [], ◌∷◌, length, ◌≡◌, ◌<◌, ◌≤◌}
use Rattle.ws_peers.specs.declared.cause.Cause.TheVariants.{Silent}
use Rattle.ws_peers.specs.declared.peer.Peer.{Peer}
use Rattle.ws_peers.specs.Lists as lists
use Rattle.ws_peers.specs.Peers.{ends}

module _ {P : Type 0} (R : P → P → Type 0) where
  -- the item at place n changes so, if there is one
  pub record Visit (n : ℕ) (old new : List P) : Type 0 where
    pub there : n < length old → lists.At R n old new
    pub missing : length old ≤ n → new ≡ old

  -- the items at those places change so, one after the other
  abbrev pub Visits : List ℕ → List P → List P → Type 0
  Visits [] old new = new ≡ old
  Visits (n ∷ places) old new = (mid : List P) × Visit n old mid × Visits places mid new

module _ {T : Type 0} where
  -- an open connection ends, since its peer is silent
  abbrev pub Silenced : Peer T → Peer T → Type 0
  Silenced old new = new ≡ ends Silent old
