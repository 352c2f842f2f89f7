-- A peer, as contracts see it: its route and its stage.
use Rattle.std.specs.Prelude.{◌≡◌, ℕ, zero, suc, List, [], ◌∷◌, Bool, true, false, not, nat_eq, if◌then◌else◌}
use Rattle.std.specs.List.{list_any}
use Rattle.tungstenite.specs.Socket.{Socket}
use Rattle.ws_peers.specs.declared.peer.Peer.{Peer}
use Rattle.ws_peers.specs.declared.cause.Cause.{Cause}
use Rattle.ws_peers.specs.declared.routes.Route.{Route}
use Rattle.ws_peers.specs.declared.stage.Stage.{Stage}
use Rattle.ws_peers.specs.declared.stage.Stage.TheVariants.{Open, Gone}
use Rattle.ws_peers.specs.Routes.{is_operator, key_of}
use Rattle.ws_peers.specs.Stages.{is_open, ended, leaving, is_held}

module _ {T : Type 0} where
  abbrev pub route_of : Peer T → Route
  route_of p = p.route

  abbrev pub stage_of : Peer T → Stage
  stage_of p = p.stage

  -- a peer of that socket and route, which is served
  abbrev pub open_peer : Socket T → Route → Peer T
  open_peer socket route = record { socket = socket; route = route; stage = Open }

  -- the peer as its connection ends, for that cause
  abbrev pub ends : Cause → Peer T → Peer T
  ends cause p = record p { stage = ended cause p.stage }

  -- the peer as those that have ended leave
  abbrev pub leaves : Peer T → Peer T
  leaves p = record p { stage = leaving p.route p.stage }

  -- the peer that is gone
  abbrev pub finishes : Peer T → Peer T
  finishes p = record p { stage = Gone }

  -- it is an operator
  abbrev pub is_operator_peer : Peer T → Bool
  is_operator_peer p = is_operator p.route

  -- the key of what it stands for
  abbrev pub key_of_peer : Peer T → ℕ
  key_of_peer p = key_of p.route

  -- it is served
  abbrev pub is_open_peer : Peer T → Bool
  is_open_peer p = is_open p.stage

  -- it isn't gone
  abbrev pub is_held_peer : Peer T → Bool
  is_held_peer p = is_held p.stage

  -- the peer keeps its route, and one that is gone stays gone
  pub record Kept (old new : Peer T) : Type 0 where
    pub route : new.route ≡ old.route
    pub gone : is_held old.stage ≡ false → is_held new.stage ≡ false

-- the places of the items that pass a test, in ascending order, where the first item is at place n
abbrev pub places_of : {A : Type 0} → (A → Bool) → ℕ → List A → List ℕ
places_of f n [] = []
places_of f n (x ∷ xs) = if f x then n ∷ places_of f (suc n) xs else places_of f (suc n) xs

-- there is an item at that place, and it fails a test
abbrev pub fails_at : {A : Type 0} → (A → Bool) → List A → ℕ → Bool
fails_at f [] n = false
fails_at f (x ∷ xs) zero = not (f x)
fails_at f (x ∷ xs) (suc n) = fails_at f xs n

-- each item that fails a test is at one of those places
abbrev pub FailsOnlyAt : {A : Type 0} → (A → Bool) → List ℕ → List A → Type 0
FailsOnlyAt f places xs = (n : ℕ) → fails_at f xs n ≡ true → list_any (λ k. nat_eq k n) places ≡ true
