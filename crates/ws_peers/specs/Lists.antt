-- All peers, by place.
use Rattle.std.specs.Prelude.{ℕ, zero, suc, List, [], ◌∷◌, ◌++◌, ◌≡◌, ◌+◌, ◌≤◌, ◌⊎◌, Bool, true, false, ◌&&◌, Option, None, Some, ⊤, vec_len, vec_capacity}
use Rattle.std.specs.List.{All, AllZip, list_any}
use Rattle.std.specs.List.Sorted.{IsPermutation}
use Rattle.tungstenite.specs.Socket.{Socket}
use Rattle.websocket.specs.declared.protocol.frame.coding.CloseCode.TheVariants.{Policy}
use Rattle.ws_peers.specs.declared.peer.Peer.{Peer}
use Rattle.ws_peers.specs.declared.peers.Peers.{Peers}
use Rattle.ws_peers.specs.declared.routes.Route.{Route}
use Rattle.ws_peers.specs.declared.routes.Route.TheVariants.{Station, Operator}
use Rattle.ws_peers.specs.Routes.{is_station, is_operator_of}
use Rattle.ws_peers.specs.Peers.{open_peer, is_held_peer}
use Rattle.ws_peers.specs.Sends.{Sent, Closed, Replaced}
use Rattle.ws_peers.specs.declared.stage.Stage.TheVariants.{Gone}
use Rattle.ws_peers.specs.Stages.{is_open}

-- R holds of the items at place n, and the others stay
abbrev pub At : {A : Type 0} → (A → A → Type 0) → ℕ → List A → List A → Type 0
At R n [] ys = ⊥
At R n (x ∷ xs) [] = ⊥
At R zero (x ∷ xs) (y ∷ ys) = R x y × (ys ≡ xs)
At R (suc n) (x ∷ xs) (y ∷ ys) = (y ≡ x) × At R n xs ys

module _ {T : Type 0} where
  abbrev pub peers : Peers T → List (Peer T)
  peers all = all.items.items

  -- there is room for one more, for its place among those of the operators and among those that have ended, and for
  -- its key
  abbrev pub has_room : Peers T → Type 0
  has_room all = (vec_len all.items + 1 ≤ vec_capacity all.items) × (vec_len all.items + 1 ≤ vec_capacity all.operators) × (vec_len all.items + 1 ≤ vec_capacity all.ended) × (vec_len all.items + 1 ≤ vec_capacity all.keys)

  -- an open connection of that station
  abbrev pub is_open_at : List ℕ → List ℕ → Peer T → Bool
  is_open_at op station p = is_open p.stage && is_station op station p.route

  -- a station that has an open connection
  abbrev pub is_connected : Route → List (Peer T) → Bool
  is_connected (Station op station) ps = list_any (is_open_at op station) ps
  is_connected (Operator op) ps = false

  -- an open connection of that operator
  abbrev pub is_open_for : List ℕ → Peer T → Bool
  is_open_for op p = is_open p.stage && is_operator_of op p.route

  -- a text to a station is sent on an open connection of it; where there is none it is dropped
  abbrev pub ToStation : (T → Option (List ℕ)) → List ℕ → List ℕ → List ℕ → List (Peer T) → List (Peer T) → Type 0
  ToStation contents op station text old new =
      ((n : ℕ) × At (λ p q. (is_open_at op station p ≡ true) × Sent contents text p q) n old new)
      ⊎ ((list_any (is_open_at op station) old ≡ false) × (new ≡ old))

  -- a peer as an operator is sent a text: on each open connection of it
  pub record Hears (contents : T → Option (List ℕ)) (op text : List ℕ) (old new : Peer T) : Type 0 where
    pub own : is_open_for op old ≡ true → Sent contents text old new
    pub other : is_open_for op old ≡ false → new ≡ old

  abbrev pub ToOperator : (T → Option (List ℕ)) → List ℕ → List ℕ → List (Peer T) → List (Peer T) → Type 0
  ToOperator contents op text = AllZip (Hears contents op text)

  -- a peer as another connection of a station is admitted: one of the same station is replaced
  pub record GivesWay (contents : T → Option (List ℕ)) (op station : List ℕ) (old new : Peer T) : Type 0 where
    pub same : is_station op station old.route ≡ true → Replaced contents old new
    pub other : is_station op station old.route ≡ false → new ≡ old

  -- the peers as one of that route is admitted
  abbrev pub GiveWay : (T → Option (List ℕ)) → Route → List (Peer T) → List (Peer T) → Type 0
  GiveWay contents (Station op station) = AllZip (GivesWay contents op station)
  GiveWay contents (Operator op) = λ old new. new ≡ old

  -- a connection that isn't admitted: its socket is closed with the code 1008 and a reason, and it is gone
  abbrev pub Shut : (T → Option (List ℕ)) → List ℕ → Socket T → Route → List (Peer T) → List (Peer T) → Type 0
  Shut contents reason socket route old new = (p : Peer T) × Closed contents (Some (Policy, reason)) Gone (open_peer socket route) p × (new ≡ old ++ p ∷ [])

  -- some peers are dropped that are gone, and the others stay, each once, in some order
  pub record Drops (old new : List (Peer T)) : Type 0 where
    pub dropped : List (Peer T)
    pub others : IsPermutation old (dropped ++ new)
    pub gone : All (λ p. is_held_peer p ≡ false) dropped

  -- all that are gone are dropped
  pub record Swept (old new : List (Peer T)) : Type 0 where
    pub drops : Drops old new
    pub held : All (λ p. is_held_peer p ≡ true) new

-- what holds of a text, or of any text where there was no memory for it
abbrev pub ForText : Option (List ℕ) → (List ℕ → Type 0) → Type 0
ForText None P = (text : List ℕ) → P text
ForText (Some text) P = P text

-- so many of the items in front have changed, the others not
abbrev pub Front : {A : Type 0} → (A → A → Type 0) → ℕ → List A → List A → Type 0
Front R zero old now = now ≡ old
Front R (suc i) [] [] = ⊤
Front R (suc i) [] (y ∷ ys) = ⊥
Front R (suc i) (x ∷ xs) [] = ⊥
Front R (suc i) (x ∷ xs) (y ∷ ys) = R x y × Front R i xs ys
