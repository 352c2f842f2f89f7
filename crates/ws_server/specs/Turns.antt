-- What serving peers does: to them, and which steps the hub takes.
use Rattle.std.specs.Prelude.{ℕ, zero, suc, List, [], ◌∷◌, ◌++◌, Option, Some, None, Bool, false, ◌≡◌, ◌<◌, ◌≤◌, ◌⊎◌, Result, Ok, Err, map, length, slice_index_or, codes}
use Rattle.hub_events.specs.declared.event.Event.{Event}
use Rattle.hub_events.specs.declared.event.Event.TheVariants.{Tick}
use Rattle.hub_events.specs.declared.out.Out.{Out}
use Rattle.hub_events.specs.declared.fault.Fault.{Fault}
use Rattle.hub_events.specs.declared.fault.Fault.TheVariants.{NoSuchOperator}
use Rattle.hub.specs.Hub.{is_of_hosted}
use Rattle.lines.specs.Marks.{begin_line, end_line}
use Rattle.ws_peers.specs.declared.peer.Peer.{Peer}
use Rattle.ws_peers.specs.Lists as lists
use Rattle.ws_peers.specs.Peers.{route_of, leaves, finishes}
use Rattle.ws_peers.specs.Reads.{Took}
use Rattle.ws_peers.specs.Sends.{Failed}
use Rattle.ws_peers.specs.declared.routes.Route.{Route}
use Rattle.ws_server.specs.Events.{word_of, event_of, parting, is_route_of_hosted}
use Rattle.ws_server.specs.Steps.{Step}
use Rattle.ws_server.specs.Tells.{SentWhileOpen, TellsAll}

-- a change of peers: those before, those after, the steps that the hub takes, and how it ends
abbrev pub Change : Type 0 → Type 1
Change P = List P → List P → List Step → Result (Unit {0}) Fault → Type 0

module _ {P : Type 0} where
  -- one change after the other, where the first ends well
  abbrev pub Then : Change P → Change P → Change P
  Then First Second old new steps r =
      ((mid : List P) × (before after : List Step) × First old mid before (Ok tt) × Second mid new after r × (steps ≡ before ++ after))
      ⊎ ((fault : Fault) × First old new steps (Err fault) × (r ≡ Err fault))

  -- the change of the first n places, one after the other
  abbrev pub FirstPlaces : (ℕ → Change P) → ℕ → List P → List P → List Step → Type 0
  FirstPlaces C zero old new steps = (new ≡ old) × (steps ≡ [])
  FirstPlaces C (suc n) old new steps =
      (mid : List P) × (before after : List Step) × FirstPlaces C n old mid before × C n mid new after (Ok tt) × (steps ≡ before ++ after)

  -- the change of each place, in order, up to the first that ends in a fault
  abbrev pub Each : (ℕ → Change P) → Change P
  Each C old new steps (Ok u) = FirstPlaces C (length old) old new steps
  Each C old new steps (Err fault) =
      (n : ℕ) × (mid : List P) × (before after : List Step) × (n < length old) × FirstPlaces C n old mid before × C n mid new after (Err fault) × (steps ≡ before ++ after)

  -- the change of place n, if there is one
  pub record AtPlace (C : ℕ → Change P) (n : ℕ) (old new : List P) (steps : List Step) (r : Result (Unit {0}) Fault) : Type 0 where
    pub there : n < length old → C n old new steps r
    pub missing : length old ≤ n → (new ≡ old) × (steps ≡ []) × (r ≡ Ok tt)

  -- the change of each of those places, one after the other, up to the first that ends in a fault
  abbrev pub EachOf : (ℕ → Change P) → List ℕ → Change P
  EachOf C [] old new steps r = (new ≡ old) × (steps ≡ []) × (r ≡ Ok tt)
  EachOf C (n ∷ places) old new steps r = Then (AtPlace C n) (EachOf C places) old new steps r

  -- a change that the hub has no part in
  abbrev pub Alone : (List P → List P → Type 0) → Change P
  Alone R old new steps r = R old new × (steps ≡ []) × (r ≡ Ok tt)

  -- such a change by a function
  abbrev pub Becomes : (List P → List P) → Change P
  Becomes f = Alone (λ old new. new ≡ f old)

-- what a fault says: NoSuchOperator says that the operator isn't hosted, the others say nothing of
-- that
abbrev pub Means : Bool → Fault → Type 0
Means hosted fault = fault ≡ NoSuchOperator → hosted ≡ false

module _ {T : Type 0} (contents : T → Option (List ℕ)) where
  -- peer n alone is sent a text before a change, and another after it; where the change ends in a fault it is sent none
  abbrev pub Between : ℕ → List ℕ → List ℕ → Change (Peer T) → Change (Peer T)
  Between n begin end C old new steps (Ok u) =
      (begun told : List (Peer T)) × lists.At (SentWhileOpen contents begin) n old begun × C begun told steps (Ok u) × lists.At (SentWhileOpen contents end) n told new
  Between n begin end C old new steps (Err fault) = C old new steps (Err fault)

  -- the answer to a text of peer n: where it has a word, between the two lines of that word
  abbrev pub Answers : ℕ → Option (List ℕ) → Change (Peer T) → Change (Peer T)
  Answers n None C old new steps r = C old new steps r
  Answers n (Some word) C old new steps r = Between n (begin_line word) (end_line word) C old new steps r

module _ {T : Type 0} (contents : T → Option (List ℕ)) (is_hosted : List ℕ → Bool) where
  -- an event is handed to the hub: its outputs are sent, or nothing has changed
  abbrev pub Hands : Event → Change (Peer T)
  Hands event old new steps (Ok u) = (outs : List Out) × (steps ≡ record { event = event; outs = outs } ∷ []) × TellsAll contents outs old new
  Hands event old new steps (Err fault) = (new ≡ old) × (steps ≡ []) × Means (is_of_hosted is_hosted event) fault

  -- the event of a text of peer n is handed to the hub, or the text is no order and peer n is told so while it is open
  abbrev pub HandsOrRefuses : ℕ → Option Event → Change (Peer T)
  HandsOrRefuses n (Some event) old new steps r = Hands event old new steps r
  HandsOrRefuses n None old new steps r = lists.At (SentWhileOpen contents (codes "bad line")) n old new × (steps ≡ []) × (r ≡ Ok tt)

  -- a text of peer n at moment m; after a fault nothing has changed
  abbrev pub HandsText : ℕ → ℕ → List ℕ → Change (Peer T)
  HandsText m n text old new steps (Ok u) =
      (route : Route) × ((d : Peer T) → route ≡ route_of (slice_index_or old n d)) × Answers contents n (word_of route text) (HandsOrRefuses n (event_of route m text)) old new steps (Ok u)
  HandsText m n text old new steps (Err fault) = (new ≡ old) × (steps ≡ []) × ((d : Peer T) → Means (is_route_of_hosted is_hosted (route_of (slice_index_or old n d))) fault)

  -- what was read from peer n; a text that ends in a fault is lost, and the connection is closed
  abbrev pub Handles : ℕ → ℕ → Option (List ℕ) → Change (Peer T)
  Handles m n None old new steps r = (new ≡ old) × (steps ≡ []) × (r ≡ Ok tt)
  Handles m n (Some text) old new steps (Ok u) = HandsText m n text old new steps (Ok u)
  Handles m n (Some text) old new steps (Err fault) =
      lists.At (λ p q. Failed contents p q × Means (is_route_of_hosted is_hosted (route_of p)) fault) n old new × (steps ≡ [])

  -- peer n leaves the hub, if it is to leave now; where that ends in a fault it leaves later
  abbrev pub PartsAs : ℕ → Option Event → Change (Peer T)
  PartsAs n None old new steps r = (new ≡ old) × (steps ≡ []) × (r ≡ Ok tt)
  PartsAs n (Some event) old new steps (Ok u) = (mid : List (Peer T)) × Hands event old mid steps (Ok u) × lists.At (λ p q. q ≡ finishes p) n mid new
  PartsAs n (Some event) old new steps (Err fault) = (new ≡ old) × (steps ≡ []) × Means (is_of_hosted is_hosted event) fault

  abbrev pub Parts : ℕ → ℕ → Change (Peer T)
  Parts m n old new steps r = (event : Option Event) × ((d : Peer T) → event ≡ parting m (slice_index_or old n d)) × PartsAs n event old new steps r

  -- those that are gone are dropped, and the hub is handed a tick
  abbrev pub SweepsAndTicks : ℕ → Change (Peer T)
  SweepsAndTicks m = Then (Alone lists.Swept) (Hands (Tick m))

  -- those that have ended leave, and their disconnects are handed to the hub; then the sweep and
  -- the tick
  abbrev pub PartsAndTicks : ℕ → Change (Peer T)
  PartsAndTicks m = Then (Becomes (map leaves)) (Then (Each (Parts m)) (SweepsAndTicks m))

module _ {T : Type 0} (remaining contents : T → Option (List ℕ)) (is_hosted : List ℕ → Bool) where
  -- peer n is served at moment m: one read, and what was read is handled
  pub record Serves (m n : ℕ) (old new : List (Peer T)) (steps : List Step) (r : Result (Unit {0}) Fault) : Type 0 where
    pub text : Option (List ℕ)
    pub mid : List (Peer T)
    pub took : lists.At (λ p q. Took remaining contents p q text) n old mid
    pub handled : Handles contents is_hosted m n text mid new steps r
