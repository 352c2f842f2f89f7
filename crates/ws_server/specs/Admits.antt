-- What admitting a connection does.
use Rattle.std.specs.Prelude.{ℕ, List, [], ◌∷◌, ◌++◌, Option, Some, None, Bool, true, false, not, ◌||◌, ◌≡◌, Ok, Err, ◌&&◌, ◌⊎◌, is_some, nat_le, length, take, codes, bytes_eq, ⊤}
use Rattle.std.specs.List.{filter, list_any}
use Rattle.tungstenite.specs.Socket.{Socket}
use Rattle.hub_events.specs.declared.event.Event.{Event}
use Rattle.hub_events.specs.declared.event.Event.TheVariants as event
use Rattle.hub_events.specs.declared.event.What.TheVariants as what
use Rattle.hub_events.specs.declared.out.Out.{Out}
use Rattle.hub_rows.specs.Rows.{Rows, registration_at}
use Rattle.ws_handshake.specs.Heads.{Asks}
use Rattle.hub_rows.specs.declared.reader_row.Reader.{Reader}
use Rattle.hub_rows.specs.declared.reader_row.Reader.TheVariants.{Strict, Tolerant}
use Rattle.hub_rows.specs.Readers.{reader_in}
use Rattle.ws_handshake.specs.Shakes.{Shaken}
use Rattle.ws_handshake.specs.Subprotocols.{chosen}
use Rattle.ws_handshake.specs.declared.head.Asked.TheVariants.{Upgraded}
use Rattle.ws_handshake.specs.declared.head.Upgrade.{Upgrade}
use Rattle.ws_peers.specs.declared.peer.Peer.{Peer}
use Rattle.ws_peers.specs.declared.routes.Route.{Route}
use Rattle.ws_peers.specs.declared.routes.Route.TheVariants.{Station, Operator}
use Rattle.ws_peers.specs.Lists.{GiveWay, Shut, is_connected, is_open_for}
use Rattle.ws_peers.specs.Peers.{open_peer}
use Rattle.ws_server.specs.declared.welcome.TheConstants.{MAX_CONNECTIONS}
use Rattle.ws_server.specs.Events.{turns_away}
use Rattle.ws_server.specs.Tells.{TellsAll}
use Rattle.ws_server.specs.Steps.{Step}
use Rattle.ws_server.specs.Turns.{Change, FirstPlaces}

module _ {T : Type 0} (contents : T → Option (List ℕ)) (socket : Socket T) where
  -- a station that is turned away is closed; another replaces older connections of it
  abbrev pub Enters : Bool → Route → List (Peer T) → List (Peer T) → Type 0
  Enters true route old new = Shut contents (codes "no such station") socket route old new
  Enters false route old new = (older : List (Peer T)) × GiveWay contents route old older × (new ≡ older ++ open_peer socket route ∷ [])

  -- a connect is handed to the hub: the station enters and the outputs are sent, or nothing has
  -- changed
  abbrev pub Connects : Event → Route → Change (Peer T)
  Connects connect route old new steps (Ok u) =
      (outs : List Out) × (mid : List (Peer T)) × (steps ≡ record { event = connect; outs = outs } ∷ []) × Enters (turns_away outs) route old mid × TellsAll contents outs mid new
  Connects connect route old new steps (Err fault) = (new ≡ old) × (steps ≡ [])

  -- a connection is closed, and the hub has no part in it
  abbrev pub Closes : List ℕ → Route → Change (Peer T)
  Closes reason route old new steps (Ok u) = Shut contents reason socket route old new × (steps ≡ [])
  Closes reason route old new steps (Err fault) = (new ≡ old) × (steps ≡ [])

  -- a connection is admitted at moment m; a station that doesn't offer the subprotocol isn't
  abbrev pub Admits : ℕ → Route → Bool → Change (Peer T)
  Admits m (Station op station) true old new steps r = Connects (event.At op m (what.Connect station)) (Station op station) old new steps r
  Admits m (Station op station) false old new steps r = Closes (codes "subprotocol ocpp1.6 is missing") (Station op station) old new steps r
  Admits m (Operator op) offers old new steps (Ok u) = (new ≡ old ++ open_peer socket (Operator op) ∷ []) × (steps ≡ [])
  Admits m (Operator op) offers old new steps (Err fault) = (new ≡ old) × (steps ≡ [])

-- a connection that is served is one of a hosted operator; a station that doesn't offer the subprotocol isn't served
abbrev pub is_served : (List ℕ → Bool) → Route → Bool → Bool
is_served is_hosted (Station op station) offers = not offers || is_hosted op
is_served is_hosted (Operator op) offers = is_hosted op

-- a path leads to a station that is registered with a hosted operator, or to a hosted operator
abbrev pub is_known : (List ℕ → Bool) → Rows → Route → Bool
is_known is_hosted rows (Station op station) = is_hosted op && is_some (registration_at op station rows)
is_known is_hosted rows (Operator op) = is_hosted op

-- the requests of the station that a path leads to are read tolerantly
abbrev pub is_tolerant_reader : Reader → Bool
is_tolerant_reader Strict = false
is_tolerant_reader Tolerant = true

abbrev pub is_tolerant : Rows → Route → Bool
is_tolerant rows (Station op station) = is_tolerant_reader (reader_in op station rows.readers)
is_tolerant rows (Operator op) = false

-- an operator has as many open connections as it may have; its stations have, where it is one of those named full, but one
-- that is connected may come again
abbrev pub is_full : {T : Type 0} → List (List ℕ) → Route → List (Peer T) → Bool
is_full full (Operator op) peers = nat_le MAX_CONNECTIONS (length (filter (is_open_for op) peers))
is_full full (Station op station) peers = list_any (λ o. bytes_eq o op) full && not (is_connected (Station op station) peers)

-- the bytes come next from a stream, where it tells what comes
abbrev pub ComeNext : Option (List ℕ) → List ℕ → Type 0
ComeNext None bytes = ⊤
ComeNext (Some all) bytes = take (length bytes) all ≡ bytes

-- the next bytes of a stream are a head that asks for that upgrade, where pages of these origins are served
abbrev pub AsksFor : {T : Type 0} → List (List ℕ) → (T → Option (List ℕ)) → T → Upgrade → Type 0
AsksFor origins remaining stream upgrade = (bytes : List ℕ) × ComeNext (remaining stream) bytes × Asks origins bytes (Upgraded upgrade)

module _ {T : Type 0} (remaining contents : T → Option (List ℕ)) (m : ℕ) where
  -- a connection is welcomed: its handshake is done, with the subprotocol that is chosen, and it is admitted, or nothing
  -- changes. The choice goes by whether its station is read tolerantly
  abbrev pub Welcomes : (Bool → Type 0) → T → Upgrade → Change (Peer T)
  Welcomes IsTolerant stream upgrade old new steps r =
      ((new ≡ old) × (steps ≡ []))
      ⊎ ((tolerant : Bool) × IsTolerant tolerant × (socket : Socket T)
      × Shaken remaining contents upgrade (chosen tolerant upgrade.offered) stream socket
      × Admits contents socket m upgrade.route (is_some (chosen tolerant upgrade.offered)) old new steps r)

  -- one is welcomed, by the upgrade that its own head asks for, or nothing changes
  abbrev pub WelcomesOne : List (List ℕ) → Change (Peer T)
  WelcomesOne origins old new steps r =
      ((new ≡ old) × (steps ≡ [])) ⊎ ((stream : T) × (upgrade : Upgrade) × AsksFor origins remaining stream upgrade × Welcomes (λ _. ⊤) stream upgrade old new steps r)

  -- some are welcomed, one after the other, up to the first fault
  abbrev pub WelcomesSome : List (List ℕ) → Change (Peer T)
  WelcomesSome origins old new steps (Ok u) = (n : ℕ) × FirstPlaces (λ _. WelcomesOne origins) n old new steps
  WelcomesSome origins old new steps (Err fault) =
      (n : ℕ) × (mid : List (Peer T)) × (before after : List Step) × FirstPlaces (λ _. WelcomesOne origins) n old mid before × WelcomesOne origins mid new after (Err fault) × (steps ≡ before ++ after)
