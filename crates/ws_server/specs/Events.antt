-- What a peer hands to the hub.
use Rattle.std.specs.Prelude.{ℕ, List, Option, Some, None, option_map, Bool, true, false}
use Rattle.std.specs.List.{list_any}
use Rattle.std.specs.Option.{option_map_or}
use Rattle.hub_events.specs.declared.event.Event.{Event}
use Rattle.hub_events.specs.declared.event.Event.TheVariants.{At}
use Rattle.hub_events.specs.declared.event.What.TheVariants as what
use Rattle.hub_events.specs.declared.out.Out.{Out}
use Rattle.hub_events.specs.declared.out.Said.{Said}
use Rattle.hub_events.specs.declared.out.Said.TheVariants as said
use Rattle.lines.specs.Marks.{mark_of}
use Rattle.lines.specs.Orders.{order_of}
use Rattle.ws_peers.specs.declared.peer.Peer.{Peer}
use Rattle.ws_peers.specs.declared.routes.Route.{Route}
use Rattle.ws_peers.specs.declared.routes.Route.TheVariants.{Station, Operator}
use Rattle.ws_peers.specs.declared.stage.Stage.{Stage}
use Rattle.ws_peers.specs.declared.stage.Stage.TheVariants.{Open, Ended, Leaving, Gone}
use Rattle.ws_peers.specs.Peers.{route_of, stage_of}

-- the operator of a route is among the hosted ones
abbrev pub is_route_of_hosted : (List ℕ → Bool) → Route → Bool
is_route_of_hosted is_hosted (Station op station) = is_hosted op
is_route_of_hosted is_hosted (Operator op) = is_hosted op

-- the word of a text, which one of a station never has
abbrev pub word_of : Route → List ℕ → Option (List ℕ)
word_of (Station op station) text = None
word_of (Operator op) text = option_map (λ mark. mark.0) (mark_of text)

-- the text of an operator without its word
abbrev pub order_text : List ℕ → List ℕ
order_text text = option_map_or (λ mark. mark.1) (mark_of text) text

-- a text of a station is a frame, one of an operator an order
abbrev pub event_of : Route → ℕ → List ℕ → Option Event
event_of (Station op station) m text = Some (At op m (what.Frame station text))
event_of (Operator op) m text = order_of op m (order_text text)

abbrev pub disconnect_of : Route → ℕ → Option Event
disconnect_of (Station op station) m = Some (At op m (what.Disconnect station))
disconnect_of (Operator op) m = None

-- the disconnect of a peer that is to leave now
abbrev pub parting_at : Stage → Route → ℕ → Option Event
parting_at Leaving route m = disconnect_of route m
parting_at Open route m = None
parting_at (Ended cause) route m = None
parting_at Gone route m = None

abbrev pub parting : {T : Type 0} → ℕ → Peer T → Option Event
parting m p = parting_at (stage_of p) (route_of p) m

abbrev pub is_said_turned : Said → Bool
is_said_turned (said.Turned station) = true
is_said_turned _ = false

abbrev pub is_turned : Out → Bool
is_turned out = is_said_turned out.said

-- the outputs of a connect turn the station away
abbrev pub turns_away : List Out → Bool
turns_away outs = list_any is_turned outs
