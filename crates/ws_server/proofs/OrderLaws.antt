-- The texts of orders.
use Rattle.std.proofs.Common.{Bool, List, None, Option, Some, ap, false, if◌then◌else◌, length, nat_lt, refl, subst, sym, true, ℕ, ◌∙◌, ◌≡◌, ◌||◌}
use Rattle.std.specs.Io.BufRead.{strip_last}
use Rattle.std.specs.Option.{IfSome}
use Rattle.hub_events.specs.declared.event.Event.{Event}
use Rattle.hub_events.specs.declared.event.Event.TheVariants.{At}
use Rattle.hub_events.specs.declared.event.What.{What}
use Rattle.hub_events.specs.declared.event.What.TheVariants as what
use Rattle.lines.specs.declared.input_line.TheConstants.{MAX_LINE}
use Rattle.lines.specs.Forms.{what_of}
use Rattle.lines.specs.Orders.{has_line_feed, is_order, order_in, order_of}
use Rattle.lines.specs.Words.{◌>>=◌}
use Rattle.ws_peers.specs.Peers.{route_of, stage_of}
use Rattle.ws_peers.specs.declared.peer.Peer.{Peer}
use Rattle.ws_peers.specs.declared.routes.Route.{Route}
use Rattle.ws_peers.specs.declared.routes.Route.TheVariants.{Operator, Station}
use Rattle.ws_peers.specs.declared.stage.Stage.{Stage}
use Rattle.ws_peers.specs.declared.stage.Stage.TheVariants.{Ended, Gone, Leaving, Open}
use Rattle.ws_server.specs.Events.{disconnect_of, event_of, order_text, parting, parting_at}
use Rattle.ws_server.specs.Steps.{IsOrderOf}

-- what an order says is so of its text
of_text : (op : List ℕ) (m : ℕ) (w : What) (text : List ℕ) → order_of op m text ≡ Some (At op m w) → IsOrderOf (At op m w) text
of_text op m (what.Connect station) text is = λ is_hosted can. record { hosted = can.1.hosted; name = can.1.name; says = can.1.says }
of_text op m (what.Disconnect station) text is = λ is_hosted can. record { hosted = can.1.hosted; name = can.1.name; says = can.1.says }
of_text op m (what.Frame station frame) text is = λ is_hosted can. record { hosted = can.1.hosted; name = can.1.name; says = can.1.says }
of_text op m (what.Do station command) text is = λ is_hosted can. record { hosted = can.1.hosted; name = can.1.name; says = is }
of_text op m (what.Admin admin) text is = λ is_hosted can. record { hosted = can.1.hosted; name = can.1.name; says = is }
of_text op m (what.List listing) text is = λ is_hosted can. record { hosted = can.1.hosted; name = can.1.name; says = is }
of_text op m what.Connections text is = λ is_hosted can. record { hosted = can.1.hosted; name = can.1.name; says = is }
of_text op m (what.DropStation station) text is = λ is_hosted can. record { hosted = can.1.hosted; name = can.1.name; says = is }
of_text op m (what.Forget station until ends) text is = λ is_hosted can. record { hosted = can.1.hosted; name = can.1.name; says = is }

-- it is one of its operator, at its moment
IsAt : List ℕ → ℕ → Event → Type 0
IsAt op m event = (w : What) × (event ≡ At op m w)

order-if : (op : List ℕ) (m : ℕ) (w : What) (b : Bool) → IfSome (if b then Some (At op m w) else None) (IsAt op m)
unfolding IsAt
order-if op m w true = (w, refl)
order-if op m w false = tt

order-in : (op : List ℕ) (m : ℕ) (w : Option What) → IfSome (w >>= λ what. if is_order what then Some (At op m what) else None) (IsAt op m)
order-in op m None = tt
order-in op m (Some w) = order-if op m w (is_order w)

order-unless : (P : Event → Type 0) (b : Bool) (order : Option Event) → IfSome order P → IfSome (if b then None else order) P
order-unless P true order is = tt
order-unless P false order is = is

order-at : (op : List ℕ) (m : ℕ) (text : List ℕ) → IfSome (order_of op m text) (IsAt op m)
unfolding order_of
order-at op m text = order-unless (IsAt op m) (nat_lt MAX_LINE (length text) || has_line_feed text) (order_in op m (strip_last 13 text)) (order-in op m (what_of (strip_last 13 text)))

of_order : (op : List ℕ) (m : ℕ) (text : List ℕ) (o : Option Event) → order_of op m text ≡ o → IfSome o (IsAt op m) → IfSome o (λ e. IsOrderOf e text)
unfolding IsAt
of_order op m text None is at = tt
of_order op m text (Some event) is at = subst (λ e. IsOrderOf e text) (sym at.1) (of_text op m at.0 text (is ∙ ap Some at.1))

-- a text of a peer is that of its order
order_said : (route : Route) (m : ℕ) (text : List ℕ) → IfSome (event_of route m text) (λ e. IsOrderOf e (order_text text))
order_said (Station op station) m text = λ is_hosted can. record { hosted = can.1.hosted; name = can.1.name; says = can.1.says }
order_said (Operator op) m text = of_order op m (order_text text) (order_of op m (order_text text)) refl (order-at op m (order_text text))

pub order_of_text : (route : Route) (m : ℕ) (text order : List ℕ) (event : Option Event) → event ≡ event_of route m text → order ≡ order_text text → IfSome event (λ e. IsOrderOf e order)
order_of_text route m text order event is named = subst (λ t. IfSome event (λ e. IsOrderOf e t)) (sym named) (subst (λ e. IfSome e (λ e. IsOrderOf e (order_text text))) (sym is) (order_said route m text))

-- a disconnect has none
disconnect_said : (route : Route) (m : ℕ) (text : List ℕ) → IfSome (disconnect_of route m) (λ e. IsOrderOf e text)
disconnect_said (Station op station) m text = λ is_hosted can. record { hosted = can.1.hosted; name = can.1.name; says = can.1.says }
disconnect_said (Operator op) m text = tt

parting_at_said : (stage : Stage) (route : Route) (m : ℕ) (text : List ℕ) → IfSome (parting_at stage route m) (λ e. IsOrderOf e text)
parting_at_said Leaving route m text = disconnect_said route m text
parting_at_said Open route m text = tt
parting_at_said (Ended cause) route m text = tt
parting_at_said Gone route m text = tt

pub parting_said : {T : Type 0} (m : ℕ) (p : Peer T) (text : List ℕ) → IfSome (parting m p) (λ e. IsOrderOf e text)
parting_said m p text = parting_at_said (stage_of p) (route_of p) m text
