-- Admissions.
use Rattle.std.proofs.Common.{Bool, List, Option, Result, [], codes, false, inl, inr, subst, sym, ℕ, ◌≡◌}
use Rattle.std.specs.Prelude.{⊤}
use Rattle.hub_events.specs.declared.fault.Fault.{Fault}
use Rattle.tungstenite.specs.Socket.{Socket}
use Rattle.ws_peers.specs.declared.peer.Peer.{Peer}
use Rattle.ws_peers.specs.declared.routes.Route.{Route}
use Rattle.ws_peers.specs.declared.routes.Route.TheVariants.{Station}
use Rattle.ws_handshake.specs.declared.head.Upgrade.{Upgrade}
use Rattle.ws_server.specs.Admits.{Admits, Closes, Welcomes}
use Rattle.ws_server.specs.Steps.{Step}

module _ {T : Type 0} (contents : T → Option (List ℕ)) (socket : Socket T) (m : ℕ) (route : Route) (offers : Bool) (old new : List (Peer T)) (r : Result (Unit {0}) Fault) where
  -- a station that doesn't offer the subprotocol is closed
  pub no_subprotocol : (op station : List ℕ) → route ≡ Station op station → offers ≡ false → Closes contents socket (codes "subprotocol ocpp1.6 is missing") route old new [] r → Admits contents socket m route offers old new [] r
  no_subprotocol op station is missing closes =
      let closes = subst (λ x. Closes contents socket (codes "subprotocol ocpp1.6 is missing") x old new [] r) is closes in
      subst (λ x. Admits contents socket m x offers old new [] r) (sym is) (subst (λ b. Admits contents socket m (Station op station) b old new [] r) (sym missing) closes)

-- whoever is read tolerantly
pub whoever : {T : Type 0} (remaining contents : T → Option (List ℕ)) (m : ℕ) (IsTolerant : Bool → Type 0) (stream : T) (upgrade : Upgrade) (old new : List (Peer T)) (steps : List Step) (r : Result (Unit {0}) Fault) → Welcomes remaining contents m IsTolerant stream upgrade old new steps r → Welcomes remaining contents m (λ _. ⊤) stream upgrade old new steps r
whoever remaining contents m IsTolerant stream upgrade old new steps r (inl same) = inl same
whoever remaining contents m IsTolerant stream upgrade old new steps r (inr w) = inr (w.0, tt, w.2, w.3, w.4)
