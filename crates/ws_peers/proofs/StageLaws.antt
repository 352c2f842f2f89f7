-- How far a connection has come, as those that have ended leave.
use Rattle.std.proofs.Common.{◌≡◌, ap, sym, refl, true, false, true≢false}
use Rattle.ws_peers.specs.Peers.{is_open_peer, is_held_peer, leaves}
use Rattle.ws_peers.specs.Stages.{is_open, is_held, leaving}
use Rattle.ws_peers.specs.declared.peer.Peer.{Peer}
use Rattle.ws_peers.specs.declared.routes.Route.{Route}
use Rattle.ws_peers.specs.declared.routes.Route.TheVariants.{Station, Operator}
use Rattle.ws_peers.specs.declared.stage.Stage.{Stage}
use Rattle.ws_peers.specs.declared.stage.Stage.TheVariants.{Open, Ended, Leaving, Gone}

open_stays : (r : Route) (s : Stage) → is_open s ≡ true → s ≡ leaving r s
open_stays r Open e = refl
open_stays r (Ended cause) e = absurd (true≢false (sym e))
open_stays r Leaving e = absurd (true≢false (sym e))
open_stays r Gone e = absurd (true≢false (sym e))

twice : (r : Route) (s : Stage) → leaving r (leaving r s) ≡ leaving r s
twice r Open = refl
twice (Station op name) (Ended cause) = refl
twice (Operator op) (Ended cause) = refl
twice r Leaving = refl
twice r Gone = refl

still : (r : Route) (s : Stage) → is_open (leaving r s) ≡ is_open s
still r Open = refl
still (Station op name) (Ended cause) = refl
still (Operator op) (Ended cause) = refl
still r Leaving = refl
still r Gone = refl

ended_too : (s : Stage) → is_held s ≡ false → is_open s ≡ false
ended_too Open e = absurd (true≢false e)
ended_too (Ended cause) e = refl
ended_too Leaving e = refl
ended_too Gone e = refl

module _ {T : Type 0} where
  -- an open peer doesn't leave
  pub leaves_open : (p : Peer T) → is_open_peer p ≡ true → p ≡ leaves p
  leaves_open p e = ap (λ s. record p { stage = s }) (open_stays p.route p.stage e)

  pub leaves_twice : (p : Peer T) → leaves (leaves p) ≡ leaves p
  leaves_twice p = ap (λ s. record p { stage = s }) (twice p.route p.stage)

  pub leaves_keeps : (p : Peer T) → is_open_peer (leaves p) ≡ is_open_peer p
  leaves_keeps p = still p.route p.stage

  -- one that is gone isn't open
  pub gone_ended : (p : Peer T) → is_held_peer p ≡ false → is_open_peer p ≡ false
  gone_ended p e = ended_too p.stage e
