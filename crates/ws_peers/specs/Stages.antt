-- The stages of a connection.
use Rattle.std.specs.Prelude.{Bool, true, false, Result, Ok, Err}
use Rattle.tungstenite.specs.declared.error.Error.{Error}
use Rattle.ws_peers.specs.Causes.{cause_of_send}
use Rattle.ws_peers.specs.declared.cause.Cause.{Cause}
use Rattle.ws_peers.specs.declared.routes.Route.{Route}
use Rattle.ws_peers.specs.declared.routes.Route.TheVariants.{Station, Operator}
use Rattle.ws_peers.specs.declared.stage.Stage.{Stage}
use Rattle.ws_peers.specs.declared.stage.Stage.TheVariants.{Open, Ended, Leaving, Gone}

-- it is served
abbrev pub is_open : Stage → Bool
is_open Open = true
is_open (Ended cause) = false
is_open Leaving = false
is_open Gone = false

-- it isn't gone
abbrev pub is_held : Stage → Bool
is_held Open = true
is_held (Ended cause) = true
is_held Leaving = true
is_held Gone = false

-- an open connection ends, for that cause; one that has ended is unchanged
abbrev pub ended : Cause → Stage → Stage
ended cause Open = Ended cause
ended cause (Ended first) = Ended first
ended cause Leaving = Leaving
ended cause Gone = Gone

-- a send that isn't Ok ends the connection
abbrev pub stage_after : Result (Unit {0}) Error → Stage → Stage
stage_after (Ok u) stage = stage
stage_after (Err e) stage = ended (cause_of_send e) stage

-- a connection that has ended leaves: a station is to leave the hub, an operator is gone
abbrev pub left : Route → Stage
left (Station op name) = Leaving
left (Operator op) = Gone

abbrev pub leaving : Route → Stage → Stage
leaving route Open = Open
leaving route (Ended cause) = left route
leaving route Leaving = Leaving
leaving route Gone = Gone
