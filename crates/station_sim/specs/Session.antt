-- A session of a script: what each step and each message does to it.
use Rattle.std.specs.Prelude.{ℕ, ◌+◌, ◌-◌, ℤ, List, bytes_eq, codes, Bool, true, false, not, ◌&&◌, ◌||◌, nat_le, is_none, if◌then◌else◌, Option, Some, None, option_map, unwrap_or, IsOk}
use Rattle.std.specs.Option.{option_or}
use Rattle.ocpp_frame.specs.declared.frame.Frame.{Frame}
use Rattle.ocpp_frame.specs.declared.frame.Frame.TheVariants.{Call, CallResult, CallError, Broken, Ignored}
use Rattle.ocpp_payload.specs.Action.{action_name}
use Rattle.ocpp_payload.specs.Request.{request}
use Rattle.ocpp_payload.specs.declared.action.Action.{Action}
use Rattle.ocpp_payload.specs.declared.action.Action.TheVariants as action
use Rattle.ocpp_types.specs.TimeText.{time_text}
use Rattle.serde_json.specs.Data.{Data}
use Rattle.station_sim.specs.Calls.{call_id, call_of, heartbeat, meter_after}
use Rattle.station_sim.specs.Remote.{is_idle, start_of, stop_of}
use Rattle.station_sim.specs.Replies.{version_of}
use Rattle.station_sim.specs.Results.{after_result, after_error, interval_after}
use Rattle.station_sim.specs.declared.results.TheConstants.{INTERVAL}
use Rattle.station_sim.specs.declared.script.Script.{Script}
use Rattle.station_sim.specs.declared.session.Session.{Session}
use Rattle.station_sim.specs.declared.session.TheConstants.{MAX_CALLS}
use Rattle.station_sim.specs.declared.stage.Stage.{Stage}
use Rattle.station_sim.specs.declared.stage.Stage.TheVariants.{Boot, Status, Authorize, Start, Charging, Stopping, Refused, Idle, Ended}
use Rattle.station_sim.specs.declared.version.ListVersion.TheVariants.{Unsigned}

-- a script that has not begun
abbrev pub start : Script → Session
start script = record {
  script = script;
  stage = Boot;
  left = script.sessions;
  ordered = None;
  in_flight = None;
  moves = false;
  calls = 0;
  called = 0;
  interval = INTERVAL;
  version = Unsigned 0;
}

-- whether a stage has no call any more
abbrev pub is_end : Stage → Bool
is_end Boot = false
is_end Status = false
is_end Authorize = false
is_end Start = false
is_end (Charging transaction sent) = false
is_end (Stopping transaction) = false
is_end (Refused transaction) = false
is_end Idle = false
is_end Ended = true

-- whether it has made as many calls as a station makes
abbrev pub is_spent : Session → Bool
is_spent s = nat_le MAX_CALLS s.calls

-- a heartbeat, where the station has not ended and its interval has passed since its last call
abbrev pub heartbeat_at : Session → ℕ → Option (Action × Data)
heartbeat_at s at = if not (is_end s.stage) && nat_le s.interval (at - s.called) then Some heartbeat else None

-- what a session has to call at a moment: the call of its stage, or a heartbeat while the stage has none
abbrev pub wanted_call : Session → ℕ → Option (Action × Data)
wanted_call s at = option_or (call_of s.script s.ordered s.stage (time_text at)) (heartbeat_at s at)

-- what it has to call, by action and payload: nothing while a call is in flight
abbrev pub call_by : Option (List ℕ) → Option (Action × Data) → Option (Action × Data)
call_by (Some id) call = None
call_by None call = call

abbrev pub due_call : Session → ℕ → Option (Action × Data)
due_call s at = if is_spent s then None else call_by s.in_flight (wanted_call s at)

-- the call as a message: its id says how many were made before
abbrev pub next_call : Session → ℕ → Option Frame
next_call s at = option_map (λ call. Call (call_id (s.calls + 1)) (action_name call.0) call.1) (due_call s at)

-- whether the answer to a call moves the script on: that to a heartbeat doesn't
abbrev pub moves_on : Action → Bool
moves_on action.Heartbeat = false
moves_on a = true

-- whether a call ends a session: a stop does
abbrev pub ends_session : Action → Bool
ends_session action.StopTransaction = true
ends_session a = false

-- the next session begins with what the meter showed as the one before it ended, also where that was refused
abbrev pub metered : Bool → Script → Script
metered true script = record script { meter_start = meter_after script script.energy }
metered false script = script

-- after the next call at a moment, if there is one
abbrev pub after_call : Session → ℕ → Option (Action × Data) → Session
after_call s at None = s
after_call s at (Some call) = record s {
  script = metered (ends_session call.0) s.script;
  in_flight = Some (call_id (s.calls + 1));
  moves = moves_on call.0;
  calls = s.calls + 1;
  called = at;
}

-- whether an id is that of the call in flight
abbrev pub is_id : List ℕ → Option (List ℕ) → Bool
is_id id None = false
is_id id (Some own) = bytes_eq own id

-- how many sessions are left as a stage begins: with Authorize one of them does
abbrev pub left_at : Stage → ℕ → ℕ
left_at Authorize left = left - 1
left_at stage left = left

-- at the stage that an answer leads to
abbrev pub moved : Stage → ℕ → Session → Session
moved stage interval s = record s { stage = stage; left = left_at stage s.left; interval = interval }

-- after an answer to the call in flight: the script moves on, unless the call was a heartbeat or a command came between
abbrev pub answered : Stage → ℕ → Session → Session
answered stage interval s = record (if s.moves then moved stage interval s else s) { in_flight = None }

-- after an answer to the call of that id, which leads to a stage
abbrev pub after_answer : List ℕ → Stage → ℕ → Session → Session
after_answer id stage interval s = if is_id id s.in_flight then answered stage interval s else s

-- after a remote start: if it is accepted, a session begins with its tag
abbrev pub begun : Option (List ℕ) → Session → Session
begun None s = s
begun (Some tag) s = record s { stage = Start; ordered = Some tag; moves = false }

-- after a remote stop: if it is accepted, the stop is next, whatever is in flight
abbrev pub stopped : Option ℤ → Session → Session
stopped None s = s
stopped (Some transaction) s = record s { stage = Stopping transaction; moves = false }

-- after a command: a local list may bring its version
abbrev pub after_command : List ℕ → Data → Session → Session
after_command action payload s =
    if bytes_eq action (codes "SendLocalList") then record s { version = unwrap_or (version_of payload) s.version }
    else (if bytes_eq action (codes "RemoteStartTransaction") then begun (start_of s payload) s
    else (if bytes_eq action (codes "RemoteStopTransaction") then stopped (stop_of s payload) s
    else s))

-- after a message
abbrev pub after_message : Frame → Session → Session
after_message (Call id action payload) s = after_command action payload s
after_message (CallResult id payload) s = after_answer id (after_result s.script s.left s.stage payload) (interval_after s.stage payload s.interval) s
after_message (CallError id code description) s = after_answer id (after_error s.script s.left s.stage) s.interval s
after_message (Broken id) s = s
after_message Ignored s = s

-- whether the script has ended and no call is in flight
abbrev pub is_done : Session → Bool
is_done s = (is_end s.stage || is_spent s) && is_none s.in_flight

-- whether a station waits for commands, and no call is in flight
abbrev pub is_waiting : Session → Bool
is_waiting s = is_idle s.stage && is_none s.in_flight

-- the central system reads the payload of the call without fault
abbrev pub IsRead : Option (Action × Data) → Type 0
IsRead None = Unit {0}
IsRead (Some call) = IsOk (request call.0 call.1)
