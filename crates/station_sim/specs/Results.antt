-- How the script goes on after the result of a call.
use Rattle.std.specs.Prelude.{ℕ, ◌+◌, ℤ, pos, negsuc, int_le, ◌&&◌, nat_lt, nat_le, unwrap_or, List, length, codes, bytes_eq, Bool, false, if◌then◌else◌, Option, Some, None, option_and_then}
use Rattle.serde_json.specs.Data.{Data}
use Rattle.serde_json.specs.Find.{get, as_str, as_number, as_integer, as_u64}
use Rattle.station_sim.specs.declared.results.TheConstants.{INTERVAL, MAX_INTERVAL}
use Rattle.station_sim.specs.declared.script.Script.{Script}
use Rattle.station_sim.specs.declared.stage.Stage.{Stage}
use Rattle.station_sim.specs.declared.stage.Stage.TheVariants.{Boot, Status, Authorize, Start, Charging, Stopping, Refused, Idle, Ended}

-- the text of the member `status`
abbrev pub status_of : Data → Option (List ℕ)
status_of d = option_and_then as_str (get (codes "status") d)

-- the text `idTagInfo.status`
abbrev pub tag_status_of : Data → Option (List ℕ)
tag_status_of d = option_and_then status_of (get (codes "idTagInfo") d)

abbrev pub is_accepted : Option (List ℕ) → Bool
is_accepted None = false
is_accepted (Some status) = bytes_eq status (codes "Accepted")

-- an integer of 32 bits
abbrev pub is_int_32 : ℤ → Bool
is_int_32 z = int_le (negsuc 2147483647) z && int_le z (pos 2147483647)

abbrev pub within_32 : ℤ → Option ℤ
within_32 z = if is_int_32 z then Some z else None

-- the member `transactionId`
abbrev pub transaction_of : Data → Option ℤ
transaction_of d = option_and_then within_32 (option_and_then as_integer (option_and_then as_number (get (codes "transactionId") d)))

-- once no session of its own is left, a station that stays waits for commands, and another has ended
abbrev pub rest_of : Script → Stage
rest_of script = if script.stays then Idle else Ended

-- what comes before or after a session, where so many of its own are left: the next of these
abbrev pub next_session : Script → ℕ → Stage
next_session script left = if nat_lt 0 left then Authorize else rest_of script

-- after the start: a transaction that was refused is stopped at once
abbrev pub after_start : Script → ℕ → Option (List ℕ) → Option ℤ → Stage
after_start script left (Some status) (Some transaction) = if is_accepted (Some status) then Charging transaction 0 else Refused transaction
after_start script left (Some status) None = next_session script left
after_start script left None transaction = next_session script left

-- the stage after a result of that payload, where so many sessions are left; the last call while charging is the stop
abbrev pub after_result : Script → ℕ → Stage → Data → Stage
after_result script left Boot payload = if is_accepted (status_of payload) then Status else Ended
after_result script left Status payload = next_session script left
after_result script left Authorize payload = if is_accepted (tag_status_of payload) then Start else next_session script left
after_result script left Start payload = after_start script left (tag_status_of payload) (transaction_of payload)
after_result script left (Charging transaction sent) payload = if nat_lt sent (length script.readings.items) then Charging transaction (sent + 1) else next_session script left
after_result script left (Stopping transaction) payload = next_session script left
after_result script left (Refused transaction) payload = next_session script left
after_result script left Idle payload = Idle
after_result script left Ended payload = Ended

-- the stage after an error in the place of a result: the session is over, and before the first one the script
abbrev pub after_error : Script → ℕ → Stage → Stage
after_error script left Boot = Ended
after_error script left Status = Ended
after_error script left Authorize = next_session script left
after_error script left Start = next_session script left
after_error script left (Charging transaction sent) = next_session script left
after_error script left (Stopping transaction) = next_session script left
after_error script left (Refused transaction) = next_session script left
after_error script left Idle = Idle
after_error script left Ended = Ended

-- a number of seconds from 1 to a day
abbrev pub within_day : ℕ → Option ℕ
within_day n = if nat_le 1 n && nat_le n MAX_INTERVAL then Some n else None

-- the seconds between heartbeats that the result of a boot gives
abbrev pub given_interval : Data → Option ℕ
given_interval payload = option_and_then within_day (option_and_then as_u64 (option_and_then as_number (get (codes "interval") payload)))

-- the interval after the result of a stage's call: after a boot that which it gives, or INTERVAL
abbrev pub interval_after : Stage → Data → ℕ → ℕ
interval_after Boot payload interval = unwrap_or (given_interval payload) INTERVAL
interval_after stage payload interval = interval
