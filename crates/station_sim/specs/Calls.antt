-- The calls of a script.
use Rattle.std.specs.Prelude.{ℕ, ℤ, ◌+ℤ◌, List, ◌++◌, codes, decimal, Option, Some, None, slice_get, unwrap_or}
use Rattle.std.specs.Fmt.{signed_decimal}
use Rattle.std.specs.Int.{w64, saturate_signed}
use Rattle.serde_json.specs.Data.{Data, number, unsigned, string, array, object, no_items, item, no_members, member}
use Rattle.serde_json.specs.Find.{of_integer}
use Rattle.ocpp_payload.specs.declared.action.Action.{Action}
use Rattle.ocpp_payload.specs.declared.action.Action.TheVariants as action
use Rattle.station_sim.specs.declared.script.Script.{Script}
use Rattle.station_sim.specs.declared.stage.Stage.{Stage}
use Rattle.station_sim.specs.declared.stage.Stage.TheVariants.{Boot, Status, Authorize, Start, Charging, Stopping, Refused, Idle, Ended}

-- the id of the call of that number: `s1`, `s2` and so on
abbrev pub call_id : ℕ → List ℕ
call_id n = codes "s" ++ decimal n

abbrev pub integer : ℤ → Data
integer z = number (of_integer z)

abbrev pub boot_payload : Script → Data
boot_payload script =
    object (member (codes "chargePointModel") (string script.model)
    (member (codes "chargePointVendor") (string script.vendor)
    no_members))

abbrev pub status_payload : Data
status_payload =
    object (member (codes "connectorId") (number (unsigned 0))
    (member (codes "errorCode") (string (codes "NoError"))
    (member (codes "status") (string (codes "Available"))
    no_members)))

abbrev pub authorize_payload : Script → Data
authorize_payload script = object (member (codes "idTag") (string script.tag) no_members)

-- the tag of a session: that of the command which began it, or the script's
abbrev pub tag_of : Script → Option (List ℕ) → List ℕ
tag_of script ordered = unwrap_or ordered script.tag

abbrev pub start_payload : Script → List ℕ → List ℕ → Data
start_payload script tag time =
    object (member (codes "connectorId") (number (unsigned script.connector))
    (member (codes "idTag") (string tag)
    (member (codes "meterStart") (integer script.meter_start)
    (member (codes "timestamp") (string time)
    no_members))))

-- a heartbeat has no members
abbrev pub heartbeat : Action × Data
heartbeat = (action.Heartbeat, object no_members)

-- what the meter shows once it has counted so many Wh since the session began
abbrev pub meter_after : Script → ℤ → ℤ
meter_after script counted = saturate_signed w64 (script.meter_start +ℤ counted)

-- a reading of the energy meter, in Wh
abbrev pub sampled_value : ℤ → Data
sampled_value reading =
    object (member (codes "unit") (string (codes "Wh"))
    (member (codes "value") (string (signed_decimal reading))
    no_members))

abbrev pub meter_value : ℤ → List ℕ → Data
meter_value reading time =
    object (member (codes "sampledValue") (array (item (sampled_value reading) no_items))
    (member (codes "timestamp") (string time)
    no_members))

abbrev pub reading_payload : Script → ℤ → ℤ → List ℕ → Data
reading_payload script transaction reading time =
    object (member (codes "connectorId") (number (unsigned script.connector))
    (member (codes "meterValue") (array (item (meter_value (meter_after script reading) time) no_items))
    (member (codes "transactionId") (integer transaction)
    no_members)))

-- the stop of a session with that tag, for that reason
abbrev pub stop_payload : Script → List ℕ → List ℕ → ℤ → List ℕ → Data
stop_payload script tag reason transaction time =
    object (member (codes "idTag") (string tag)
    (member (codes "meterStop") (integer (meter_after script script.energy))
    (member (codes "reason") (string reason)
    (member (codes "timestamp") (string time)
    (member (codes "transactionId") (integer transaction)
    no_members)))))

-- the stop of a start that was refused
abbrev pub refused_payload : Script → ℤ → List ℕ → Data
refused_payload script transaction time =
    object (member (codes "meterStop") (integer script.meter_start)
    (member (codes "reason") (string (codes "DeAuthorized"))
    (member (codes "timestamp") (string time)
    (member (codes "transactionId") (integer transaction)
    no_members))))

-- once all readings are sent: a session of its own stops, and one that a command began waits for the command that stops it
abbrev pub last_call : Script → Option (List ℕ) → ℤ → List ℕ → Option (Action × Data)
last_call script None transaction time = Some (action.StopTransaction, stop_payload script script.tag (codes "Local") transaction time)
last_call script (Some tag) transaction time = None

-- while it charges: the next reading, or what follows the last
abbrev pub charging_call : Script → Option (List ℕ) → ℤ → Option ℤ → List ℕ → Option (Action × Data)
charging_call script ordered transaction (Some reading) time = Some (action.MeterValues, reading_payload script transaction reading time)
charging_call script ordered transaction None time = last_call script ordered transaction time

-- the action and the payload of the call that a stage makes at a time, given as text; the session has a tag of a command, or none
abbrev pub call_of : Script → Option (List ℕ) → Stage → List ℕ → Option (Action × Data)
call_of script ordered Boot time = Some (action.BootNotification, boot_payload script)
call_of script ordered Status time = Some (action.StatusNotification, status_payload)
call_of script ordered Authorize time = Some (action.Authorize, authorize_payload script)
call_of script ordered Start time = Some (action.StartTransaction, start_payload script (tag_of script ordered) time)
call_of script ordered (Charging transaction sent) time = charging_call script ordered transaction (slice_get script.readings.items sent) time
call_of script ordered (Stopping transaction) time = Some (action.StopTransaction, stop_payload script (tag_of script ordered) (codes "Remote") transaction time)
call_of script ordered (Refused transaction) time = Some (action.StopTransaction, refused_payload script transaction time)
call_of script ordered Idle time = None
call_of script ordered Ended time = None
