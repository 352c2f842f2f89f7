-- How a text of a station is answered.
use Rattle.std.specs.Prelude.{ℕ, List, [], Option, Some, None, if◌then◌else◌, Result, Ok, Err}
use Rattle.serde_json.specs.Data.{Data}
use Rattle.ocpp_types.specs.declared.error_code.ErrorCode.TheVariants as code
use Rattle.ocpp_frame.specs.declared.frame.Frame.{Frame}
use Rattle.ocpp_frame.specs.declared.frame.Frame.TheVariants.{Call, CallResult, CallError, Broken, Ignored}
use Rattle.ocpp_frame.specs.Frame.{frame}
use Rattle.ocpp_payload.specs.declared.action.Action.{Action}
use Rattle.ocpp_payload.specs.declared.class_of_action.ActionClass.{ActionClass}
use Rattle.ocpp_payload.specs.declared.class_of_action.ActionClass.TheVariants.{Known, NotSupported, NotImplemented}
use Rattle.ocpp_payload.specs.declared.fault.FieldFault.{FieldFault}
use Rattle.ocpp_payload.specs.declared.request.Request.{Request}
use Rattle.ocpp_payload.specs.ActionClass.{action_class}
use Rattle.ocpp_payload.specs.Request.{request}
use Rattle.repairs.specs.declared.reading.Reading.{Reading}
use Rattle.repairs.specs.declared.reading.Reading.TheVariants.{AsSent, Repaired, Refused}
use Rattle.repairs.specs.Tolerant.{reading}
use Rattle.hub_rows.specs.declared.reader_row.Reader.{Reader}
use Rattle.hub_rows.specs.declared.reader_row.Reader.TheVariants.{Strict, Tolerant}
use Rattle.hub_rows.specs.declared.station_row.Registration.{Registration}
use Rattle.hub_rows.specs.Lookups.{Lookups}
use Rattle.registry.specs.Allowed.{is_allowed}
use Rattle.station_calls.specs.Decided.{decision}
use Rattle.station_calls.specs.Vendors.{Answers}
use Rattle.plans.specs.declared.plan.Plan.{Plan}
use Rattle.frame_plans.specs.Answers.{failure_plan, result_plan}
use Rattle.plans.specs.Facts.{Facts}
use Rattle.plans.specs.Plans.{nothing, turned_plan, error_plan, decided_plan, repaired_plan}

-- a request as the strict reader takes it
abbrev pub as_sent : Result Request FieldFault → Reading
as_sent (Ok request) = AsSent request
as_sent (Err fault) = Refused fault

-- as a station's reader takes it, of the payload of a call's text
abbrev pub as_read : Reader → Action → ℕ → List ℕ → Data → Reading
as_read Strict action m text payload = as_sent (request action payload)
as_read Tolerant action m text payload = reading action m text payload

-- the last check of a call is its payload
abbrev pub payload_plan : Answers → List ℕ → Registration → List ℕ → Action → Reading → ℕ → Lookups → Plan
payload_plan answers station r id action (AsSent request) m l = decided_plan station id (decision answers station r request m l)
payload_plan answers station r id action (Repaired request fault) m l = repaired_plan station id action fault (decision answers station r request m l)
payload_plan answers station r id action (Refused fault) m l = error_plan station id fault.code fault.field

-- before it comes the state of the station; one without a record, which is never connected, can't
-- be answered
abbrev pub state_plan : Answers → List ℕ → Option Registration → List ℕ → List ℕ → Action → Data → ℕ → Lookups → Plan
state_plan answers station None id text action payload m l = error_plan station id code.InternalError []
state_plan answers station (Some r) id text action payload m l =
    if is_allowed r.state action then payload_plan answers station r id action (as_read (l.reader station) action m text payload) m l else error_plan station id code.SecurityError []

-- and before that, whether the action is known and supported
abbrev pub call_plan : Answers → List ℕ → List ℕ → List ℕ → ActionClass → Data → ℕ → Lookups → Plan
call_plan answers station id text (Known action) payload m l = state_plan answers station (l.registration station) id text action payload m l
call_plan answers station id text NotSupported payload m l = error_plan station id code.NotSupported []
call_plan answers station id text NotImplemented payload m l = error_plan station id code.NotImplemented []

-- the first check is the frame's form; an answer ends the call in flight whatever the state
abbrev pub frame_plan : Answers → List ℕ → List ℕ → Frame → ℕ → Facts → Plan
frame_plan answers station text (Call id action payload) m f = call_plan answers station id text (action_class action) payload m f.lookups
frame_plan answers station text (CallResult id payload) m f = result_plan station id payload (f.slot station) f.lookups
frame_plan answers station text (CallError id error description) m f = failure_plan station id error description (f.slot station)
frame_plan answers station text (Broken id) m f = error_plan station id code.FormationViolation []
frame_plan answers station text Ignored m f = nothing

-- the text of a station that isn't connected is not read
abbrev pub text_plan : Answers → List ℕ → List ℕ → ℕ → Facts → Plan
text_plan answers station text m f = if (f.slot station).is_connected then frame_plan answers station text (frame text) m f else turned_plan station
