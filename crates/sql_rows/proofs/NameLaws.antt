-- An enumeration that is written by its name is read as it was.
use Rattle.std.proofs.Common.{◌≡◌, Some, None, Option, option_map, refl}
use Rattle.sqlite_value.specs.declared.value.Value.TheVariants.{Text}
use Rattle.ocpp_types.specs.ChargePointStatus.{charge_point_statuses, charge_point_status_name}
use Rattle.ocpp_types.specs.declared.charge_point_status.ChargePointStatus.{ChargePointStatus}
use Rattle.ocpp_types.specs.declared.charge_point_status.ChargePointStatus.TheVariants as status
use Rattle.ocpp_types.specs.AuthorizationStatus.{authorization_statuses, authorization_status_name}
use Rattle.ocpp_types.specs.declared.authorization_status.AuthorizationStatus.{AuthorizationStatus}
use Rattle.ocpp_types.specs.declared.authorization_status.AuthorizationStatus.TheVariants as judged
use Rattle.ocpp_types.specs.Policy.{policies, policy_name}
use Rattle.ocpp_types.specs.declared.policy.Policy.{Policy}
use Rattle.ocpp_types.specs.declared.policy.Policy.TheVariants as policy
use Rattle.ocpp_types.specs.State.{states, state_name}
use Rattle.ocpp_types.specs.declared.state.State.{State}
use Rattle.ocpp_types.specs.declared.state.State.TheVariants as state
use Rattle.ocpp_types.specs.Reason.{reasons, reason_name}
use Rattle.ocpp_types.specs.declared.reason.Reason.{Reason}
use Rattle.ocpp_types.specs.declared.reason.Reason.TheVariants as reason
use Rattle.ocpp_types.specs.ReadingContext.{reading_contexts, reading_context_name}
use Rattle.ocpp_types.specs.declared.reading_context.ReadingContext.{ReadingContext}
use Rattle.ocpp_types.specs.declared.reading_context.ReadingContext.TheVariants as context
use Rattle.ocpp_types.specs.ValueFormat.{value_formats, value_format_name}
use Rattle.ocpp_types.specs.declared.value_format.ValueFormat.{ValueFormat}
use Rattle.ocpp_types.specs.declared.value_format.ValueFormat.TheVariants as format
use Rattle.ocpp_types.specs.Location.{locations, location_name}
use Rattle.ocpp_types.specs.declared.location.Location.{Location}
use Rattle.ocpp_types.specs.declared.location.Location.TheVariants as location
use Rattle.ocpp_types.specs.ChargePointErrorCode.{charge_point_error_codes, charge_point_error_code_name}
use Rattle.ocpp_types.specs.declared.charge_point_error_code.ChargePointErrorCode.{ChargePointErrorCode}
use Rattle.ocpp_types.specs.declared.charge_point_error_code.ChargePointErrorCode.TheVariants as error
use Rattle.ocpp_types.specs.Measurand.{measurands, measurand_name}
use Rattle.ocpp_types.specs.declared.measurand.Measurand.{Measurand}
use Rattle.ocpp_types.specs.declared.measurand.Measurand.TheVariants as measurand
use Rattle.ocpp_types.specs.Phase.{phases, phase_name}
use Rattle.ocpp_types.specs.declared.phase.Phase.{Phase}
use Rattle.ocpp_types.specs.declared.phase.Phase.TheVariants as phase
use Rattle.ocpp_types.specs.UnitOfMeasure.{units_of_measure, unit_of_measure_name}
use Rattle.ocpp_types.specs.declared.unit_of_measure.UnitOfMeasure.{UnitOfMeasure}
use Rattle.ocpp_types.specs.declared.unit_of_measure.UnitOfMeasure.TheVariants as unit
use Rattle.ocpp_types.specs.DiagnosticsStatus.{diagnostics_statuses, diagnostics_status_name}
use Rattle.ocpp_types.specs.declared.diagnostics_status.DiagnosticsStatus.{DiagnosticsStatus}
use Rattle.ocpp_types.specs.declared.diagnostics_status.DiagnosticsStatus.TheVariants as diagnostics
use Rattle.ocpp_types.specs.FirmwareStatus.{firmware_statuses, firmware_status_name}
use Rattle.ocpp_types.specs.declared.firmware_status.FirmwareStatus.{FirmwareStatus}
use Rattle.ocpp_types.specs.declared.firmware_status.FirmwareStatus.TheVariants as firmware
use Rattle.hub_rows.specs.Readers.{readers, reader_name}
use Rattle.hub_rows.specs.declared.reader_row.Reader.{Reader}
use Rattle.hub_rows.specs.declared.reader_row.Reader.TheVariants as reader
use Rattle.sql_rows.specs.Values.{name_in, name_if_any, text_or_null}

pub status_back : (x : ChargePointStatus) → name_in charge_point_statuses status.Available (Text (charge_point_status_name x)) ≡ x
status_back status.Available = refl
status_back x = refl

pub judged_back : (x : AuthorizationStatus) → name_in authorization_statuses judged.Accepted (Text (authorization_status_name x)) ≡ x
judged_back judged.Accepted = refl
judged_back x = refl

pub policy_back : (x : Policy) → name_in policies policy.Accepted (Text (policy_name x)) ≡ x
policy_back policy.Accepted = refl
policy_back x = refl

pub reader_back : (x : Reader) → name_in readers reader.Strict (Text (reader_name x)) ≡ x
reader_back reader.Strict = refl
reader_back x = refl

pub state_back : (x : State) → name_in states state.Fresh (Text (state_name x)) ≡ x
state_back state.Fresh = refl
state_back x = refl

pub reason_back : (x : Reason) → name_in reasons reason.Local (Text (reason_name x)) ≡ x
reason_back reason.DeAuthorized = refl
reason_back x = refl

pub context_back : (x : ReadingContext) → name_in reading_contexts context.Other (Text (reading_context_name x)) ≡ x
context_back context.InterruptionBegin = refl
context_back x = refl

pub format_back : (x : ValueFormat) → name_in value_formats format.Raw (Text (value_format_name x)) ≡ x
format_back format.Raw = refl
format_back format.SignedData = refl

pub location_back : (x : Location) → name_in locations location.Outlet (Text (location_name x)) ≡ x
location_back location.Body = refl
location_back x = refl

pub error_back : (x : ChargePointErrorCode) → name_in charge_point_error_codes error.NoError (Text (charge_point_error_code_name x)) ≡ x
error_back error.ConnectorLockFailure = refl
error_back x = refl

pub measurand_back : (x : Measurand) → name_in measurands measurand.Voltage (Text (measurand_name x)) ≡ x
measurand_back measurand.CurrentExport = refl
measurand_back x = refl

pub phase_back : (x : Option Phase) → name_if_any phases (text_or_null (option_map phase_name x)) ≡ x
phase_back None = refl
phase_back (Some phase.L1) = refl
phase_back x = refl

pub unit_back : (x : Option UnitOfMeasure) → name_if_any units_of_measure (text_or_null (option_map unit_of_measure_name x)) ≡ x
unit_back None = refl
unit_back (Some unit.Wh) = refl
unit_back x = refl

pub diagnostics_back : (x : DiagnosticsStatus) → name_in diagnostics_statuses diagnostics.Idle (Text (diagnostics_status_name x)) ≡ x
diagnostics_back diagnostics.Idle = refl
diagnostics_back x = refl

pub firmware_back : (x : FirmwareStatus) → name_in firmware_statuses firmware.Downloaded (Text (firmware_status_name x)) ≡ x
firmware_back firmware.Downloaded = refl
firmware_back x = refl
