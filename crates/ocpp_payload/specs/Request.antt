-- The requests of a station: the members of each, and what is made of them.
use Rattle.std.specs.Prelude.{[], codes, Result, Ok}
use Rattle.serde_json.specs.Data.{Data}
use Rattle.ocpp_types.specs.ChargePointErrorCode.{charge_point_error_codes}
use Rattle.ocpp_types.specs.ChargePointStatus.{charge_point_statuses}
use Rattle.ocpp_types.specs.DiagnosticsStatus.{diagnostics_statuses}
use Rattle.ocpp_types.specs.FirmwareStatus.{firmware_statuses}
use Rattle.ocpp_types.specs.Reason.{reasons}
use Rattle.ocpp_types.specs.declared.boot_notification.BootNotification.{BootNotification}
use Rattle.ocpp_types.specs.declared.reason.Reason.TheVariants as reason
use Rattle.ocpp_payload.specs.declared.action.Action.{Action}
use Rattle.ocpp_payload.specs.declared.action.Action.TheVariants as action
use Rattle.ocpp_payload.specs.declared.fault.FieldFault.{FieldFault}
use Rattle.ocpp_payload.specs.declared.request.Authorize.{Authorize}
use Rattle.ocpp_payload.specs.declared.request.DataTransfer.{DataTransfer}
use Rattle.ocpp_payload.specs.declared.request.DiagnosticsStatusNotification.{DiagnosticsStatusNotification}
use Rattle.ocpp_payload.specs.declared.request.FirmwareStatusNotification.{FirmwareStatusNotification}
use Rattle.ocpp_payload.specs.declared.request.MeterValues.{MeterValues}
use Rattle.ocpp_payload.specs.declared.request.StartTransaction.{StartTransaction}
use Rattle.ocpp_payload.specs.declared.request.StatusNotification.{StatusNotification}
use Rattle.ocpp_payload.specs.declared.request.StopTransaction.{StopTransaction}
use Rattle.ocpp_payload.specs.declared.request.Request.{Request}
use Rattle.ocpp_payload.specs.declared.request.Request.TheVariants as request_of
use Rattle.ocpp_payload.specs.Kind.{◌>>=◌, any_text, text, int_32, int_64, connector_from, choice, time}
use Rattle.ocpp_payload.specs.Fields.{required, optional, with_default}
use Rattle.ocpp_payload.specs.Lists.{object_of, list_of, some_of}
use Rattle.ocpp_payload.specs.Readings.{meter_value}

abbrev pub authorize : Data → Result Authorize FieldFault
authorize d = do
  id_tag ← required (text 20) (codes "idTag") d
  Ok (record { id_tag = id_tag })

abbrev pub boot_notification : Data → Result BootNotification FieldFault
boot_notification d = do
  box_serial ← optional (text 25) (codes "chargeBoxSerialNumber") d
  model ← required (text 20) (codes "chargePointModel") d
  point_serial ← optional (text 25) (codes "chargePointSerialNumber") d
  vendor ← required (text 20) (codes "chargePointVendor") d
  firmware ← optional (text 50) (codes "firmwareVersion") d
  iccid ← optional (text 20) (codes "iccid") d
  imsi ← optional (text 20) (codes "imsi") d
  meter_serial ← optional (text 25) (codes "meterSerialNumber") d
  meter_type ← optional (text 25) (codes "meterType") d
  Ok (record {
    charge_box_serial_number = box_serial;
    charge_point_model = model;
    charge_point_serial_number = point_serial;
    charge_point_vendor = vendor;
    firmware_version = firmware;
    iccid = iccid;
    imsi = imsi;
    meter_serial_number = meter_serial;
    meter_type = meter_type;
  })

abbrev pub data_transfer : Data → Result DataTransfer FieldFault
data_transfer d = do
  vendor ← required (text 255) (codes "vendorId") d
  message ← optional (text 50) (codes "messageId") d
  content ← optional any_text (codes "data") d
  Ok (record { vendor_id = vendor; message_id = message; content = content })

abbrev pub diagnostics_status_notification : Data → Result DiagnosticsStatusNotification FieldFault
diagnostics_status_notification d = do
  status ← required (choice diagnostics_statuses) (codes "status") d
  Ok (record { status = status })

abbrev pub firmware_status_notification : Data → Result FirmwareStatusNotification FieldFault
firmware_status_notification d = do
  status ← required (choice firmware_statuses) (codes "status") d
  Ok (record { status = status })

abbrev pub meter_values : Data → Result MeterValues FieldFault
meter_values d = do
  connector ← required (connector_from 0) (codes "connectorId") d
  transaction ← optional int_32 (codes "transactionId") d
  values ← required (some_of (object_of meter_value)) (codes "meterValue") d
  Ok (record { connector_id = connector; transaction_id = transaction; meter_value = values })

abbrev pub start_transaction : Data → Result StartTransaction FieldFault
start_transaction d = do
  connector ← required (connector_from 1) (codes "connectorId") d
  tag ← required (text 20) (codes "idTag") d
  meter ← required int_64 (codes "meterStart") d
  reservation ← optional int_32 (codes "reservationId") d
  timestamp ← required time (codes "timestamp") d
  Ok (record { connector_id = connector; id_tag = tag; meter_start = meter; reservation_id = reservation; timestamp = timestamp })

abbrev pub status_notification : Data → Result StatusNotification FieldFault
status_notification d = do
  connector ← required (connector_from 0) (codes "connectorId") d
  error ← required (choice charge_point_error_codes) (codes "errorCode") d
  info ← optional (text 50) (codes "info") d
  status ← required (choice charge_point_statuses) (codes "status") d
  timestamp ← optional time (codes "timestamp") d
  vendor ← optional (text 255) (codes "vendorId") d
  vendor_error ← optional (text 50) (codes "vendorErrorCode") d
  Ok (record {
    connector_id = connector;
    error_code = error;
    info = info;
    status = status;
    timestamp = timestamp;
    vendor_id = vendor;
    vendor_error_code = vendor_error;
  })

abbrev pub stop_transaction : Data → Result StopTransaction FieldFault
stop_transaction d = do
  tag ← optional (text 20) (codes "idTag") d
  meter ← required int_64 (codes "meterStop") d
  timestamp ← required time (codes "timestamp") d
  transaction ← required int_32 (codes "transactionId") d
  why ← with_default reason.Local (choice reasons) (codes "reason") d
  values ← with_default [] (list_of (object_of meter_value)) (codes "transactionData") d
  Ok (record { id_tag = tag; meter_stop = meter; timestamp = timestamp; transaction_id = transaction; reason = why; transaction_data = values })

-- ---- the request of an action; a heartbeat has no members

abbrev pub request : Action → Data → Result Request FieldFault
request action.Authorize d = authorize d >>= (λ r. Ok (request_of.Authorize r))
request action.BootNotification d = boot_notification d >>= (λ r. Ok (request_of.BootNotification r))
request action.DataTransfer d = data_transfer d >>= (λ r. Ok (request_of.DataTransfer r))
request action.DiagnosticsStatusNotification d = diagnostics_status_notification d >>= (λ r. Ok (request_of.DiagnosticsStatusNotification r))
request action.FirmwareStatusNotification d = firmware_status_notification d >>= (λ r. Ok (request_of.FirmwareStatusNotification r))
request action.Heartbeat d = Ok request_of.Heartbeat
request action.MeterValues d = meter_values d >>= (λ r. Ok (request_of.MeterValues r))
request action.StartTransaction d = start_transaction d >>= (λ r. Ok (request_of.StartTransaction r))
request action.StatusNotification d = status_notification d >>= (λ r. Ok (request_of.StatusNotification r))
request action.StopTransaction d = stop_transaction d >>= (λ r. Ok (request_of.StopTransaction r))
