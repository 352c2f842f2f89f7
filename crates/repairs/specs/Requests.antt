-- What is read in place of the members of a request.
use Rattle.std.specs.Prelude.{ℕ, List, [], ◌∷◌, codes}
use Rattle.ocpp_types.specs.ChargePointErrorCode.{charge_point_error_codes}
use Rattle.ocpp_types.specs.ChargePointStatus.{charge_point_statuses}
use Rattle.ocpp_types.specs.DiagnosticsStatus.{diagnostics_statuses}
use Rattle.ocpp_types.specs.FirmwareStatus.{firmware_statuses}
use Rattle.ocpp_types.specs.Reason.{reasons}
use Rattle.ocpp_payload.specs.declared.action.Action.{Action}
use Rattle.ocpp_payload.specs.declared.action.Action.TheVariants.{Authorize, BootNotification, DataTransfer, DiagnosticsStatusNotification, FirmwareStatusNotification, Heartbeat, MeterValues, StartTransaction, StatusNotification, StopTransaction}
use Rattle.repairs.specs.Integers.{integer}
use Rattle.repairs.specs.Names.{names, named, named_or}
use Rattle.repairs.specs.Readings.{meter_values}
use Rattle.repairs.specs.Tables.{Repair, always, Table}
use Rattle.repairs.specs.Texts.{shortened, of_text, time}

-- a text of no more characters than that
abbrev pub at_most : ℕ → Repair
at_most limit = always (of_text (shortened limit))

abbrev pub boot_notification_table : Table
boot_notification_table =
    (codes "chargeBoxSerialNumber", at_most 25)
    ∷ (codes "chargePointModel", at_most 20)
    ∷ (codes "chargePointSerialNumber", at_most 25)
    ∷ (codes "chargePointVendor", at_most 20)
    ∷ (codes "firmwareVersion", at_most 50)
    ∷ (codes "iccid", at_most 20)
    ∷ (codes "imsi", at_most 20)
    ∷ (codes "meterSerialNumber", at_most 25)
    ∷ (codes "meterType", at_most 25)
    ∷ []

abbrev pub status_table : List (List ℕ) → Table
status_table names = (codes "status", always (named names)) ∷ []

abbrev pub meter_values_table : List ℕ → Table
meter_values_table now =
    (codes "connectorId", always integer)
    ∷ (codes "transactionId", always integer)
    ∷ (codes "meterValue", meter_values now)
    ∷ []

-- the id tag is read as it was sent, or not at all
abbrev pub start_transaction_table : List ℕ → Table
start_transaction_table now =
    (codes "connectorId", always integer)
    ∷ (codes "meterStart", always integer)
    ∷ (codes "reservationId", always integer)
    ∷ (codes "timestamp", always (time now))
    ∷ []

abbrev pub status_notification_table : List ℕ → Table
status_notification_table now =
    (codes "connectorId", always integer)
    ∷ (codes "errorCode", always (named_or (codes "OtherError") (names charge_point_error_codes)))
    ∷ (codes "info", at_most 50)
    ∷ (codes "status", always (named_or (codes "Unavailable") (names charge_point_statuses)))
    ∷ (codes "timestamp", always (time now))
    ∷ (codes "vendorErrorCode", at_most 50)
    ∷ []

abbrev pub stop_transaction_table : List ℕ → Table
stop_transaction_table now =
    (codes "meterStop", always integer)
    ∷ (codes "transactionId", always integer)
    ∷ (codes "timestamp", always (time now))
    ∷ (codes "reason", always (named (names reasons)))
    ∷ (codes "transactionData", meter_values now)
    ∷ []

-- the table of an action, where `now` is the text of the moment
abbrev pub repairs : Action → List ℕ → Table
repairs Authorize now = []
repairs BootNotification now = boot_notification_table
repairs DataTransfer now = []
repairs DiagnosticsStatusNotification now = status_table (names diagnostics_statuses)
repairs FirmwareStatusNotification now = status_table (names firmware_statuses)
repairs Heartbeat now = []
repairs MeterValues now = meter_values_table now
repairs StartTransaction now = start_transaction_table now
repairs StatusNotification now = status_notification_table now
repairs StopTransaction now = stop_transaction_table now
