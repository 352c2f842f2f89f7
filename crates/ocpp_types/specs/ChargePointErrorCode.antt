-- Faults of a connector, by name.
use Rattle.std.specs.Prelude.{ℕ, List, [], ◌∷◌, codes}
use Rattle.ocpp_types.specs.declared.charge_point_error_code.ChargePointErrorCode.{ChargePointErrorCode}
use Rattle.ocpp_types.specs.declared.charge_point_error_code.ChargePointErrorCode.TheVariants.{ConnectorLockFailure, EVCommunicationError, GroundFailure, HighTemperature, InternalError, LocalListConflict, NoError, OtherError, OverCurrentFailure, OverVoltage, PowerMeterFailure, PowerSwitchFailure, ReaderFailure, ResetFailure, UnderVoltage, WeakSignal}
use Rattle.ocpp_types.specs.Named.{names_of}

abbrev pub charge_point_error_code_name : ChargePointErrorCode → List ℕ
charge_point_error_code_name ConnectorLockFailure = codes "ConnectorLockFailure"
charge_point_error_code_name EVCommunicationError = codes "EVCommunicationError"
charge_point_error_code_name GroundFailure = codes "GroundFailure"
charge_point_error_code_name HighTemperature = codes "HighTemperature"
charge_point_error_code_name InternalError = codes "InternalError"
charge_point_error_code_name LocalListConflict = codes "LocalListConflict"
charge_point_error_code_name NoError = codes "NoError"
charge_point_error_code_name OtherError = codes "OtherError"
charge_point_error_code_name OverCurrentFailure = codes "OverCurrentFailure"
charge_point_error_code_name OverVoltage = codes "OverVoltage"
charge_point_error_code_name PowerMeterFailure = codes "PowerMeterFailure"
charge_point_error_code_name PowerSwitchFailure = codes "PowerSwitchFailure"
charge_point_error_code_name ReaderFailure = codes "ReaderFailure"
charge_point_error_code_name ResetFailure = codes "ResetFailure"
charge_point_error_code_name UnderVoltage = codes "UnderVoltage"
charge_point_error_code_name WeakSignal = codes "WeakSignal"

abbrev pub charge_point_error_codes : List (List ℕ × ChargePointErrorCode)
charge_point_error_codes = names_of charge_point_error_code_name (ConnectorLockFailure ∷ EVCommunicationError ∷ GroundFailure ∷ HighTemperature ∷ InternalError ∷ LocalListConflict ∷ NoError ∷ OtherError ∷ OverCurrentFailure ∷ OverVoltage ∷ PowerMeterFailure ∷ PowerSwitchFailure ∷ ReaderFailure ∷ ResetFailure ∷ UnderVoltage ∷ WeakSignal ∷ [])
