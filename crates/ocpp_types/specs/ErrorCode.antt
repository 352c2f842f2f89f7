-- Error codes, by name.
use Rattle.std.specs.Prelude.{ℕ, List, [], ◌∷◌, codes}
use Rattle.ocpp_types.specs.declared.error_code.ErrorCode.{ErrorCode}
use Rattle.ocpp_types.specs.declared.error_code.ErrorCode.TheVariants.{NotImplemented, NotSupported, InternalError, ProtocolError, SecurityError, FormationViolation, PropertyConstraintViolation, OccurenceConstraintViolation, TypeConstraintViolation, GenericError}
use Rattle.ocpp_types.specs.Named.{names_of}

abbrev pub error_code_name : ErrorCode → List ℕ
error_code_name NotImplemented = codes "NotImplemented"
error_code_name NotSupported = codes "NotSupported"
error_code_name InternalError = codes "InternalError"
error_code_name ProtocolError = codes "ProtocolError"
error_code_name SecurityError = codes "SecurityError"
error_code_name FormationViolation = codes "FormationViolation"
error_code_name PropertyConstraintViolation = codes "PropertyConstraintViolation"
error_code_name OccurenceConstraintViolation = codes "OccurenceConstraintViolation"
error_code_name TypeConstraintViolation = codes "TypeConstraintViolation"
error_code_name GenericError = codes "GenericError"

abbrev pub error_codes : List (List ℕ × ErrorCode)
error_codes = names_of error_code_name (NotImplemented ∷ NotSupported ∷ InternalError ∷ ProtocolError ∷ SecurityError ∷ FormationViolation ∷ PropertyConstraintViolation ∷ OccurenceConstraintViolation ∷ TypeConstraintViolation ∷ GenericError ∷ [])
