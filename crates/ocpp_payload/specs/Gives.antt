-- What a reader gives.
use Rattle.std.specs.Prelude.{◌≡◌, Result, Ok, Err}
use Rattle.ocpp_payload.specs.declared.fault.FieldFault.{FieldFault}
use Rattle.ocpp_payload.specs.declared.fault.ReadError.{ReadError}
use Rattle.ocpp_payload.specs.declared.fault.ReadError.TheVariants.{NoMemory, Fault}

-- the fault is the one to report; of NoMemory nothing is said
abbrev pub Fails : {X : Type 0} → ReadError → Result X FieldFault → Type 0
Fails NoMemory wanted = Unit {0}
Fails (Fault f) wanted = wanted ≡ Err f

-- the value was read, or its fault; of NoMemory nothing is said
abbrev pub Gives : {X : Type 0} → Result X ReadError → Result X FieldFault → Type 0
Gives (Ok x) wanted = wanted ≡ Ok x
Gives (Err e) wanted = Fails e wanted
