-- States of a connector, by name.
use Rattle.std.specs.Prelude.{ℕ, List, [], ◌∷◌, codes}
use Rattle.ocpp_types.specs.declared.charge_point_status.ChargePointStatus.{ChargePointStatus}
use Rattle.ocpp_types.specs.declared.charge_point_status.ChargePointStatus.TheVariants.{Available, Preparing, Charging, SuspendedEVSE, SuspendedEV, Finishing, Reserved, Unavailable, Faulted}
use Rattle.ocpp_types.specs.Named.{names_of}

abbrev pub charge_point_status_name : ChargePointStatus → List ℕ
charge_point_status_name Available = codes "Available"
charge_point_status_name Preparing = codes "Preparing"
charge_point_status_name Charging = codes "Charging"
charge_point_status_name SuspendedEVSE = codes "SuspendedEVSE"
charge_point_status_name SuspendedEV = codes "SuspendedEV"
charge_point_status_name Finishing = codes "Finishing"
charge_point_status_name Reserved = codes "Reserved"
charge_point_status_name Unavailable = codes "Unavailable"
charge_point_status_name Faulted = codes "Faulted"

abbrev pub charge_point_statuses : List (List ℕ × ChargePointStatus)
charge_point_statuses = names_of charge_point_status_name (Available ∷ Preparing ∷ Charging ∷ SuspendedEVSE ∷ SuspendedEV ∷ Finishing ∷ Reserved ∷ Unavailable ∷ Faulted ∷ [])
