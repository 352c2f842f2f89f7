-- Why transactions end, by name.
use Rattle.std.specs.Prelude.{ℕ, List, [], ◌∷◌, codes}
use Rattle.ocpp_types.specs.declared.reason.Reason.{Reason}
use Rattle.ocpp_types.specs.declared.reason.Reason.TheVariants.{DeAuthorized, EmergencyStop, EVDisconnected, HardReset, Local, Other, PowerLoss, Reboot, Remote, SoftReset, UnlockCommand}
use Rattle.ocpp_types.specs.Named.{names_of}

abbrev pub reason_name : Reason → List ℕ
reason_name DeAuthorized = codes "DeAuthorized"
reason_name EmergencyStop = codes "EmergencyStop"
reason_name EVDisconnected = codes "EVDisconnected"
reason_name HardReset = codes "HardReset"
reason_name Local = codes "Local"
reason_name Other = codes "Other"
reason_name PowerLoss = codes "PowerLoss"
reason_name Reboot = codes "Reboot"
reason_name Remote = codes "Remote"
reason_name SoftReset = codes "SoftReset"
reason_name UnlockCommand = codes "UnlockCommand"

abbrev pub reasons : List (List ℕ × Reason)
reasons = names_of reason_name (DeAuthorized ∷ EmergencyStop ∷ EVDisconnected ∷ HardReset ∷ Local ∷ Other ∷ PowerLoss ∷ Reboot ∷ Remote ∷ SoftReset ∷ UnlockCommand ∷ [])
