-- How a central system judges an id tag, by name.
use Rattle.std.specs.Prelude.{ℕ, List, [], ◌∷◌, codes}
use Rattle.ocpp_types.specs.declared.authorization_status.AuthorizationStatus.{AuthorizationStatus}
use Rattle.ocpp_types.specs.declared.authorization_status.AuthorizationStatus.TheVariants.{Accepted, Blocked, Expired, Invalid, ConcurrentTx}
use Rattle.ocpp_types.specs.Named.{names_of}

abbrev pub authorization_status_name : AuthorizationStatus → List ℕ
authorization_status_name Accepted = codes "Accepted"
authorization_status_name Blocked = codes "Blocked"
authorization_status_name Expired = codes "Expired"
authorization_status_name Invalid = codes "Invalid"
authorization_status_name ConcurrentTx = codes "ConcurrentTx"

abbrev pub authorization_statuses : List (List ℕ × AuthorizationStatus)
authorization_statuses = names_of authorization_status_name (Accepted ∷ Blocked ∷ Expired ∷ Invalid ∷ ConcurrentTx ∷ [])
