-- States of a station, by name.
use Rattle.std.specs.Prelude.{ℕ, List, [], ◌∷◌, codes}
use Rattle.ocpp_types.specs.declared.state.State.{State}
use Rattle.ocpp_types.specs.declared.state.State.TheVariants.{Fresh, Accepted, Pending, Rejected}
use Rattle.ocpp_types.specs.Named.{names_of}

abbrev pub state_name : State → List ℕ
state_name Fresh = codes "Fresh"
state_name Accepted = codes "Accepted"
state_name Pending = codes "Pending"
state_name Rejected = codes "Rejected"

abbrev pub states : List (List ℕ × State)
states = names_of state_name (Fresh ∷ Accepted ∷ Pending ∷ Rejected ∷ [])
