-- Registration policies, by name.
use Rattle.std.specs.Prelude.{ℕ, List, [], ◌∷◌, codes}
use Rattle.ocpp_types.specs.declared.policy.Policy.{Policy}
use Rattle.ocpp_types.specs.declared.policy.Policy.TheVariants.{Accepted, Pending, Rejected}
use Rattle.ocpp_types.specs.Named.{names_of}

abbrev pub policy_name : Policy → List ℕ
policy_name Accepted = codes "Accepted"
policy_name Pending = codes "Pending"
policy_name Rejected = codes "Rejected"

abbrev pub policies : List (List ℕ × Policy)
policies = names_of policy_name (Accepted ∷ Pending ∷ Rejected ∷ [])
