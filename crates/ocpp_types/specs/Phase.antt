-- Phases of a reading, by name.
use Rattle.std.specs.Prelude.{ℕ, List, [], ◌∷◌, codes}
use Rattle.ocpp_types.specs.declared.phase.Phase.{Phase}
use Rattle.ocpp_types.specs.declared.phase.Phase.TheVariants.{L1, L2, L3, N, L1N, L2N, L3N, L1L2, L2L3, L3L1}
use Rattle.ocpp_types.specs.Named.{names_of}

abbrev pub phase_name : Phase → List ℕ
phase_name L1 = codes "L1"
phase_name L2 = codes "L2"
phase_name L3 = codes "L3"
phase_name N = codes "N"
phase_name L1N = codes "L1-N"
phase_name L2N = codes "L2-N"
phase_name L3N = codes "L3-N"
phase_name L1L2 = codes "L1-L2"
phase_name L2L3 = codes "L2-L3"
phase_name L3L1 = codes "L3-L1"

abbrev pub phases : List (List ℕ × Phase)
phases = names_of phase_name (L1 ∷ L2 ∷ L3 ∷ N ∷ L1N ∷ L2N ∷ L3N ∷ L1L2 ∷ L2L3 ∷ L3L1 ∷ [])
