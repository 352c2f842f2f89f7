-- Units of readings, by name.
use Rattle.std.specs.Prelude.{ℕ, List, [], ◌∷◌, codes, ◌++◌}
use Rattle.ocpp_types.specs.declared.unit_of_measure.UnitOfMeasure.{UnitOfMeasure}
use Rattle.ocpp_types.specs.declared.unit_of_measure.UnitOfMeasure.TheVariants.{Wh, KWh, Varh, Kvarh, W, KW, VA, KVA, Var, Kvar, A, V, Celsius, Fahrenheit, K, Percent}
use Rattle.ocpp_types.specs.Named.{names_of}

abbrev pub unit_of_measure_name : UnitOfMeasure → List ℕ
unit_of_measure_name Wh = codes "Wh"
unit_of_measure_name KWh = codes "kWh"
unit_of_measure_name Varh = codes "varh"
unit_of_measure_name Kvarh = codes "kvarh"
unit_of_measure_name W = codes "W"
unit_of_measure_name KW = codes "kW"
unit_of_measure_name VA = codes "VA"
unit_of_measure_name KVA = codes "kVA"
unit_of_measure_name Var = codes "var"
unit_of_measure_name Kvar = codes "kvar"
unit_of_measure_name A = codes "A"
unit_of_measure_name V = codes "V"
unit_of_measure_name Celsius = codes "Celsius"
unit_of_measure_name Fahrenheit = codes "Fahrenheit"
unit_of_measure_name K = codes "K"
unit_of_measure_name Percent = codes "Percent"

-- `Celcius` is read too
abbrev pub units_of_measure : List (List ℕ × UnitOfMeasure)
units_of_measure = names_of unit_of_measure_name (Wh ∷ KWh ∷ Varh ∷ Kvarh ∷ W ∷ KW ∷ VA ∷ KVA ∷ Var ∷ Kvar ∷ A ∷ V ∷ Celsius ∷ Fahrenheit ∷ K ∷ Percent ∷ []) ++ (codes "Celcius", Celsius) ∷ []
