-- Forms of a reading, by name.
use Rattle.std.specs.Prelude.{ℕ, List, [], ◌∷◌, codes}
use Rattle.ocpp_types.specs.declared.value_format.ValueFormat.{ValueFormat}
use Rattle.ocpp_types.specs.declared.value_format.ValueFormat.TheVariants.{Raw, SignedData}
use Rattle.ocpp_types.specs.Named.{names_of}

abbrev pub value_format_name : ValueFormat → List ℕ
value_format_name Raw = codes "Raw"
value_format_name SignedData = codes "SignedData"

abbrev pub value_formats : List (List ℕ × ValueFormat)
value_formats = names_of value_format_name (Raw ∷ SignedData ∷ [])
