-- Why a text is refused.
use Rattle.std.specs.Prelude.{◌≡◌, Result, Err}
use Rattle.json_data.specs.declared.value_reader.Refused.{Refused}
use Rattle.json_data.specs.declared.value_reader.Refused.TheVariants.{Invalid}

-- the text is refused for itself, and not for want of memory; for private clauses
abbrev pub IsRefusal : {T : Type 0} → Result T Refused → Type 0
IsRefusal r = r ≡ Err Invalid
