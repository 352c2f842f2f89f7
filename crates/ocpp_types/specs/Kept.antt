-- The bytes of a text, wherever they are kept.
use Rattle.std.specs.Prelude.{ℕ, List, string_bytes}
use Rattle.ocpp_types.specs.declared.text.Kept.{Kept}
use Rattle.ocpp_types.specs.declared.text.Kept.TheVariants.{Short, Long}

abbrev pub kept_bytes : Kept → List ℕ
kept_bytes (Short bytes) = bytes
kept_bytes (Long string) = string_bytes string
