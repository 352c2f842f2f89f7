-- Keys of id tags.
use Rattle.std.specs.Prelude.{ℕ, List}
use Rattle.std.specs.Str.{str_to_ascii_lowercase}

-- ASCII letters lowered, and nothing else changed
abbrev pub key_of : List ℕ → List ℕ
key_of = str_to_ascii_lowercase
