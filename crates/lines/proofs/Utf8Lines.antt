-- Text that is UTF-8 is valid as far as it goes.
use Rattle.std.proofs.Common.{arith, ◌≡◌, ℕ, true, List, length, nat_eq}
use Rattle.std.specs.Str.{IsUtf8}
use Rattle.std.specs.Str.Lossy.{utf8_valid_len}
use Rattle.std.proofs.lemmas.Str.{utf8_valid_len-IsUtf8}

pub valid_text : (bs : List ℕ) → IsUtf8 bs → nat_eq (utf8_valid_len bs) (length bs) ≡ true
valid_text bs utf8 = let whole = utf8_valid_len-IsUtf8 bs utf8 in grind arith
