-- The numbers of look-ups.
use Rattle.std.specs.Prelude.{ℕ, List, Bool, ◌++◌, fold}
use Rattle.std.specs.Hash.{HashWrites, bool, str}
use Rattle.std.specs.Hash.FoldHasher.{initial, write, finish}

-- the hash of what is written
abbrev pub hashed : HashWrites → ℕ
hashed writes = finish (fold write initial writes)

-- the number of a station of operator a
unfoldable pub station_digest : List ℕ → List ℕ → ℕ
station_digest a name = hashed (str a ++ str name)

-- the number of a look-up of a tag by operator a, of its own tag or of one that is granted to it
unfoldable pub tag_digest : Bool → List ℕ → List ℕ → ℕ
tag_digest is_own a key = hashed (bool is_own ++ str a ++ str key)
