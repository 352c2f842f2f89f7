-- What waits until the system takes it.
use Rattle.std.specs.Prelude.{◌≡◌, ℕ, ◌+◌, ◌<◌, ◌≤◌, true, List, [], ◌++◌, length, drop, Option, Result, OnOk, OnErr, IfErr, if◌then◌else◌}
use Rattle.std.specs.Io.KnownBytes.{Appends}
use Rattle.std.specs.IoError.{error_kind}
use Rattle.std.specs.declared.io.Error.{Error}
use Rattle.std.specs.declared.io.ErrorKind.TheVariants.{WriteZero, BrokenPipe}
use Rattle.ready_streams.specs.Held.{held_in}
use Rattle.ready_streams.specs.declared.unsent.Unsent.{Unsent}

-- the bytes that wait
abbrev pub waiting : Unsent → List ℕ
waiting u = drop u.sent (held_in u.blocks)

-- what is left of the rest: nothing, after a write that failed
abbrev pub left_of : Unsent → List ℕ → List ℕ
left_of u rest = if u.has_failed then [] else rest

-- a front of what waited is appended to the bytes that the stream holds, and the rest waits, unless a write failed, which
-- is for good
pub record Gives (before after : Option (List ℕ)) (old new : Unsent) : Type 0 where
  pub given : List ℕ
  pub rest : List ℕ
  pub parts : waiting old ≡ given ++ rest
  pub passed : Appends before after given
  pub waits : waiting new ≡ left_of new rest
  pub for_good : old.has_failed ≡ true → new.has_failed ≡ true

-- the same, and then the bytes are added behind, if at most so many wait then; else none of them is. `WriteZero` says
-- that more would wait, and `BrokenPipe` that a write has failed
pub record Adds (before after : Option (List ℕ)) (bytes : List ℕ) (room : ℕ) (old new : Unsent) (r : Result (Unit {0}) Error) : Type 0 where
  pub given : List ℕ
  pub rest : List ℕ
  pub parts : waiting old ≡ given ++ rest
  pub passed : Appends before after given
  pub ok : OnOk r (waiting new ≡ rest ++ bytes)
  pub within : OnOk r (length (waiting new) ≤ room)
  pub err : OnErr r (waiting new ≡ left_of new rest)
  pub for_good : old.has_failed ≡ true → new.has_failed ≡ true
  pub full : IfErr r (λ e. error_kind e ≡ WriteZero → room < length (waiting new) + length bytes)
  pub broken : IfErr r (λ e. error_kind e ≡ BrokenPipe → new.has_failed ≡ true)
