-- The end of a journal, as a server that begins finds it.
use Rattle.std.specs.Prelude.{ℕ, Bool, true, ◌==◌, ◌||◌, ◌&&◌, List, Option, Some, None}
use Rattle.std.specs.Str.{bytes_eq}
use Rattle.journal.specs.Entries.{digest_of}
use Rattle.journal.specs.declared.tail.TurnCounts.{TurnCounts}

-- the count of changes on record fits the end: it is the one after the last turn, or the one before it
abbrev pub fits : Option TurnCounts → ℕ → Bool
fits None changes = true
fits (Some counts) changes = (changes == counts.after) || (changes == counts.before)

-- a turn's mark is that of the lines before it, of which so many are events
abbrev pub ends_turn : ℕ → List ℕ → ℕ → List ℕ → Bool
ends_turn number lines events digest = (events == number) && bytes_eq digest (digest_of lines)
