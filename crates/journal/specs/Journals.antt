-- The bytes of a journal: lines, each with its line feed.
use Rattle.std.specs.Prelude.{ℕ, Bool, false, not, ◌==◌, List, [], ◌∷◌, ◌++◌, ◌≡◌, if◌then◌else◌}
use Rattle.std.specs.List.{list_any}
use Rattle.lines.specs.Journal.{is_feed}
use Rattle.journal.specs.Entries.{entry_of}
use Rattle.journal.specs.declared.entry.Entry.{Entry}
use Rattle.journal.specs.declared.entry.Entry.TheVariants.{Bad}

-- the lines of bytes, of which the first belong to a line that has begun; bytes without a line feed after them are none
unfoldable pub lines_from : List ℕ → List ℕ → List (List ℕ)
lines_from line [] = []
lines_from line (byte ∷ rest) = if byte == 10 then line ∷ lines_from [] rest else lines_from (line ++ (byte ∷ [])) rest

abbrev pub lines_of : List ℕ → List (List ℕ)
lines_of bytes = lines_from [] bytes

-- the last line is whole, where one may have begun before
unfoldable pub is_whole_from : Bool → List ℕ → Bool
is_whole_from begun [] = not begun
is_whole_from begun (byte ∷ rest) = is_whole_from (not (byte == 10)) rest

-- each line has its line feed
abbrev pub is_whole : List ℕ → Bool
is_whole bytes = is_whole_from false bytes

-- one line more, which is that entry
pub record AddsLine (is_hosted : List ℕ → Bool) (entry : Entry) (old new : List ℕ) : Type 0 where
  pub line : List ℕ
  pub is : new ≡ old ++ (line ++ (10 ∷ []))
  pub one : list_any is_feed line ≡ false
  pub says : entry_of is_hosted line ≡ entry

-- these bytes end a line of which only a part is in a file; it is no entry then
abbrev pub EndsCut : List ℕ → Type 0
EndsCut bytes =
    (file : List ℕ) → (part : List ℕ) × (lines_of (file ++ bytes) ≡ lines_of file ++ (part ∷ [])) × ((is_hosted : List ℕ → Bool) → entry_of is_hosted part ≡ Bad)
