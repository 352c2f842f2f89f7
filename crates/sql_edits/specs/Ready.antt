-- When an edit may be made.
use Rattle.std.specs.Prelude.{ℕ, List, IsTrue, Result}
use Rattle.sqlite.specs.State.{State}
use Rattle.hub_rows.specs.Changes.{edit, EditFits}
use Rattle.hub_rows.specs.WellFormed.{WellFormedRows}
use Rattle.hub_rows.specs.declared.change.Edit.{Edit}
use Rattle.sql_rows.specs.Kept.{EditsIf, InBatch, IsMade, Serves}
use Rattle.sql_rows.specs.TypedTables.{rows_of}

-- the edit of an operator fits, and the connection is one that serves
abbrev pub IsReady : List ℕ → Edit → State → Type 0
IsReady op change s = IsTrue s.is_open → Serves s × WellFormedRows (rows_of s.now.trees) × EditFits op change (rows_of s.now.trees)

-- the edit of an operator fits, in a batch
abbrev pub MayEdit : List ℕ → Edit → State → Type 0
MayEdit op change s = IsTrue s.is_open → InBatch s × WellFormedRows (rows_of s.now.trees) × EditFits op change (rows_of s.now.trees)

-- a part of a change makes an edit, if it fits
abbrev pub EditsFitting : {A E : Type 0} → List ℕ → Edit → State → State → Result A E → Type 0
EditsFitting op change old new r = EditsIf (MayEdit op change) (IsMade (edit op change)) old new r
