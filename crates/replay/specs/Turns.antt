-- What is on record while changes wait.
use Rattle.std.specs.Prelude.{◌⊎◌}
use Rattle.hub_rows.specs.Stops.{PutsOnRecord, StaysOnRecord}
use Rattle.hub_rows.specs.StoreView.{StoreView}

-- what was on record still is, and nothing was written, or the rows of the store are
abbrev pub SettlesBeforeWriting : Type 0 → StoreView → StoreView → Type 0
SettlesBeforeWriting WroteNothing old new = (WroteNothing × StaysOnRecord old new) ⊎ PutsOnRecord old new
