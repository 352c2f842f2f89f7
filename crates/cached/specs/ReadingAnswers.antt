-- Answers on the numbers of stations' last readings.
use Rattle.std.specs.Prelude.{◌≡◌, ℕ, List, Option, Some, None}
use Rattle.hub_rows.specs.declared.change.Edit.{Edit}
use Rattle.hub_rows.specs.declared.change.Edit.TheVariants.{Transactions}
use Rattle.hub_rows.specs.declared.change.TransactionEdit.{TransactionEdit}
use Rattle.hub_rows.specs.declared.change.TransactionEdit.TheVariants.{TxStopped, MeterValuesAdded, Forgotten}
use Rattle.hub_rows.specs.Changes.{edit, EditFits}
use Rattle.hub_rows.specs.MeterValues.{last_reading_in}
use Rattle.hub_rows.specs.Rows.{Rows}
use Rattle.hub_rows.specs.WellFormed.{WellFormedRows}
use Rattle.cached.specs.Digests.{station_digest}
use Rattle.cached.specs.declared.reading_answer.ReadingAnswer.{ReadingAnswer}

-- it is of that station of operator a
pub record IsAt (a name : List ℕ) (answer : ReadingAnswer) : Type 0 where
  pub op : answer.op ≡ a
  pub station : answer.station ≡ name

-- it is what the rows give
abbrev pub IsLast : Rows → ReadingAnswer → Type 0
IsLast rows answer = answer.last ≡ last_reading_in answer.op answer.station rows.meter_values

-- the number of its station
abbrev pub digest_of_reading : ReadingAnswer → ℕ
digest_of_reading answer = station_digest answer.op answer.station

-- the station whose meter values an edit changes
abbrev pub changed_readings : Edit → Option (List ℕ)
changed_readings (Transactions (TxStopped station number stop first values)) = Some station
changed_readings (Transactions (MeterValuesAdded station first values)) = Some station
changed_readings (Transactions (Forgotten station gone)) = Some station
changed_readings e = None

-- whoever makes the edit, where it fits: that number is then the last of the station's readings
abbrev pub IsNewLast : TransactionEdit → List ℕ → ℕ → Type 0
IsNewLast e station last = (b : List ℕ) (rows : Rows) → WellFormedRows rows → EditFits b (Transactions e) rows → last ≡ last_reading_in b station (edit b (Transactions e) rows).meter_values

-- it is what the rows give after the edit of operator b, where that fits
abbrev pub IsLastAfter : List ℕ → Edit → ReadingAnswer → Type 0
IsLastAfter b e answer = (rows : Rows) → WellFormedRows rows → EditFits b e rows → IsLast (edit b e rows) answer
