-- What goes of a station's history, in one table.
use Rattle.std.specs.Prelude.{ℕ, Bool, ◌&&◌, List}
use Rattle.std.specs.Str.{bytes_eq}
use Rattle.hub_rows.specs.Keyed.{without}
use Rattle.hub_rows.specs.Rows.{Rows}
use Rattle.sql_tables.specs.declared.meter_values.TheConstants as sql_meter_values
use Rattle.sql_tables.specs.declared.tx_owners.TheConstants as sql_tx_owners
use Rattle.sql_tables.specs.declared.txs.TheConstants as sql_txs
use Rattle.sql_edits.specs.declared.forget.HistoryTable.{HistoryTable}
use Rattle.sql_edits.specs.declared.forget.HistoryTable.TheVariants.{MeterValues, Transactions, Owners}

-- the rows of a station whose numbers pass are gone
abbrev pub dropped : HistoryTable → List ℕ → List ℕ → (ℕ → Bool) → Rows → Rows
dropped MeterValues op station gone rows = record rows { meter_values = without (λ r. r.op) op (λ r. bytes_eq r.station station && gone r.first) rows.meter_values }
dropped Transactions op station gone rows = record rows { transactions = without (λ r. r.op) op (λ r. bytes_eq r.station station && gone r.number) rows.transactions }
dropped Owners op station gone rows = record rows { tx_owners = without (λ r. r.op) op (λ r. bytes_eq r.station station && gone r.number) rows.tx_owners }

-- the statement that drops rows by a range of numbers
abbrev pub drop_text : HistoryTable → List ℕ
drop_text MeterValues = sql_meter_values.DROP.now
drop_text Transactions = sql_txs.DROP.now
drop_text Owners = sql_tx_owners.DROP.now
