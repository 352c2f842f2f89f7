use Rattle.std.proofs.Common.{◌≡◌, ◌∙◌, ◌==◌, List, None, false, true, length, ap, subst, sym}
use Rattle.hub_rows.specs.declared.tx_row.TxRow.{TxRow}
use Rattle.hub_rows.specs.Lookups.{forgettable_in}
use Rattle.hub_rows.specs.MeterValues.{meter_values_in}
use Rattle.hub_rows.specs.Transactions.{txs_in}
use Rattle.sql_rows.specs.TypedTables.{rows_of}
use Rattle.sql_rows.proofs.Asking.{asks_err, asks_of, asks_then}
use Rattle.sql_lookups.proofs.ForgetLaws.{none_goes, some_go}
use Rattle.sql_lookups.proofs.forget.forgettable.Goals as goal

pub returns-then-not-is_empty : goal.returns-then-not-is_empty
returns-then-not-is_empty g c =
    let op = c.args.op.now in
    let station = c.args.station.now in
    let gone = c.in_ok-meter_values.meter_values in
    let some : (length gone == 0) ≡ false = ap (λ l. length l == 0) (sym c.as_slice.ensures) ∙ sym c.is_empty.ensures ∙ c.if-not-is_empty.true in
    record {
      asks = asks_of c.in_ok-meter_values.ensures.asks (λ db is.
          let rows = rows_of db in
          subst (λ (l : List TxRow). record { meter_values = gone; transactions = l } ≡ forgettable_in op station c.args.until rows) (sym c.new.ensures)
          (some_go c.args.until (txs_in op station rows.transactions) (meter_values_in op station None rows.meter_values) gone is some));
    }

pub returns : goal.returns
returns g c =
    let op = c.args.op.now in
    let station = c.args.station.now in
    let gone = c.in_ok-meter_values.meter_values in
    let none : (length gone == 0) ≡ true = ap (λ l. length l == 0) (sym c.as_slice.ensures) ∙ sym c.is_empty.ensures ∙ c.if-not-is_empty.false in
    record {
      asks = asks_of (asks_then c.in_ok-meter_values.ensures.asks c.in_ok-transactions.ensures.asks) (λ db is.
          let rows = rows_of db in
          none_goes c.args.until (txs_in op station rows.transactions) (meter_values_in op station None rows.meter_values) gone is.0 none c.in_ok-transactions.transactions is.1);
    }

pub returns-in_err-transactions : goal.returns-in_err-transactions
returns-in_err-transactions g c = record { asks = asks_err (asks_then c.in_ok-meter_values.ensures.asks c.in_err-transactions.ensures.asks) c.from_residual-in_err-transactions.ensures.0 }
