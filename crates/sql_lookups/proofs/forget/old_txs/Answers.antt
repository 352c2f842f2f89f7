use Rattle.std.proofs.Common.{◌∙◌, None, ap, filter}
use Rattle.hub_rows.specs.Forgetting.{tx_goes}
use Rattle.hub_rows.specs.MeterValues.{meter_values_in}
use Rattle.hub_rows.specs.Transactions.{txs_in}
use Rattle.sql_rows.specs.TypedTables.{rows_of}
use Rattle.sql_rows.proofs.Asking.{asks_also, asks_then}
use Rattle.sql_lookups.proofs.PageLaws.{oldest_is}
use Rattle.sql_lookups.proofs.forget.old_txs.Goals as goal

pub returns : goal.returns
returns g c =
    let op = c.args.op.now in
    let station = c.args.station.now in
    record {
      asks = asks_also (asks_then c.in_ok-page.ensures.asks c.over_of.ensures.asks) (λ db gone is.
          let rows = rows_of db in
          is.1 ∙ ap (filter (tx_goes c.args.until (meter_values_in op station None rows.meter_values))) (c.oldest_of.ensures ∙ oldest_is (λ t. t.number) (txs_in op station rows.transactions) c.in_ok-page.page is.0));
    }
