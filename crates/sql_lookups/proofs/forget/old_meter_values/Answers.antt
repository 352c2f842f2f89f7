use Rattle.std.proofs.Common.{◌∙◌, ap, filter}
use Rattle.hub_rows.specs.Forgetting.{may_go}
use Rattle.hub_rows.specs.Transactions.{txs_in}
use Rattle.sql_rows.specs.TypedTables.{rows_of}
use Rattle.sql_rows.proofs.Asking.{asks_also, asks_then}
use Rattle.sql_lookups.proofs.forget.old_meter_values.Goals as goal

pub returns : goal.returns
returns g c =
    let op = c.args.op.now in
    let station = c.args.station.now in
    record {
      asks = asks_also (asks_then c.in_ok-values.ensures.asks c.old_of.ensures.asks) (λ db gone is.
          is.1 ∙ ap (filter (may_go c.args.until (txs_in op station (rows_of db).transactions))) (c.oldest_values_of.ensures ∙ is.0));
    }
