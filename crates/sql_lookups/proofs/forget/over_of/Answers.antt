use Rattle.std.proofs.Common.{None}
use Rattle.hub_rows.specs.Forgetting.{tx_goes}
use Rattle.hub_rows.specs.MeterValues.{meter_values_in}
use Rattle.sql_rows.specs.TypedTable.{rows_in}
use Rattle.sql_rows.specs.TypedTables.{meter_values}
use Rattle.sql_rows.proofs.Asking.{asks_err, asks_of, asks_then}
use Rattle.sql_lookups.proofs.ForgetLaws.{one_found}
use Rattle.sql_lookups.proofs.forget.over_of.Goals as goal

pub txs-preserved : goal.txs-preserved
txs-preserved g c = asks_of (asks_then c.txs.invariant c.in_ok-goes.ensures.asks) (λ db is.
    one_found (tx_goes c.args.until (meter_values_in c.args.op.now c.args.station.now None (rows_in meter_values db))) c.txs.yielded c.in-Some.tx c.txs.gone c.add_if.new.rows c.in_ok-goes.goes is.0 is.1 c.in_ok-add_if.ensures)

pub returns-in_err-goes : goal.returns-in_err-goes
returns-in_err-goes g c = record { asks = asks_err (asks_then c.txs.invariant c.in_err-goes.ensures.asks) c.from_residual.ensures.0 }

pub returns-in_err-add_if : goal.returns-in_err-add_if
returns-in_err-add_if g c = record { asks = asks_err (asks_then c.txs.invariant c.in_ok-goes.ensures.asks) c.from_residual-in_err-add_if.ensures.0 }
