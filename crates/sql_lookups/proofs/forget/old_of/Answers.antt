use Rattle.std.proofs.Common.{◌∙◌, ap}
use Rattle.hub_rows.specs.Forgetting.{goes_with, may_go, named_tx}
use Rattle.hub_rows.specs.Transactions.{txs_in}
use Rattle.sql_rows.specs.TypedTable.{rows_in}
use Rattle.sql_rows.specs.TypedTables.{txs}
use Rattle.sql_rows.proofs.Asking.{asks_err, asks_of, asks_then}
use Rattle.sql_lookups.proofs.ForgetLaws.{one_found}
use Rattle.sql_lookups.proofs.forget.old_of.Goals as goal

pub rows-preserved : goal.rows-preserved
rows-preserved g c =
    let x = c.in-Some.row in
    asks_of (asks_then c.rows.invariant c.in_ok-last.ensures.asks) (λ db is.
    let own = txs_in c.args.op.now c.args.station.now (rows_in txs db) in
    let now = is.1 is.0.0 in (
      now.0,
      one_found (may_go c.args.until own) c.rows.yielded x c.rows.gone c.add_if.new.rows c.goes-is_old.result is.0.1
          (c.goes-is_old.ensures ∙ ap (goes_with c.args.until x.value.at) (now.0 ∙ ap (λ o. named_tx o own) now.1)) c.in_ok-add_if.ensures,
    ))

pub returns-in_err-last : goal.returns-in_err-last
returns-in_err-last g c = record { asks = asks_err (asks_then c.rows.invariant c.in_err-last.ensures.asks) c.from_residual.ensures.0 }

pub returns-in_err-add_if : goal.returns-in_err-add_if
returns-in_err-add_if g c = record { asks = asks_err (asks_then c.rows.invariant c.in_ok-last.ensures.asks) c.from_residual-in_err-add_if.ensures.0 }
