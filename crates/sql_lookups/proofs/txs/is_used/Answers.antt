use Rattle.std.proofs.Common.{◌&&◌, not, Bool, ap, ◌∙◌}
use Rattle.std.specs.List.{list_any}
use Rattle.std.specs.Str.{bytes_eq}
use Rattle.hub_rows.specs.Transactions.{counts, is_left_out, is_use}
use Rattle.hub_rows.specs.declared.tx_row.TxRow.{TxRow}
use Rattle.sql_rows.specs.TypedTable.{rows_in}
use Rattle.sql_rows.specs.TypedTables.{txs}
use Rattle.sql_rows.proofs.Calls.{any_filtered, regrouped}
use Rattle.sql_rows.proofs.Asking.{asks_of}
use Rattle.sql_lookups.proofs.txs.is_used.Goals as goal

pub returns : goal.returns
returns g c =
    let op = c.args.op.now in
    let key = c.args.key.now in
    let except = c.args.except.now in
    let others : TxRow → Bool = (λ r. not (is_left_out except r)) in
    record {
      asks = asks_of c.in_ok-rows.ensures.asks (λ db is.
          c.has_other.ensures ∙ ap (list_any others) (c.as_slice.ensures ∙ is)
          ∙ any_filtered (λ r. bytes_eq r.op op && (bytes_eq r.start.id.key key && counts r)) others (λ r. bytes_eq r.op op && is_use key except r) (λ r. regrouped (bytes_eq r.op op) (bytes_eq r.start.id.key key) (counts r) (others r)) (rows_in txs db));
    }
