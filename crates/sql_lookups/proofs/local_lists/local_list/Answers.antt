use Rattle.std.proofs.Common.{Some, map, option_map, sym, ap, ◌∙◌}
use Rattle.sql_rows.specs.TypedTable.{rows_in}
use Rattle.sql_rows.specs.TypedTables.{entries, lists}
use Rattle.sql_rows.proofs.ListEdits.{local, list_found}
use Rattle.sql_rows.proofs.Asking.{asks_err, asks_of, asks_then}
use Rattle.sql_lookups.proofs.local_lists.local_list.Goals as goal

pub returns-in-None : goal.returns-in-None
returns-in-None g c =
    let op = c.args.op.now in
    let station = c.args.station.now in
    record {
      asks = asks_of c.in_ok-head.ensures.asks (λ db is. sym (list_found op station (rows_in entries db) (rows_in lists db) ∙ ap (option_map (local op station (rows_in entries db))) (sym is ∙ c.in-None.is)));
    }

pub returns-in_ok-entries_of-in-Some : goal.returns-in_ok-entries_of-in-Some
returns-in_ok-entries_of-in-Some g c =
    let op = c.args.op.now in
    let station = c.args.station.now in
    record {
      asks = asks_of (asks_then c.in_ok-head.ensures.asks c.in_ok-rows-in-Some.ensures.asks) (λ db is.
          let list = c.in_ok-entries_of-in-Some.ensures ∙ ap (map (λ e. e.entry)) is.1 in
          ap (λ l. Some (record { version = c.in-Some.head.version; entries = l })) list
          ∙ sym (list_found op station (rows_in entries db) (rows_in lists db) ∙ ap (option_map (local op station (rows_in entries db))) (sym is.0 ∙ c.in-Some.is)));
    }

pub returns-in_err-rows-in-Some : goal.returns-in_err-rows-in-Some
returns-in_err-rows-in-Some g c = record { asks = asks_err (asks_then c.in_ok-head.ensures.asks c.in_err-rows-in-Some.ensures.asks) c.from_residual-in_err-rows-in-Some.ensures.0 }

pub returns-in_err-entries_of-in-Some : goal.returns-in_err-entries_of-in-Some
returns-in_err-entries_of-in-Some g c = record { asks = asks_err (asks_then c.in_ok-head.ensures.asks c.in_ok-rows-in-Some.ensures.asks) c.from_residual-in_err-entries_of-in-Some.ensures.0 }
