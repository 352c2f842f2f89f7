use Rattle.std.proofs.Common.{◌∙◌, ◌++◌, ap, subst}
use Rattle.hub_rows.specs.MeterValues.{meter_values_in}
use Rattle.sql_tables.specs.declared.pages.TheConstants.{PAGE_ROWS}
use Rattle.sql_rows.specs.TypedTable.{rows_in}
use Rattle.sql_rows.specs.TypedTables.{meter_values}
use Rattle.sql_lookups.specs.Pages.{from, IsAfter}
use Rattle.sql_rows.proofs.Asking.{asks_err, asks_none, asks_of, asks_then}
use Rattle.sql_lookups.proofs.PageLaws.{follows, from_none, listed_more, own_up}
use Rattle.sql_lookups.proofs.station_values.all_values.Goals as goal

pub pages-init : goal.pages-init
pages-init g c = asks_none (λ db.
    let own = meter_values_in c.args.op.now c.args.station.now c.args.transaction (rows_in meter_values db) in
    ap (λ l. l ++ from (λ m. m.first) 0 own) c.new-values.ensures.items ∙ from_none (λ m. m.first) own)

pub pages-preserved : goal.pages-preserved
pages-preserved g c =
    let first = c.in-Some.first in
    let page = c.in_ok-page.page in
    let next = c.in_ok-next.next in
    asks_of (asks_then c.pages.invariant c.in_ok-page.ensures.asks) (λ db is.
    let own = meter_values_in c.args.op.now c.args.station.now c.args.transaction (rows_in meter_values db) in
    listed_more own c.pages.next first next c.pages.values.items page c.add_page.new.values.items c.in-Some.is is.0
    (follows PAGE_ROWS own (own_up c.args.op.now c.args.station.now c.args.transaction db) first page is.1 next (subst (λ l. IsAfter PAGE_ROWS first l next) c.as_slice.ensures c.in_ok-next.ensures.after)) c.in_ok-add_page.ensures)

pub returns-in_err-page : goal.returns-in_err-page
returns-in_err-page g c = record { asks = asks_err (asks_then c.pages.invariant c.in_err-page.ensures.asks) c.from_residual.ensures.0 }

pub returns-in_err-next : goal.returns-in_err-next
returns-in_err-next g c = record { asks = asks_err (asks_then c.pages.invariant c.in_ok-page.ensures.asks) c.from_residual-in_err-next.ensures.0 }

pub returns-in_err-add_page : goal.returns-in_err-add_page
returns-in_err-add_page g c = record { asks = asks_err (asks_then c.pages.invariant c.in_ok-page.ensures.asks) c.from_residual-in_err-add_page.ensures.0 }
