use Rattle.std.proofs.Common.{◌≡◌, ◌∙◌, ◌++◌, ◌-◌, ◌==◌, ◌||◌, None, ap, nat_le, subst, sym, true}
use Rattle.hub_rows.specs.declared.forgettable.TheConstants.{MAX_FORGOTTEN, MAX_READINGS}
use Rattle.hub_rows.specs.Forgetting.{count_readings}
use Rattle.hub_rows.specs.MeterValues.{meter_values_in}
use Rattle.sql_rows.specs.TypedTable.{rows_in}
use Rattle.sql_rows.specs.TypedTables.{meter_values}
use Rattle.sql_lookups.specs.Pages.{from, IsAfter}
use Rattle.sql_rows.proofs.Asking.{asks_err, asks_none, asks_of, asks_then}
use Rattle.sql_lookups.proofs.FirstLaws.{left_after, oldest_found}
use Rattle.sql_lookups.proofs.PageLaws.{follows, from_none, listed_more, own_up, rest}
use Rattle.sql_lookups.proofs.first_values.first_values.Goals as goal

pub values-init : goal.values-init
values-init g c = asks_none (λ db.
    let own = meter_values_in c.args.op.now c.args.station.now None (rows_in meter_values db) in (
      ap (λ l. l ++ from (λ m. m.first) 0 own) c.new-values.ensures.items ∙ from_none (λ m. m.first) own,
      ap (λ l. MAX_READINGS - count_readings l) (sym c.new-values.ensures.items),
    ))

pub values-preserved : goal.values-preserved
values-preserved g c =
    let first = c.in-Some.first in
    let page = c.in_ok-value.value in
    let next = c.in_ok-next.next in
    asks_of (asks_then c.values.invariant c.in_ok-value.ensures.asks) (λ db is.
    let own = meter_values_in c.args.op.now c.args.station.now None (rows_in meter_values db) in (
      listed_more own c.values.next first next c.values.values.items page c.add_values.new.values.items c.in-Some.is is.0.0
          (follows 1 own (own_up c.args.op.now c.args.station.now None db) first page is.1 next (subst (λ l. IsAfter 1 first l next) c.as_slice.ensures c.in_ok-next.ensures.after)) c.in_ok-add_values.ensures.added,
      left_after MAX_READINGS c.values.left c.add_values.new.left c.values.values.items page c.add_values.new.values.items is.0.1 c.in_ok-add_values.ensures.left c.in_ok-add_values.ensures.added,
    ))

pub returns-then-is_last : goal.returns-then-is_last
returns-then-is_last g c =
    let first = c.in-Some.first in
    let page = c.in_ok-value.value in
    let next = c.in_ok-next.next in
    record {
      asks = asks_of (asks_then c.values.invariant c.in_ok-value.ensures.asks) (λ db is.
          let own = meter_values_in c.args.op.now c.args.station.now None (rows_in meter_values db) in
          let follow = follows 1 own (own_up c.args.op.now c.args.station.now None db) first page is.1 next (subst (λ l. IsAfter 1 first l next) c.as_slice.ensures c.in_ok-next.ensures.after) in
          oldest_found c.values.left c.values.values.items page (rest next own) (from (λ m. m.first) first own) own c.from.result is.0.1 (subst (λ n. (c.values.left == 0) || nat_le MAX_FORGOTTEN n ≡ true) (c.len.ensures ∙ c.values.values.ok.0) (sym c.is_enough-is_last.ensures ∙ c.if-is_last.true)) (c.from.ensures ∙ c.in_ok-add_values.ensures.added)
          (ap (λ l. l ++ rest next own) (c.from.ensures) ∙ listed_more own c.values.next first next c.values.values.items page c.add_values.new.values.items c.in-Some.is is.0.0 follow c.in_ok-add_values.ensures.added) is.1 follow);
    }

pub returns-in_err-value : goal.returns-in_err-value
returns-in_err-value g c = record { asks = asks_err (asks_then c.values.invariant c.in_err-value.ensures.asks) c.from_residual.ensures.0 }

pub returns-in_err-next : goal.returns-in_err-next
returns-in_err-next g c = record { asks = asks_err (asks_then c.values.invariant c.in_ok-value.ensures.asks) c.from_residual-in_err-next.ensures.0 }

pub returns-in_err-add_values : goal.returns-in_err-add_values
returns-in_err-add_values g c = record { asks = asks_err (asks_then c.values.invariant c.in_ok-value.ensures.asks) c.from_residual-in_err-add_values.ensures.0 }
