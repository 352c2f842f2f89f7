use Rattle.std.proofs.Common.{ap, sym, subst, ◌∙◌}
use Rattle.std.specs.List.Sorted.{IsStrictlySortedBy}
use Rattle.hub_rows.specs.Keyed.{by_key}
use Rattle.hub_rows.proofs.ListLaws.{by_key_total}
use Rattle.hub_rows.proofs.OrderLaws.{sorted-in_order}
use Rattle.store_mem.specs.NamedGroups.{rows_at, all_rows}
use Rattle.store_mem.specs.Starts.{start_key, starts_of, number_of}
use Rattle.store_mem.proofs.StartLaws.{number-first}
use Rattle.store_mem.proofs.transactions.Transactions.same_start.Goals as goal

pub number_of-requires : goal.number_of-requires
number_of-requires c =
    let s = c.args.self.now in
    let b = c.args.op.now in
    let st = c.args.station.now in
    subst (IsStrictlySortedBy (by_key start_key)) (sym (c.rows_at.ensures ∙ ap (rows_at b st) c.deref.ensures.value ∙ s.started.each b st))
    (sorted-in_order (by_key start_key) (by_key_total start_key) (starts_of b st (all_rows s.rows.items)))

pub returns : goal.returns
returns c =
    let s = c.args.self.now in
    let b = c.args.op.now in
    let st = c.args.station.now in
    c.number_of.ensures ∙ ap (number_of c.args.start.now) (c.rows_at.ensures ∙ ap (rows_at b st) c.deref.ensures.value)
    ∙ number-first b st c.args.start.now s.starts.items (all_rows s.rows.items) s.sorted s.started
