use Rattle.std.proofs.Common.{ap, sym, subst, ◌∙◌}
use Rattle.std.specs.List.Sorted.{IsStrictlySortedBy}
use Rattle.hub_rows.specs.Keyed.{by_key}
use Rattle.hub_rows.specs.Transactions.{is_open}
use Rattle.store_mem.specs.NamedGroups.{rows_at, all_rows}
use Rattle.store_mem.specs.Open.{open_key, has_at}
use Rattle.store_mem.proofs.OpenLaws.{sorted-opens}
use Rattle.store_mem.proofs.OpenTxLaws.{open-at}
use Rattle.store_mem.proofs.transactions.Transactions.has_open.Goals as goal

pub has_at-requires : goal.has_at-requires
has_at-requires c =
    let s = c.args.self.now in
    let b = c.args.op.now in
    subst (IsStrictlySortedBy (by_key open_key)) (sym (c.rows_at.ensures ∙ ap (rows_at b b) c.deref.ensures.value ∙ s.opened.each b b))
    (sorted-opens is_open (λ r. r.op) b b (all_rows s.rows.items) s.sorted)

pub returns : goal.returns
returns c =
    let s = c.args.self.now in
    let b = c.args.op.now in
    let st = c.args.station.now in
    c.has_at.ensures ∙ ap (has_at st) (c.rows_at.ensures ∙ ap (rows_at b b) c.deref.ensures.value ∙ s.opened.each b b)
    ∙ sym (open-at b st (all_rows s.rows.items))
