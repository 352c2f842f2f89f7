use Rattle.std.proofs.Common.{ap, sym, subst, ◌∙◌}
use Rattle.std.specs.List.Sorted.{IsStrictlySortedBy}
use Rattle.hub_rows.specs.Keyed.{by_key}
use Rattle.hub_rows.specs.Transactions.{counts}
use Rattle.store_mem.specs.NamedGroups.{rows_at, all_rows}
use Rattle.store_mem.specs.Open.{open_key, has_other}
use Rattle.store_mem.proofs.OpenLaws.{sorted-opens, used-other}
use Rattle.store_mem.proofs.transactions.Transactions.is_used.Goals as goal

pub has_other-requires : goal.has_other-requires
has_other-requires c =
    let s = c.args.self.now in
    let b = c.args.op.now in
    let key = c.args.key.now in
    subst (IsStrictlySortedBy (by_key open_key)) (sym (c.rows_at.ensures ∙ ap (rows_at b key) c.deref.ensures.value ∙ s.in_use.each b key))
    (sorted-opens counts (λ r. r.start.id.key) b key (all_rows s.rows.items) s.sorted)

pub returns : goal.returns
returns c =
    let s = c.args.self.now in
    let b = c.args.op.now in
    let except = c.args.except.now in
    c.has_other.ensures ∙ ap (has_other except) (c.rows_at.ensures ∙ ap (rows_at b c.args.key.now) c.deref.ensures.value ∙ s.in_use.each b c.args.key.now)
    ∙ sym (used-other b c.args.key.now except (all_rows s.rows.items))
