use Rattle.std.proofs.Common.{[], ◌∷◌, sym, ◌∙◌}
use Rattle.hub_rows.specs.Keyed.{pair_key}
use Rattle.hub_rows.proofs.NameLaws.{is_of, pair_agrees, filter-found, filter-gap}
use Rattle.hub_rows.proofs.named_row.remove_row.Goals as goal

pub returns-in-Ok : goal.returns-in-Ok
returns-in-Ok g c =
    let o = c.args.op.now in
    let n = c.args.name.now in
    let op = g.R.NamedRow.op in
    let name = g.R.NamedRow.name in
    let at = (rw c.deref.ensures.value at c.in-Ok.ensures) in
    c.remove-removed.ensures.items ∙ sym (filter-found (pair_key op name) (o ∷ n ∷ []) (is_of op name o n) (pair_agrees op name o n) c.args.rows.now.items c.in-Ok.place at)

pub returns-in_default : goal.returns-in_default
returns-in_default g c =
    let o = c.args.op.now in
    let n = c.args.name.now in
    let op = g.R.NamedRow.op in
    let name = g.R.NamedRow.name in
    let gap = (rw c.deref.ensures.value at c.in_default.ensures) in
    sym (filter-gap (pair_key op name) (o ∷ n ∷ []) (is_of op name o n) (pair_agrees op name o n) c.args.rows.now.items c.in_default.field-0 gap)
