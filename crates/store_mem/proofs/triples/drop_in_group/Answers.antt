use Rattle.std.proofs.Common.{[], ◌∷◌, sym, ◌∙◌}
use Rattle.hub_rows.proofs.NameLaws.{filter-found, filter-gap}
use Rattle.store_mem.proofs.TripleLaws.{is_its_row, agrees}
use Rattle.store_mem.proofs.triples.drop_in_group.Goals as goal

pub returns-in-Ok : goal.returns-in-Ok
returns-in-Ok g c =
    let b = c.args.name.now in
    let s = c.args.second.now in
    let t = c.args.third.now in
    let at = (rw c.as_slice.ensures.value at c.in-Ok.ensures) in
    c.remove-dropped.ensures.items ∙ sym (filter-found g.R.Keyed.key (b ∷ s ∷ t ∷ [])
    (is_its_row g.R.Keyed.key g.R.GroupedRow.group g.R.GroupedRow.rest g.met.R.GroupedRow.splits b s t)
    (agrees g.R.Keyed.key g.R.GroupedRow.group g.R.GroupedRow.rest g.met.R.GroupedRow.splits b s t) c.args.rows.now.items c.in-Ok.place at)

pub returns-in_default : goal.returns-in_default
returns-in_default g c =
    let b = c.args.name.now in
    let s = c.args.second.now in
    let t = c.args.third.now in
    let gap = (rw c.as_slice.ensures.value at c.in_default.ensures) in
    sym (filter-gap g.R.Keyed.key (b ∷ s ∷ t ∷ [])
    (is_its_row g.R.Keyed.key g.R.GroupedRow.group g.R.GroupedRow.rest g.met.R.GroupedRow.splits b s t)
    (agrees g.R.Keyed.key g.R.GroupedRow.group g.R.GroupedRow.rest g.met.R.GroupedRow.splits b s t) c.args.rows.now.items c.in_default.field-0 gap)
