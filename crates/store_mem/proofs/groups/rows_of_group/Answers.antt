use Rattle.std.proofs.Common.{[], ◌+◌, take, drop, ap, sym, ◌∙◌}
use Rattle.std.specs.List.Sorted.{IsStrictlySortedBy}
use Rattle.store_mem.specs.Groups.{all_of}
use Rattle.store_mem.proofs.GroupLaws.{own-parts, parts-found, parts-gap}
use Rattle.store_mem.proofs.groups.rows_of_group.Goals as goal

pub returns-in-Ok-clause-rows : goal.returns-in-Ok-clause-rows
returns-in-Ok-clause-rows g c =
    let key = g.R.Keyed.key in
    let group = g.R.GroupedRow.group in
    let rest = g.R.GroupedRow.rest in
    let splits = g.met.R.GroupedRow.splits in
    let b = c.args.name.now in
    let gs = c.args.groups.now in
    let i = c.in-Ok.place in
    let at = c.in-Ok.ensures in
    c.as_slice.ensures.value ∙ ap (λ s. s.rows.items) (at.here c.index-groups-place.result)
    ∙ sym (own-parts key group rest splits b gs (all_of (take i gs)) at.row.rows.items (all_of (drop (i + 1) gs)) (parts-found key group rest splits b gs i c.requires at))

pub returns-in-Err-clause-rows : goal.returns-in-Err-clause-rows
returns-in-Err-clause-rows g c =
    let key = g.R.Keyed.key in
    let group = g.R.GroupedRow.group in
    let rest = g.R.GroupedRow.rest in
    let splits = g.met.R.GroupedRow.splits in
    let b = c.args.name.now in
    let gs = c.args.groups.now in
    let i = c.in-Err.field-0 in
    sym (own-parts key group rest splits b gs (all_of (take i gs)) [] (all_of (drop i gs)) (parts-gap key group rest splits b gs i c.requires c.in-Err.ensures))

pub returns-in-Err-clause-sorted : goal.returns-in-Err-clause-sorted
unfolding IsStrictlySortedBy
returns-in-Err-clause-sorted g c = tt
