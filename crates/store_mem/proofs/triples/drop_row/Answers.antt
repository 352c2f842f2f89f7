use Rattle.std.proofs.Common.{Bool, ap, sym, ◌∙◌}
use Rattle.hub_rows.specs.Keyed.{without}
use Rattle.store_mem.specs.Groups.{is_row}
use Rattle.store_mem.proofs.GroupLaws.{set-without, without-none}
use Rattle.store_mem.proofs.triples.drop_row.Goals as goal

pub returns-in-Ok-clause-groups : goal.returns-in-Ok-clause-groups
returns-in-Ok-clause-groups g c =
    let at = (rw c.as_slice.ensures.value at c.in-Ok.ensures) in
    let row = c.index_mut.ensures.value ∙ at.here c.index_mut.result.now in
    let b = c.args.name.now in
    let is : _ → Bool = is_row g.R.GroupedRow.rest c.args.second.now c.args.third.now in
    (set-without g.R.Keyed.key g.R.GroupedRow.group g.R.GroupedRow.rest g.met.R.GroupedRow.splits b c.args.groups.now.items c.in-Ok.place c.requires at (record { name = c.index_mut.result.now.name; rows = c.drop_in_group.new.rows })
    (ap (λ s. s.name) row) is (c.drop_in_group.ensures ∙ ap (λ s. without g.R.GroupedRow.group b is s.rows.items) row)).0

pub returns-in-Ok-clause-rows : goal.returns-in-Ok-clause-rows
returns-in-Ok-clause-rows g c =
    let at = (rw c.as_slice.ensures.value at c.in-Ok.ensures) in
    let row = c.index_mut.ensures.value ∙ at.here c.index_mut.result.now in
    let b = c.args.name.now in
    let is : _ → Bool = is_row g.R.GroupedRow.rest c.args.second.now c.args.third.now in
    (set-without g.R.Keyed.key g.R.GroupedRow.group g.R.GroupedRow.rest g.met.R.GroupedRow.splits b c.args.groups.now.items c.in-Ok.place c.requires at (record { name = c.index_mut.result.now.name; rows = c.drop_in_group.new.rows })
    (ap (λ s. s.name) row) is (c.drop_in_group.ensures ∙ ap (λ s. without g.R.GroupedRow.group b is s.rows.items) row)).1

pub returns-in_default-clause-rows : goal.returns-in_default-clause-rows
returns-in_default-clause-rows g c =
    let gap = (rw c.as_slice.ensures.value at c.in_default.ensures) in
    let is : _ → Bool = is_row g.R.GroupedRow.rest c.args.second.now c.args.third.now in
    sym (without-none g.R.Keyed.key g.R.GroupedRow.group g.R.GroupedRow.rest g.met.R.GroupedRow.splits c.args.name.now c.args.groups.now.items c.in_default.field-0 c.requires gap is)
