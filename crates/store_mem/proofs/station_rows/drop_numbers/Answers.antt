use Rattle.std.proofs.Common.{not, filter, ap, sym, ◌∙◌}
use Rattle.hub_rows.specs.Forgetting.{has_number}
use Rattle.store_mem.proofs.StationRowsLaws.{set-dropped, dropped-none}
use Rattle.store_mem.proofs.station_rows.drop_numbers.Goals as goal

pub returns-in-Ok-clause-groups : goal.returns-in-Ok-clause-groups
returns-in-Ok-clause-groups g c =
    let number = g.R.NumberedRow.number in
    let at = (rw c.as_slice.ensures.value at c.in-Ok.ensures) in
    let row = c.index_mut.ensures.value ∙ at.here c.index_mut.result.now in
    let e = c.drop_in_group.ensures in
    let ns = c.args.numbers.now in
    (set-dropped g.R.NumberedRow.op g.R.NumberedRow.station number c.args.op.now c.args.station.now c.args.groups.now.items c.in-Ok.place c.requires at c.drop_in_group.new.group
    (e.op ∙ ap (λ s. s.op) row) (e.name ∙ ap (λ s. s.name) row) ns (e.rows ∙ ap (λ s. filter (λ r. not (has_number ns (number r))) s.rows.items) row)).0

pub returns-in-Ok-clause-rows : goal.returns-in-Ok-clause-rows
returns-in-Ok-clause-rows g c =
    let number = g.R.NumberedRow.number in
    let at = (rw c.as_slice.ensures.value at c.in-Ok.ensures) in
    let row = c.index_mut.ensures.value ∙ at.here c.index_mut.result.now in
    let e = c.drop_in_group.ensures in
    let ns = c.args.numbers.now in
    (set-dropped g.R.NumberedRow.op g.R.NumberedRow.station number c.args.op.now c.args.station.now c.args.groups.now.items c.in-Ok.place c.requires at c.drop_in_group.new.group
    (e.op ∙ ap (λ s. s.op) row) (e.name ∙ ap (λ s. s.name) row) ns (e.rows ∙ ap (λ s. filter (λ r. not (has_number ns (number r))) s.rows.items) row)).1

pub returns-in_default-clause-rows : goal.returns-in_default-clause-rows
returns-in_default-clause-rows g c =
    let gap = (rw c.as_slice.ensures.value at c.in_default.ensures) in
    sym (dropped-none g.R.NumberedRow.op g.R.NumberedRow.station g.R.NumberedRow.number c.args.op.now c.args.station.now c.args.groups.now.items c.in_default.field-0 c.requires gap c.args.numbers.now)
