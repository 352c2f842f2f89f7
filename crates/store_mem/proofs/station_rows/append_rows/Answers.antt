use Rattle.std.proofs.Common.{◌++◌, ap, ◌∙◌}
use Rattle.store_mem.proofs.Kept.{on_err}
use Rattle.store_mem.proofs.StationRowsLaws.{set-same, set-more, insert-more}
use Rattle.store_mem.proofs.station_rows.append_rows.Goals as goal

pub returns-in_err-extend_group-in-Ok-clause-groups : goal.returns-in_err-extend_group-in-Ok-clause-groups
returns-in_err-extend_group-in-Ok-clause-groups g c =
    let at = (rw c.as_slice.ensures.value at rw c.as_str.ensures at rw c.as_str-2.ensures at c.in-Ok.ensures) in
    let row = c.index_mut.ensures.value ∙ at.here c.index_mut.result.now in
    let e = c.in_err-extend_group-in-Ok.ensures in
    (set-same g.R.NumberedRow.op g.R.NumberedRow.station g.R.NumberedRow.number c.args.op.now c.args.station.now c.args.groups.now.items c.in-Ok.place c.requires.groups at c.extend_group.new.group
    (e.op ∙ ap (λ s. s.op) row) (e.name ∙ ap (λ s. s.name) row) (e.err ∙ ap (λ s. s.rows.items) row)).0

pub returns-in_err-extend_group-in-Ok-clause-err : goal.returns-in_err-extend_group-in-Ok-clause-err
returns-in_err-extend_group-in-Ok-clause-err g c =
    let at = (rw c.as_slice.ensures.value at rw c.as_str.ensures at rw c.as_str-2.ensures at c.in-Ok.ensures) in
    let row = c.index_mut.ensures.value ∙ at.here c.index_mut.result.now in
    let e = c.in_err-extend_group-in-Ok.ensures in
    let same = (set-same g.R.NumberedRow.op g.R.NumberedRow.station g.R.NumberedRow.number c.args.op.now c.args.station.now c.args.groups.now.items c.in-Ok.place c.requires.groups at c.extend_group.new.group
    (e.op ∙ ap (λ s. s.op) row) (e.name ∙ ap (λ s. s.name) row) (e.err ∙ ap (λ s. s.rows.items) row)).1 in
    on_err _ c.from_residual.result same

pub returns-in_ok-extend_group-in-Ok-clause-groups : goal.returns-in_ok-extend_group-in-Ok-clause-groups
returns-in_ok-extend_group-in-Ok-clause-groups g c =
    let at = (rw c.as_slice.ensures.value at rw c.as_str.ensures at rw c.as_str-2.ensures at c.in-Ok.ensures) in
    let row = c.index_mut.ensures.value ∙ at.here c.index_mut.result.now in
    let e = c.in_ok-extend_group-in-Ok.ensures in
    (set-more g.R.NumberedRow.op g.R.NumberedRow.station g.R.NumberedRow.number c.args.op.now c.args.station.now c.args.groups.now.items c.in-Ok.place c.requires.groups at c.extend_group.new.group
    (e.op ∙ ap (λ s. s.op) row) (e.name ∙ ap (λ s. s.name) row) c.args.rows.items c.requires.new c.requires.behind (e.ok ∙ ap (λ s. s.rows.items ++ c.args.rows.items) row)).0

pub returns-in_ok-extend_group-in-Ok-clause-ok : goal.returns-in_ok-extend_group-in-Ok-clause-ok
returns-in_ok-extend_group-in-Ok-clause-ok g c =
    let at = (rw c.as_slice.ensures.value at rw c.as_str.ensures at rw c.as_str-2.ensures at c.in-Ok.ensures) in
    let row = c.index_mut.ensures.value ∙ at.here c.index_mut.result.now in
    let e = c.in_ok-extend_group-in-Ok.ensures in
    (set-more g.R.NumberedRow.op g.R.NumberedRow.station g.R.NumberedRow.number c.args.op.now c.args.station.now c.args.groups.now.items c.in-Ok.place c.requires.groups at c.extend_group.new.group
    (e.op ∙ ap (λ s. s.op) row) (e.name ∙ ap (λ s. s.name) row) c.args.rows.items c.requires.new c.requires.behind (e.ok ∙ ap (λ s. s.rows.items ++ c.args.rows.items) row)).1

pub returns-in_ok-insert-in-Err-clause-groups : goal.returns-in_ok-insert-in-Err-clause-groups
returns-in_ok-insert-in-Err-clause-groups g c =
    let gap = (rw c.as_slice.ensures.value at rw c.as_str.ensures at rw c.as_str-2.ensures at c.in-Err.ensures) in
    rw c.in_ok-insert-in-Err.ensures.items ((insert-more g.R.NumberedRow.op g.R.NumberedRow.station g.R.NumberedRow.number c.args.op.now c.args.station.now c.args.groups.now.items c.in-Err.place c.requires.groups gap
    (record { op = c.in_ok-clone-in-Err.field-0; name = c.in_ok-clone-in-Err-2.field-0; rows = c.args.rows }) c.in_ok-clone-in-Err.ensures.cases c.in_ok-clone-in-Err-2.ensures.cases c.requires.new c.requires.behind).0)

pub returns-in_ok-insert-in-Err-clause-ok : goal.returns-in_ok-insert-in-Err-clause-ok
returns-in_ok-insert-in-Err-clause-ok g c =
    let gap = (rw c.as_slice.ensures.value at rw c.as_str.ensures at rw c.as_str-2.ensures at c.in-Err.ensures) in
    rw c.in_ok-insert-in-Err.ensures.items ((insert-more g.R.NumberedRow.op g.R.NumberedRow.station g.R.NumberedRow.number c.args.op.now c.args.station.now c.args.groups.now.items c.in-Err.place c.requires.groups gap
    (record { op = c.in_ok-clone-in-Err.field-0; name = c.in_ok-clone-in-Err-2.field-0; rows = c.args.rows }) c.in_ok-clone-in-Err.ensures.cases c.in_ok-clone-in-Err-2.ensures.cases c.requires.new c.requires.behind).1)
