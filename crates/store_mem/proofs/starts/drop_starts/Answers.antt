use Rattle.std.proofs.Common.{List, not, filter, refl, ap, ◌∙◌}
use Rattle.hub_rows.specs.Forgetting.{has_number}
use Rattle.store_mem.specs.declared.starts.StartRow.{StartRow}
use Rattle.store_mem.proofs.NamedGroupLaws.{set-in_place, set-rows, none-changed}
use Rattle.store_mem.proofs.starts.drop_starts.Goals as goal

pub drop_if_empty-requires : goal.drop_if_empty-requires
drop_if_empty-requires c =
    let at = (rw c.as_slice.ensures.value at c.in-Ok.ensures) in
    let row = c.index_mut.ensures.value ∙ at.here c.index_mut.result.now in
    set-in_place c.args.op.now c.args.station.now c.args.groups.now.items c.in-Ok.place at (record { op = c.index_mut.result.now.op; name = c.index_mut.result.now.name; rows = c.drop_in.new.rows }) (ap (λ s. s.op) row) (ap (λ s. s.name) row) c.requires

pub returns-in-Ok-clause-rows : goal.returns-in-Ok-clause-rows
returns-in-Ok-clause-rows c = λ b n.
    let at = (rw c.as_slice.ensures.value at c.in-Ok.ensures) in
    let row = c.index_mut.ensures.value ∙ at.here c.index_mut.result.now in
    let kept : List StartRow → List StartRow = filter (λ s. not (has_number c.args.numbers.now s.number)) in
    c.drop_if_empty.ensures.rows b n
    ∙ set-rows c.args.op.now c.args.station.now c.args.groups.now.items c.in-Ok.place at (record { op = c.index_mut.result.now.op; name = c.index_mut.result.now.name; rows = c.drop_in.new.rows }) (ap (λ s. s.op) row) (ap (λ s. s.name) row) kept (c.drop_in.ensures ∙ ap (λ s. kept s.rows.items) row) b n

pub returns-in_default-clause-rows : goal.returns-in_default-clause-rows
returns-in_default-clause-rows c =
    let gap = (rw c.as_slice.ensures.value at c.in_default.ensures) in
    let kept : List StartRow → List StartRow = filter (λ s. not (has_number c.args.numbers.now s.number)) in
    none-changed c.args.op.now c.args.station.now c.args.groups.now.items c.in_default.field-0 gap kept refl
