use Rattle.std.proofs.Common.{List, not, filter, refl, ap, sym, subst, ◌∙◌}
use Rattle.std.specs.List.Sorted.{IsStrictlySortedBy}
use Rattle.hub_rows.specs.Keyed.{by_key}
use Rattle.store_mem.specs.declared.open.OpenRow.{OpenRow}
use Rattle.store_mem.specs.Open.{open_key, is_open_tx}
use Rattle.store_mem.proofs.NamedGroupLaws.{rows-found, set-in_place, set-rows, none-changed}
use Rattle.store_mem.proofs.open.close.Goals as goal

pub close_in-requires : goal.close_in-requires
close_in-requires c =
    let at = (rw c.as_slice.ensures.value at c.in-Ok.ensures) in
    let row = c.index_mut.ensures.value ∙ at.here c.index_mut.result.now in
    subst (IsStrictlySortedBy (by_key open_key)) (rows-found c.args.op.now c.args.name.now c.args.opens.now.items c.in-Ok.place at ∙ ap (λ s. s.rows.items) (sym row)) c.requires.sorted

pub drop_if_empty-requires : goal.drop_if_empty-requires
drop_if_empty-requires c =
    let at = (rw c.as_slice.ensures.value at c.in-Ok.ensures) in
    let row = c.index_mut.ensures.value ∙ at.here c.index_mut.result.now in
    set-in_place c.args.op.now c.args.name.now c.args.opens.now.items c.in-Ok.place at (record { op = c.index_mut.result.now.op; name = c.index_mut.result.now.name; rows = c.close_in.new.rows }) (ap (λ s. s.op) row) (ap (λ s. s.name) row) c.requires.in_place

pub returns-in-Ok-clause-rows : goal.returns-in-Ok-clause-rows
returns-in-Ok-clause-rows c = λ b n.
    let at = (rw c.as_slice.ensures.value at c.in-Ok.ensures) in
    let row = c.index_mut.ensures.value ∙ at.here c.index_mut.result.now in
    let kept : List OpenRow → List OpenRow = filter (λ o. not (is_open_tx c.args.station.now c.args.number o)) in
    c.drop_if_empty.ensures.rows b n
    ∙ set-rows c.args.op.now c.args.name.now c.args.opens.now.items c.in-Ok.place at (record { op = c.index_mut.result.now.op; name = c.index_mut.result.now.name; rows = c.close_in.new.rows }) (ap (λ s. s.op) row) (ap (λ s. s.name) row) kept (c.close_in.ensures ∙ ap (λ s. kept s.rows.items) row) b n

pub returns-in_default-clause-rows : goal.returns-in_default-clause-rows
returns-in_default-clause-rows c =
    let gap = (rw c.as_slice.ensures.value at c.in_default.ensures) in
    let kept : List OpenRow → List OpenRow = filter (λ o. not (is_open_tx c.args.station.now c.args.number o)) in
    none-changed c.args.op.now c.args.name.now c.args.opens.now.items c.in_default.field-0 gap kept refl
