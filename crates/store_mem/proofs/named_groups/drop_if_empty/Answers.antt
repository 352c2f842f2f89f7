use Rattle.std.proofs.Common.{◌≡◌, length, ap, sym, ◌∙◌, rules}
use Rattle.std.proofs.lemmas.List.{nil_from_length}
use Rattle.store_mem.proofs.NamedGroupLaws.{remove-in_place, remove-rows}
use Rattle.store_mem.proofs.named_groups.drop_if_empty.Goals as goal

pub returns-then-is_empty-clause-in_place : goal.returns-then-is_empty-clause-in_place
returns-then-is_empty-clause-in_place g c =
    let at = (rw c.as_slice.ensures.value at c.in-Ok.ensures) in
    rw c.remove-empty.ensures.items (remove-in_place c.args.op.now c.args.name.now c.args.groups.now.items c.in-Ok.place at c.requires)

pub returns-then-is_empty-clause-rows : goal.returns-then-is_empty-clause-rows
returns-then-is_empty-clause-rows g c =
    let at = (rw c.as_slice.ensures.value at c.in-Ok.ensures) in
    let row = c.index.ensures ∙ at.here c.index.result.now in
    let none : length c.index.result.now.rows.items ≡ 0 = search rules in
    rw c.remove-empty.ensures.items (remove-rows c.args.op.now c.args.name.now c.args.groups.now.items c.in-Ok.place at (ap (λ s. s.rows.items) (sym row) ∙ nil_from_length c.index.result.now.rows.items none))
