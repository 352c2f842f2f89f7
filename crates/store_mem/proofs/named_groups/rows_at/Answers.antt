use Rattle.std.proofs.Common.{ap, sym, ◌∙◌}
use Rattle.store_mem.proofs.NamedGroupLaws.{rows-found, rows-none}
use Rattle.store_mem.proofs.named_groups.rows_at.Goals as goal

pub returns-in-Ok : goal.returns-in-Ok
returns-in-Ok g c =
    let at = c.in-Ok.ensures in
    c.as_slice.ensures.value ∙ ap (λ s. s.rows.items) (at.here c.index-groups-place.result) ∙ sym (rows-found c.args.op.now c.args.name.now c.args.groups.now c.in-Ok.place at)

pub returns-in-Err : goal.returns-in-Err
returns-in-Err g c = sym (rows-none c.args.op.now c.args.name.now c.args.groups.now c.in-Err.field-0 c.in-Err.ensures)
