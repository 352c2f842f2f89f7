use Rattle.std.proofs.Common.{◌<◌, vec_len, vec_capacity, ap, sym, subst, ◌∙◌}
use Rattle.hub_rows.specs.Keyed.{by_key, put}
use Rattle.store_mem.specs.Groups.{HasRoom}
use Rattle.store_mem.proofs.GroupLaws.{set-put}
use Rattle.store_mem.proofs.RoomLaws.{room-found, no_room-gap}
use Rattle.store_mem.proofs.groups.put_in_room.Goals as goal

pub put_ready-requires-clause-room : goal.put_ready-requires-clause-room
put_ready-requires-clause-room g c =
    let gs = c.args.groups.now.items in
    let at = (rw c.as_slice.ensures.value at c.in-Ok.ensures) in
    let row = c.index_mut.ensures.value ∙ at.here c.index_mut.result.now in
    subst (λ s. vec_len s.rows < vec_capacity s.rows) (sym row)
    (room-found c.group.result.now gs c.in-Ok.place at (subst (λ n. HasRoom n gs) (sym c.group.ensures) c.requires.room))

pub unreachable-requires : goal.unreachable-requires
unreachable-requires g c =
    let gs = c.args.groups.now.items in
    let gap = (rw c.as_slice.ensures.value at c.in-Err.ensures) in
    no_room-gap c.group.result.now gs c.in-Err.field-0 gap (subst (λ n. HasRoom n gs) (sym c.group.ensures) c.requires.room)

pub returns-clause-groups : goal.returns-clause-groups
returns-clause-groups g c =
    let at = (rw c.as_slice.ensures.value at c.in-Ok.ensures) in
    let row = c.index_mut.ensures.value ∙ at.here c.index_mut.result.now in
    (set-put g.R.Keyed.key g.R.GroupedRow.group g.R.GroupedRow.rest g.met.R.GroupedRow.splits c.group.result.now c.args.groups.now.items c.in-Ok.place c.requires.groups at (record { name = c.index_mut.result.now.name; rows = c.put_ready.new.rows })
    (ap (λ s. s.name) row) c.args.row (sym c.group.ensures) (c.put_ready.ensures ∙ ap (λ s. put (by_key g.R.Keyed.key) c.args.row s.rows.items) row)).0

pub returns-clause-rows : goal.returns-clause-rows
returns-clause-rows g c =
    let at = (rw c.as_slice.ensures.value at c.in-Ok.ensures) in
    let row = c.index_mut.ensures.value ∙ at.here c.index_mut.result.now in
    (set-put g.R.Keyed.key g.R.GroupedRow.group g.R.GroupedRow.rest g.met.R.GroupedRow.splits c.group.result.now c.args.groups.now.items c.in-Ok.place c.requires.groups at (record { name = c.index_mut.result.now.name; rows = c.put_ready.new.rows })
    (ap (λ s. s.name) row) c.args.row (sym c.group.ensures) (c.put_ready.ensures ∙ ap (λ s. put (by_key g.R.Keyed.key) c.args.row s.rows.items) row)).1
