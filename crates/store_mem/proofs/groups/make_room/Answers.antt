use Rattle.std.proofs.Common.{ap, arith, ◌∙◌}
use Rattle.hub_rows.proofs.ListLaws.{head}
use Rattle.store_mem.proofs.GroupLaws.{set-same, insert-none}
use Rattle.store_mem.proofs.Kept.{on_ok}
use Rattle.store_mem.proofs.RoomLaws.{room-set, room-inserted}
use Rattle.store_mem.proofs.groups.make_room.Goals as goal

pub returns-in-Ok-clause-groups : goal.returns-in-Ok-clause-groups
returns-in-Ok-clause-groups g c =
    let at = (rw c.as_slice.ensures.value at c.in-Ok.ensures) in
    let row = c.index_mut.ensures.value ∙ at.here c.index_mut.result.now in
    (set-same g.R.Keyed.key g.R.GroupedRow.group g.R.GroupedRow.rest g.met.R.GroupedRow.splits c.args.name.now c.args.groups.now.items c.in-Ok.place c.requires at (record { name = c.index_mut.result.now.name; rows = c.make_room_in.new.rows })
    (ap (λ s. s.name) row) (c.make_room_in.ensures.rows ∙ ap (λ s. s.rows.items) row)).0

pub returns-in-Ok-clause-rows : goal.returns-in-Ok-clause-rows
returns-in-Ok-clause-rows g c =
    let at = (rw c.as_slice.ensures.value at c.in-Ok.ensures) in
    let row = c.index_mut.ensures.value ∙ at.here c.index_mut.result.now in
    (set-same g.R.Keyed.key g.R.GroupedRow.group g.R.GroupedRow.rest g.met.R.GroupedRow.splits c.args.name.now c.args.groups.now.items c.in-Ok.place c.requires at (record { name = c.index_mut.result.now.name; rows = c.make_room_in.new.rows })
    (ap (λ s. s.name) row) (c.make_room_in.ensures.rows ∙ ap (λ s. s.rows.items) row)).1

pub returns-in-Ok-clause-room : goal.returns-in-Ok-clause-room
returns-in-Ok-clause-room g c =
    let at = (rw c.as_slice.ensures.value at c.in-Ok.ensures) in
    let row = c.index_mut.ensures.value ∙ at.here c.index_mut.result.now in
    on_ok c.make_room_in.result (room-set c.args.name.now c.args.groups.now.items c.in-Ok.place at (record { name = c.index_mut.result.now.name; rows = c.make_room_in.new.rows }) (ap (λ s. s.name) row ∙ ap head at.has_key)) c.make_room_in.ensures.room

pub returns-in_ok-insert-in-Err-clause-groups : goal.returns-in_ok-insert-in-Err-clause-groups
returns-in_ok-insert-in-Err-clause-groups g c =
    let gap = (rw c.as_slice.ensures.value at c.in-Err.ensures) in
    rw c.in_ok-insert-in-Err.ensures.items ((insert-none g.R.Keyed.key g.R.GroupedRow.group g.R.GroupedRow.rest g.met.R.GroupedRow.splits c.args.name.now c.args.groups.now.items c.in-Err.place c.requires gap
    (record { name = c.in_ok-name-in-Err.name; rows = c.in_ok-rows-in-Err.rows }) c.in_ok-name-in-Err.ensures c.in_ok-rows-in-Err.ensures.items).0)

pub returns-in_ok-insert-in-Err-clause-rows : goal.returns-in_ok-insert-in-Err-clause-rows
returns-in_ok-insert-in-Err-clause-rows g c =
    let gap = (rw c.as_slice.ensures.value at c.in-Err.ensures) in
    rw c.in_ok-insert-in-Err.ensures.items ((insert-none g.R.Keyed.key g.R.GroupedRow.group g.R.GroupedRow.rest g.met.R.GroupedRow.splits c.args.name.now c.args.groups.now.items c.in-Err.place c.requires gap
    (record { name = c.in_ok-name-in-Err.name; rows = c.in_ok-rows-in-Err.rows }) c.in_ok-name-in-Err.ensures c.in_ok-rows-in-Err.ensures.items).1)

pub returns-in_ok-insert-in-Err-clause-room : goal.returns-in_ok-insert-in-Err-clause-room
returns-in_ok-insert-in-Err-clause-room g c =
    let gap = (rw c.as_slice.ensures.value at c.in-Err.ensures) in
    let made = c.in_ok-rows-in-Err.ensures in
    rw c.in_ok-insert-in-Err.ensures.items (room-inserted c.args.name.now c.args.groups.now.items c.in-Err.place (record { name = c.in_ok-name-in-Err.name; rows = c.in_ok-rows-in-Err.rows }) gap c.in_ok-name-in-Err.ensures (omega (arith, made.len, made.capacity)))
