use Rattle.std.proofs.Common.{ap, arith, ◌∙◌}
use Rattle.store_mem.proofs.Kept.{on_ok}
use Rattle.store_mem.proofs.NamedGroupLaws.{set-in_place, set-same, set-room, insert-in_place, insert-rows, insert-room}
use Rattle.store_mem.proofs.StationRowsLaws.{set-same as set-grouped, insert-none}
use Rattle.store_mem.proofs.named_groups.make_room_at.Goals as goal

pub returns-in-Ok-clause-in_place : goal.returns-in-Ok-clause-in_place
returns-in-Ok-clause-in_place g c =
    let at = (rw c.as_slice.ensures.value at c.in-Ok.ensures) in
    let row = c.index_mut.ensures.value ∙ at.here c.index_mut.result.now in
    set-in_place c.args.op.now c.args.name.now c.args.groups.now.items c.in-Ok.place at (record { op = c.index_mut.result.now.op; name = c.index_mut.result.now.name; rows = c.make_room_in.new.rows }) (ap (λ s. s.op) row) (ap (λ s. s.name) row) c.requires

pub returns-in-Ok-clause-rows : goal.returns-in-Ok-clause-rows
returns-in-Ok-clause-rows g c =
    let at = (rw c.as_slice.ensures.value at c.in-Ok.ensures) in
    let row = c.index_mut.ensures.value ∙ at.here c.index_mut.result.now in
    set-same c.args.op.now c.args.name.now c.args.groups.now.items c.in-Ok.place at (record { op = c.index_mut.result.now.op; name = c.index_mut.result.now.name; rows = c.make_room_in.new.rows }) (ap (λ s. s.op) row) (ap (λ s. s.name) row) (c.make_room_in.ensures.rows ∙ ap (λ s. s.rows.items) row)

pub returns-in-Ok-clause-grouped : goal.returns-in-Ok-clause-grouped
returns-in-Ok-clause-grouped g c =
    let at = (rw c.as_slice.ensures.value at c.in-Ok.ensures) in
    let row = c.index_mut.ensures.value ∙ at.here c.index_mut.result.now in
    λ op station number good. set-grouped op station number c.args.op.now c.args.name.now c.args.groups.now.items c.in-Ok.place good at (record { op = c.index_mut.result.now.op; name = c.index_mut.result.now.name; rows = c.make_room_in.new.rows }) (ap (λ s. s.op) row) (ap (λ s. s.name) row) (c.make_room_in.ensures.rows ∙ ap (λ s. s.rows.items) row)

pub returns-in-Ok-clause-room : goal.returns-in-Ok-clause-room
returns-in-Ok-clause-room g c =
    let at = (rw c.as_slice.ensures.value at c.in-Ok.ensures) in
    let row = c.index_mut.ensures.value ∙ at.here c.index_mut.result.now in
    on_ok c.make_room_in.result (set-room c.args.op.now c.args.name.now c.args.groups.now.items c.in-Ok.place at (record { op = c.index_mut.result.now.op; name = c.index_mut.result.now.name; rows = c.make_room_in.new.rows }) (ap (λ s. s.op) row) (ap (λ s. s.name) row)) c.make_room_in.ensures.room

pub returns-in_ok-insert-in-Err-clause-in_place : goal.returns-in_ok-insert-in-Err-clause-in_place
returns-in_ok-insert-in-Err-clause-in_place g c =
    let gap = (rw c.as_slice.ensures.value at c.in-Err.ensures) in
    rw c.in_ok-insert-in-Err.ensures.items (insert-in_place c.args.op.now c.args.name.now c.args.groups.now.items c.in-Err.place gap (record { op = c.in_ok-copy_of-in-Err.field-0; name = c.in_ok-copy_of-in-Err-2.field-0; rows = c.in_ok-with_capacity-in-Err.field-0 })
    c.in_ok-copy_of-in-Err.ensures c.in_ok-copy_of-in-Err-2.ensures c.requires)

pub returns-in_ok-insert-in-Err-clause-rows : goal.returns-in_ok-insert-in-Err-clause-rows
returns-in_ok-insert-in-Err-clause-rows g c =
    let gap = (rw c.as_slice.ensures.value at c.in-Err.ensures) in
    rw c.in_ok-insert-in-Err.ensures.items (insert-rows c.args.op.now c.args.name.now c.args.groups.now.items c.in-Err.place gap (record { op = c.in_ok-copy_of-in-Err.field-0; name = c.in_ok-copy_of-in-Err-2.field-0; rows = c.in_ok-with_capacity-in-Err.field-0 })
    c.in_ok-copy_of-in-Err.ensures c.in_ok-copy_of-in-Err-2.ensures c.in_ok-with_capacity-in-Err.ensures.items)

pub returns-in_ok-insert-in-Err-clause-grouped : goal.returns-in_ok-insert-in-Err-clause-grouped
returns-in_ok-insert-in-Err-clause-grouped g c =
    let gap = (rw c.as_slice.ensures.value at c.in-Err.ensures) in
    λ op station number good. rw c.in_ok-insert-in-Err.ensures.items (insert-none op station number c.args.op.now c.args.name.now c.args.groups.now.items c.in-Err.place good gap (record { op = c.in_ok-copy_of-in-Err.field-0; name = c.in_ok-copy_of-in-Err-2.field-0; rows = c.in_ok-with_capacity-in-Err.field-0 })
    c.in_ok-copy_of-in-Err.ensures c.in_ok-copy_of-in-Err-2.ensures c.in_ok-with_capacity-in-Err.ensures.items)

pub returns-in_ok-insert-in-Err-clause-room : goal.returns-in_ok-insert-in-Err-clause-room
returns-in_ok-insert-in-Err-clause-room g c =
    let gap = (rw c.as_slice.ensures.value at c.in-Err.ensures) in
    let made = c.in_ok-with_capacity-in-Err.ensures in
    rw c.in_ok-insert-in-Err.ensures.items (insert-room c.args.op.now c.args.name.now c.args.groups.now.items c.in-Err.place gap (record { op = c.in_ok-copy_of-in-Err.field-0; name = c.in_ok-copy_of-in-Err-2.field-0; rows = c.in_ok-with_capacity-in-Err.field-0 })
    c.in_ok-copy_of-in-Err.ensures c.in_ok-copy_of-in-Err-2.ensures (omega (arith, made.len, made.capacity)))
