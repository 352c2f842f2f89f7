use Rattle.std.proofs.Common.{◌<◌, vec_len, vec_capacity, ap, sym, subst, ◌∙◌}
use Rattle.std.specs.List.Sorted.{IsStrictlySortedBy}
use Rattle.hub_rows.specs.Keyed.{by_key, put}
use Rattle.store_mem.proofs.NamedGroupLaws.{rows-found, room-found, room-none, set-in_place, set-rows}
use Rattle.store_mem.proofs.named_groups.put_at.Goals as goal

pub put_ready-requires-clause-sorted : goal.put_ready-requires-clause-sorted
put_ready-requires-clause-sorted g c =
    let at = (rw c.as_slice.ensures.value at c.in-Ok.ensures) in
    let row = c.index_mut.ensures.value ∙ at.here c.index_mut.result.now in
    subst (IsStrictlySortedBy (by_key g.R.Keyed.key)) (rows-found c.args.op.now c.args.name.now c.args.groups.now.items c.in-Ok.place at ∙ ap (λ s. s.rows.items) (sym row)) c.requires.sorted

pub put_ready-requires-clause-room : goal.put_ready-requires-clause-room
put_ready-requires-clause-room g c =
    let at = (rw c.as_slice.ensures.value at c.in-Ok.ensures) in
    let row = c.index_mut.ensures.value ∙ at.here c.index_mut.result.now in
    subst (λ s. vec_len s.rows < vec_capacity s.rows) (sym row) (room-found c.args.op.now c.args.name.now c.args.groups.now.items c.in-Ok.place at c.requires.room)

pub unreachable-requires : goal.unreachable-requires
unreachable-requires g c =
    let gap = (rw c.as_slice.ensures.value at c.in-Err.ensures) in
    room-none c.args.op.now c.args.name.now c.args.groups.now.items c.in-Err.field-0 gap c.requires.room

pub returns-clause-in_place : goal.returns-clause-in_place
returns-clause-in_place g c =
    let at = (rw c.as_slice.ensures.value at c.in-Ok.ensures) in
    let row = c.index_mut.ensures.value ∙ at.here c.index_mut.result.now in
    set-in_place c.args.op.now c.args.name.now c.args.groups.now.items c.in-Ok.place at (record { op = c.index_mut.result.now.op; name = c.index_mut.result.now.name; rows = c.put_ready.new.rows }) (ap (λ s. s.op) row) (ap (λ s. s.name) row) c.requires.in_place

pub returns-clause-rows : goal.returns-clause-rows
returns-clause-rows g c =
    let at = (rw c.as_slice.ensures.value at c.in-Ok.ensures) in
    let row = c.index_mut.ensures.value ∙ at.here c.index_mut.result.now in
    set-rows c.args.op.now c.args.name.now c.args.groups.now.items c.in-Ok.place at (record { op = c.index_mut.result.now.op; name = c.index_mut.result.now.name; rows = c.put_ready.new.rows }) (ap (λ s. s.op) row) (ap (λ s. s.name) row)
    (put (by_key g.R.Keyed.key) c.args.row) (c.put_ready.ensures ∙ ap (λ s. put (by_key g.R.Keyed.key) c.args.row s.rows.items) row)
