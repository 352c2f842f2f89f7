use Rattle.std.proofs.Common.{[], ◌∷◌, ◌++◌, ◌<◌, vec_len, vec_capacity, refl, ap, sym, subst, ◌∙◌}
use Rattle.store_mem.specs.NamedGroups.{HasRoomAt, all_rows}
use Rattle.store_mem.proofs.NamedGroupLaws.{room-found, room-none}
use Rattle.store_mem.proofs.NewRows.{one_row, one_behind}
use Rattle.store_mem.proofs.StationRowsLaws.{set-more}
use Rattle.store_mem.proofs.station_rows.put_last.Goals as goal

pub push_reserved-requires : goal.push_reserved-requires
push_reserved-requires g c =
    let at = (rw c.as_slice.ensures.value at c.in-Ok.ensures) in
    let row = c.index_mut.ensures.value ∙ at.here c.index_mut.result.now in
    let ss = c.args.groups.now.items in
    let room = subst (λ b. HasRoomAt b c.station.result.now ss) (sym c.op.ensures) (subst (λ st. HasRoomAt (g.R.NumberedRow.op c.args.row) st ss) (sym c.station.ensures) c.requires.room) in
    subst (λ s. vec_len s.rows < vec_capacity s.rows) (sym row) (room-found c.op.result.now c.station.result.now ss c.in-Ok.place at room)

pub unreachable-requires : goal.unreachable-requires
unreachable-requires g c =
    let gap = (rw c.as_slice.ensures.value at c.in-Err.ensures) in
    let ss = c.args.groups.now.items in
    let room = subst (λ b. HasRoomAt b c.station.result.now ss) (sym c.op.ensures) (subst (λ st. HasRoomAt (g.R.NumberedRow.op c.args.row) st ss) (sym c.station.ensures) c.requires.room) in
    room-none c.op.result.now c.station.result.now ss c.in-Err.field-0 gap room

pub returns-clause-groups : goal.returns-clause-groups
returns-clause-groups g c =
    let op = g.R.NumberedRow.op in
    let station = g.R.NumberedRow.station in
    let number = g.R.NumberedRow.number in
    let at = (rw c.as_slice.ensures.value at c.in-Ok.ensures) in
    let row = c.index_mut.ensures.value ∙ at.here c.index_mut.result.now in
    let ss = c.args.groups.now.items in
    let r = c.args.row in
    (set-more op station number c.op.result.now c.station.result.now ss c.in-Ok.place c.requires.groups at (record { op = c.index_mut.result.now.op; name = c.index_mut.result.now.name; rows = c.push_reserved.new.self }) (ap (λ s. s.op) row) (ap (λ s. s.name) row) (r ∷ [])
    (one_row op station number (op r) (station r) c.op.result.now c.station.result.now r (r ∷ []) refl refl refl c.op.ensures c.station.ensures)
    (one_behind op station number (op r) (station r) c.op.result.now c.station.result.now r (r ∷ []) (all_rows ss) refl c.op.ensures c.station.ensures c.requires.behind)
    (c.push_reserved.ensures.items ∙ ap (λ s. s.rows.items ++ r ∷ []) row)).0

pub returns-clause-rows : goal.returns-clause-rows
returns-clause-rows g c =
    let op = g.R.NumberedRow.op in
    let station = g.R.NumberedRow.station in
    let number = g.R.NumberedRow.number in
    let at = (rw c.as_slice.ensures.value at c.in-Ok.ensures) in
    let row = c.index_mut.ensures.value ∙ at.here c.index_mut.result.now in
    let ss = c.args.groups.now.items in
    let r = c.args.row in
    (set-more op station number c.op.result.now c.station.result.now ss c.in-Ok.place c.requires.groups at (record { op = c.index_mut.result.now.op; name = c.index_mut.result.now.name; rows = c.push_reserved.new.self }) (ap (λ s. s.op) row) (ap (λ s. s.name) row) (r ∷ [])
    (one_row op station number (op r) (station r) c.op.result.now c.station.result.now r (r ∷ []) refl refl refl c.op.ensures c.station.ensures)
    (one_behind op station number (op r) (station r) c.op.result.now c.station.result.now r (r ∷ []) (all_rows ss) refl c.op.ensures c.station.ensures c.requires.behind)
    (c.push_reserved.ensures.items ∙ ap (λ s. s.rows.items ++ r ∷ []) row)).1
