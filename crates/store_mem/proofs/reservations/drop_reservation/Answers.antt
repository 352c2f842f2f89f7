use Rattle.std.proofs.Common.{[], ◌∷◌, ◌&&◌, Bool, sym, ◌∙◌}
use Rattle.std.specs.Str.{bytes_eq}
use Rattle.hub_rows.specs.Reservations.{is_reservation}
use Rattle.hub_rows.specs.Rows.{reservation_key}
use Rattle.hub_rows.specs.declared.reservation_row.ReservationRow.{ReservationRow}
use Rattle.hub_rows.proofs.ListLaws.{three_parts}
use Rattle.hub_rows.proofs.NameLaws.{filter-found, filter-gap}
use Rattle.store_mem.proofs.reservations.drop_reservation.Goals as goal

pub returns-in-Ok : goal.returns-in-Ok
returns-in-Ok c =
    let b = c.args.op.now in
    let st = c.args.station.now in
    let n = c.args.id in
    let t : ReservationRow → Bool = (λ r. bytes_eq r.op b && is_reservation st n r) in
    let at = (rw c.deref.ensures.value at c.in-Ok.ensures) in
    c.remove-dropped.ensures.items ∙ sym (filter-found reservation_key (b ∷ st ∷ (n ∷ []) ∷ []) t (λ r. three_parts r.op r.station b st r.id n) c.args.rows.now.items c.in-Ok.place at)

pub returns-in_default : goal.returns-in_default
returns-in_default c =
    let b = c.args.op.now in
    let st = c.args.station.now in
    let n = c.args.id in
    let t : ReservationRow → Bool = (λ r. bytes_eq r.op b && is_reservation st n r) in
    let gap = (rw c.deref.ensures.value at c.in_default.ensures) in
    sym (filter-gap reservation_key (b ∷ st ∷ (n ∷ []) ∷ []) t (λ r. three_parts r.op r.station b st r.id n) c.args.rows.now.items c.in_default.field-0 gap)
