use Rattle.std.proofs.Common.{[], ◌∷◌, ◌&&◌, Bool, Some, ap, sym, ◌∙◌}
use Rattle.std.specs.Option.{option_map}
use Rattle.std.specs.Str.{bytes_eq}
use Rattle.hub_rows.specs.Reservations.{is_reservation}
use Rattle.hub_rows.specs.Rows.{reservation_key}
use Rattle.hub_rows.specs.declared.reservation_row.ReservationRow.{ReservationRow}
use Rattle.hub_rows.proofs.ListLaws.{three_parts}
use Rattle.hub_rows.proofs.PlaceLaws.{find-found, find-gap}
use Rattle.store_mem.proofs.reservations.reserved_until.Goals as goal

pub returns-in-Ok : goal.returns-in-Ok
returns-in-Ok c =
    let b = c.args.op.now in
    let st = c.args.station.now in
    let n = c.args.id in
    let t : ReservationRow → Bool = (λ r. bytes_eq r.op b && is_reservation st n r) in
    let at = c.in-Ok.ensures in
    let row = c.index-rows-place.result in
    ap (λ r. Some r.reservation.expiry) (at.here row)
    ∙ sym (ap (option_map (λ r. r.reservation.expiry)) (find-found reservation_key (b ∷ st ∷ (n ∷ []) ∷ []) t (λ r. three_parts r.op r.station b st r.id n) c.args.rows.now c.in-Ok.place at))

pub returns-in-Err : goal.returns-in-Err
returns-in-Err c =
    let b = c.args.op.now in
    let st = c.args.station.now in
    let n = c.args.id in
    let t : ReservationRow → Bool = (λ r. bytes_eq r.op b && is_reservation st n r) in
    sym (ap (option_map (λ r. r.reservation.expiry)) (find-gap reservation_key (b ∷ st ∷ (n ∷ []) ∷ []) t (λ r. three_parts r.op r.station b st r.id n) c.args.rows.now c.in-Err.field-0 c.in-Err.ensures))
