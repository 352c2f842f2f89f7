use Rattle.std.proofs.Common.{subst, sym}
use Rattle.sqlite.specs.Held.{state}
use Rattle.hub_rows.specs.declared.change.HoldingEdit.{HoldingEdit}
use Rattle.hub_rows.specs.declared.change.Edit.TheVariants.{Holdings}
use Rattle.hub_rows.specs.declared.change.HoldingEdit.TheVariants.{ReservationPut, ReservationDropped}
use Rattle.sql_edits.specs.Ready.{EditsFitting}
use Rattle.sql_rows.proofs.EditLaws.{edits_if}
use Rattle.sql_edits.proofs.changes.edit_holdings.Goals as goal

pub returns-in-ReservationPut : goal.returns-in-ReservationPut
returns-in-ReservationPut g c =
    let it = c.in-ReservationPut in
    let made = λ (e : HoldingEdit). EditsFitting c.args.op.now (Holdings e) (state g.S.Store c.args.conn.now) (state g.S.Store c.put_reservation.new.conn) c.put_reservation.result in
    record { edits = subst made (sym it.is) (subst (λ s. made (ReservationPut s it.id it.reservation)) c.as_str.ensures (edits_if c.put_reservation.ensures.edits (λ may up. (may up).0))) }

pub returns-in-ReservationDropped : goal.returns-in-ReservationDropped
returns-in-ReservationDropped g c =
    let it = c.in-ReservationDropped in
    let made = λ (e : HoldingEdit). EditsFitting c.args.op.now (Holdings e) (state g.S.Store c.args.conn.now) (state g.S.Store c.drop_reservation.new.conn) c.drop_reservation.result in
    record { edits = subst made (sym it.is) (subst (λ s. made (ReservationDropped s it.id)) c.as_str-in-ReservationDropped.ensures (edits_if c.drop_reservation.ensures.edits (λ may up. (may up).0))) }
