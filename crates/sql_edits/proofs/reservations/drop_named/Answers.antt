use Rattle.std.proofs.Common.{◌≡◌, Option, ap, rules, subst, sym, ◌∙◌}
use Rattle.std.specs.Prelude.{ℤ}
use Rattle.sqlite.specs.Held.{state}
use Rattle.hub_rows.specs.Changes.{edit}
use Rattle.hub_rows.specs.Rows.{Rows}
use Rattle.hub_rows.specs.Reservations.{shifted, without_named}
use Rattle.hub_rows.specs.declared.change.Edit.TheVariants.{Holdings}
use Rattle.hub_rows.specs.declared.change.HoldingEdit.TheVariants.{ReservationDropped}
use Rattle.sql_rows.specs.Kept.{Edits}
use Rattle.sql_rows.specs.TypedTables.{rows_of}
use Rattle.sql_rows.proofs.RowEdits.{none_named}
use Rattle.sql_rows.proofs.EditLaws.{edits_none}
use Rattle.sql_edits.proofs.reservations.drop_named.Goals as goal

pub returns-in-None : goal.returns-in-None
returns-in-None g c =
    let op = c.args.op.now in
    let station = c.args.station.now in
    let all = rows_of (state g.S.Store c.args.conn.now).now.trees in
    record { edits = edits_none (ap (λ l. record all { reservations = l }) (sym (ap (λ o. without_named op station o all.reservations) c.in-None.is ∙ none_named op station all.reservations))) }

pub returns-in-Some : goal.returns-in-Some
returns-in-Some g c =
    let op = c.args.op.now in
    let station = c.args.station.now in
    let named : c.new.result ≡ shifted c.in-Some.id = search rules in
    let drops : (Option ℤ → Rows → Rows) = (λ o rows. record rows { reservations = without_named op station o rows.reservations }) in
    let from = subst (λ n. Edits (edit op (Holdings (ReservationDropped station n))) (state g.S.Store c.args.conn.now) (state g.S.Store c.drop_reservation.new.conn) c.drop_reservation.result) named c.drop_reservation.ensures.edits in
    record { edits = subst (λ o. Edits (drops o) (state g.S.Store c.args.conn.now) (state g.S.Store c.drop_reservation.new.conn) c.drop_reservation.result) (sym c.in-Some.is) from }
