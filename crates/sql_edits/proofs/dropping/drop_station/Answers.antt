use Rattle.std.proofs.Common.{ap, ◌∙◌}
use Rattle.std.specs.Str.{bytes_eq}
use Rattle.hub_rows.specs.Keyed.{without}
use Rattle.hub_rows.specs.Rows.{Rows}
use Rattle.sql_rows.specs.Kept.{IsMade}
use Rattle.sql_rows.proofs.EditLaws.{edits_err, edits_fail, edits_then}
use Rattle.sql_edits.proofs.dropping.drop_station.Goals as goal

pub returns : goal.returns
returns g c =
    let op = c.args.op.now in
    let station = c.args.station.now in
    let reports : (Rows → Rows) = λ rows. record rows { reports = without (λ r. r.op) op (λ r. bytes_eq r.station station) rows.reports } in
    let readers : (Rows → Rows) = λ rows. record rows { readers = without (λ r. r.op) op (λ r. bytes_eq r.station station) rows.readers } in
    let lists : (Rows → Rows) = λ rows. record rows { local_lists = without (λ r. r.op) op (λ r. bytes_eq r.station station) rows.local_lists } in
    let reservations : (Rows → Rows) = λ rows. record rows { reservations = without (λ r. r.op) op (λ r. bytes_eq r.station station) rows.reservations } in
    let connectors : (Rows → Rows) = λ rows. record rows { connectors = without (λ r. r.op) op (λ r. bytes_eq r.station station) rows.connectors } in
    let row : (Rows → Rows) = λ rows. record rows { stations = without (λ r. r.op) op (λ r. bytes_eq r.station station) rows.stations } in
    let two = edits_then {Both = IsMade (λ rows. readers (reports rows))} c.in_ok-drop_reports.ensures.edits c.in_ok-drop_reader.ensures.edits (λ inside up one more. more ∙ ap readers one) in
    let three = edits_then {Both = IsMade (λ rows. lists (readers (reports rows)))} two c.in_ok-drop_list.ensures.edits (λ inside up one more. more ∙ ap lists one) in
    let four = edits_then {Both = IsMade (λ rows. reservations (lists (readers (reports rows))))} three c.in_ok-drop_reservations.ensures.edits (λ inside up one more. more ∙ ap reservations one) in
    let five = edits_then {Both = IsMade (λ rows. connectors (reservations (lists (readers (reports rows)))))} four c.in_ok-drop_connectors.ensures.edits (λ inside up one more. more ∙ ap connectors one) in
    record { edits = edits_then five c.drop_row.ensures.edits (λ inside up one more. more ∙ ap row one) }

pub returns-in_err-drop_reader : goal.returns-in_err-drop_reader
returns-in_err-drop_reader g c = record { edits = edits_fail c.in_ok-drop_reports.ensures.edits c.in_err-drop_reader.ensures.edits c.from_residual-in_err-drop_reader.ensures.0 }

pub returns-in_err-drop_list : goal.returns-in_err-drop_list
returns-in_err-drop_list g c =
    let two = edits_then {Both = λ _ _. Unit {0}} c.in_ok-drop_reports.ensures.edits c.in_ok-drop_reader.ensures.edits (λ inside up one more. tt) in
    record { edits = edits_fail two c.in_err-drop_list.ensures.edits c.from_residual-in_err-drop_list.ensures.0 }

pub returns-in_err-drop_reservations : goal.returns-in_err-drop_reservations
returns-in_err-drop_reservations g c =
    let two = edits_then {Both = λ _ _. Unit {0}} c.in_ok-drop_reports.ensures.edits c.in_ok-drop_reader.ensures.edits (λ inside up one more. tt) in
    let three = edits_then {Both = λ _ _. Unit {0}} two c.in_ok-drop_list.ensures.edits (λ inside up one more. tt) in
    record { edits = edits_fail three c.in_err-drop_reservations.ensures.edits c.from_residual-in_err-drop_reservations.ensures.0 }

pub returns-in_err-drop_connectors : goal.returns-in_err-drop_connectors
returns-in_err-drop_connectors g c =
    let two = edits_then {Both = λ _ _. Unit {0}} c.in_ok-drop_reports.ensures.edits c.in_ok-drop_reader.ensures.edits (λ inside up one more. tt) in
    let three = edits_then {Both = λ _ _. Unit {0}} two c.in_ok-drop_list.ensures.edits (λ inside up one more. tt) in
    let four = edits_then {Both = λ _ _. Unit {0}} three c.in_ok-drop_reservations.ensures.edits (λ inside up one more. tt) in
    record { edits = edits_fail four c.in_err-drop_connectors.ensures.edits c.from_residual-in_err-drop_connectors.ensures.0 }

pub returns-in_err-drop_reports : goal.returns-in_err-drop_reports
returns-in_err-drop_reports g c = record { edits = edits_err c.in_err-drop_reports.ensures.edits c.from_residual.ensures.0 }
