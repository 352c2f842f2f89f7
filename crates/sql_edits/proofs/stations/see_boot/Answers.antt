use Rattle.std.proofs.Common.{◌≡◌, Some, refl, sym, ap, ◌∙◌}
use Rattle.sqlite.specs.Held.{state}
use Rattle.hub_rows.specs.Changes.{with_boot}
use Rattle.hub_rows.specs.declared.station_row.StationRow.{StationRow}
use Rattle.hub_rows.specs.Keyed.{by_key, put}
use Rattle.hub_rows.specs.Rows.{station_key}
use Rattle.sql_rows.specs.TypedTables.{rows_of}
use Rattle.sql_rows.proofs.RowEdits.{station_changed}
use Rattle.sql_rows.proofs.EditLaws.{edits_same, edits_then}
use Rattle.sql_edits.proofs.stations.see_boot.Goals as goal

pub returns-in-Some : goal.returns-in-Some
returns-in-Some g c =
    let boot = c.args.boot.now in
    let row = c.in-Some.row in
    let old = state g.S.Store c.args.conn.now in
    let mid = state g.S.Store c.station_inside.new.conn in
    let new = state g.S.Store c.put_booted.new.conn in
    let given : StationRow = record { op = c.as_str-op.result.now; station = c.as_str-station.result.now; policy = row.policy; interval = row.interval; state = c.args.answered; boot = Some boot } in
    let same_row : given ≡ with_boot boot c.args.answered row = (λ i. record { op = c.as_str-op.ensures i; station = c.as_str-station.ensures i; policy = row.policy; interval = row.interval; state = c.args.answered; boot = Some boot }) in
    record {
      edits = edits_then (edits_same c.in_ok-row.ensures.asks) c.put_booted.ensures.edits
          (λ inside up same made. station_changed c.args.op.now c.args.station.now (with_boot boot c.args.answered) (λ x. refl) old.now.trees mid.now.trees new.now.trees row (sym (c.in_ok-row.ensures.asks.found (λ u. (inside u).serves) up) ∙ c.in-Some.is) same
          (made ∙ ap (λ (x : StationRow). record (rows_of mid.now.trees) { stations = put (by_key station_key) x (rows_of mid.now.trees).stations }) same_row));
    }
