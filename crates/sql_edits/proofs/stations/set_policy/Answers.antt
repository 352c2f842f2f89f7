use Rattle.std.proofs.Common.{refl, sym, ◌∙◌}
use Rattle.sqlite.specs.Held.{state}
use Rattle.hub_rows.specs.Changes.{with_policy}
use Rattle.sql_rows.proofs.RowEdits.{station_changed}
use Rattle.sql_rows.proofs.EditLaws.{edits_same, edits_then}
use Rattle.sql_edits.proofs.stations.set_policy.Goals as goal

pub returns-in-Some : goal.returns-in-Some
returns-in-Some g c =
    let old = state g.S.Store c.args.conn.now in
    let mid = state g.S.Store c.station_inside.new.conn in
    let new = state g.S.Store c.put_station.new.conn in
    record {
      edits = edits_then (edits_same c.in_ok-row.ensures.asks) c.put_station.ensures.edits
          (λ inside up same made. station_changed c.args.op.now c.args.station.now (with_policy c.args.policy c.args.interval) (λ x. refl) old.now.trees mid.now.trees new.now.trees c.in-Some.row (sym (c.in_ok-row.ensures.asks.found (λ u. (inside u).serves) up) ∙ c.in-Some.is) same made);
    }
