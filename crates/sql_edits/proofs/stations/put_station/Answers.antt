use Rattle.std.proofs.Common.{◌≡◌, None, Some, sym, subst}
use Rattle.sqlite.specs.Held.{state}
use Rattle.hub_rows.specs.Keyed.{by_key, put}
use Rattle.hub_rows.specs.Rows.{station_key}
use Rattle.hub_rows.specs.declared.station_row.StationRow.{StationRow}
use Rattle.sql_rows.specs.Kept.{Edits}
use Rattle.sql_edits.proofs.stations.put_station.Goals as goal

pub returns-in-None : goal.returns-in-None
returns-in-None g c =
    let row = c.args.row.now in
    let registered = c.registration-registered in
    let given : StationRow = record { op = c.as_str-op.result.now; station = c.as_str-station.result.now; policy = registered.result.policy; interval = registered.result.interval; state = registered.result.state; boot = None } in
    let same_row : given ≡ row = (λ i. record { op = c.as_str-op.ensures i; station = c.as_str-station.ensures i; policy = (registered.ensures i).policy; interval = (registered.ensures i).interval; state = (registered.ensures i).state; boot = sym c.in-None.is i }) in
    record { edits = subst (λ (x : StationRow). Edits (λ rows. record rows { stations = put (by_key station_key) x rows.stations }) (state g.S.Store c.args.conn.now) (state g.S.Store c.put_unbooted.new.conn) c.put_unbooted.result) same_row c.put_unbooted.ensures.edits }

pub returns-in-Some : goal.returns-in-Some
returns-in-Some g c =
    let row = c.args.row.now in
    let registered = c.registration-registered in
    let given : StationRow = record { op = c.as_str-op.result.now; station = c.as_str-station.result.now; policy = registered.result.policy; interval = registered.result.interval; state = registered.result.state; boot = Some c.in-Some.boot } in
    let same_row : given ≡ row = (λ i. record { op = c.as_str-op.ensures i; station = c.as_str-station.ensures i; policy = (registered.ensures i).policy; interval = (registered.ensures i).interval; state = (registered.ensures i).state; boot = sym c.in-Some.is i }) in
    record { edits = subst (λ (x : StationRow). Edits (λ rows. record rows { stations = put (by_key station_key) x rows.stations }) (state g.S.Store c.args.conn.now) (state g.S.Store c.put_booted.new.conn) c.put_booted.result) same_row c.put_booted.ensures.edits }
