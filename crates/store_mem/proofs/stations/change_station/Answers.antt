use Rattle.std.proofs.Common.{[], ◌∷◌, ◌++◌, ◌+◌, take, drop, ap, sym, ◌∙◌}
use Rattle.hub_rows.specs.declared.station_row.StationRow.{StationRow}
use Rattle.hub_rows.specs.Keyed.{pair_key}
use Rattle.hub_rows.proofs.ListLaws.{set_here}
use Rattle.hub_rows.proofs.NameLaws.{is_of, pair_agrees}
use Rattle.hub_rows.proofs.PlaceLaws.{map-found, map-gap}
use Rattle.store_mem.specs.Stations.{station_after}
use Rattle.store_mem.proofs.stations.change_station.Goals as goal

pub returns-in-Ok : goal.returns-in-Ok
returns-in-Ok c =
    let op = c.args.op.now in
    let st = c.args.station.now in
    let op_of : StationRow → _ = (λ r. r.op) in
    let name_of : StationRow → _ = (λ r. r.station) in
    let rows = c.args.stations.now.items in
    let i = c.in-Ok.place in
    let change = station_after c.args.change in
    let at = (rw (c.as_slice.ensures.value, c.as_str.ensures, c.as_str-2.ensures) at c.in-Ok.ensures) in
    let row = c.change_row.ensures ∙ ap change (c.index_mut.ensures.value ∙ at.here c.index_mut.result.now) in
    set_here rows i c.change_row.new.row at.in_range ∙ ap (λ r. take i rows ++ r ∷ drop (i + 1) rows) row
    ∙ sym (map-found (pair_key op_of name_of) (op ∷ st ∷ []) (is_of op_of name_of op st) (pair_agrees op_of name_of op st) change rows i at)

pub returns-in_default : goal.returns-in_default
returns-in_default c =
    let op = c.args.op.now in
    let st = c.args.station.now in
    let op_of : StationRow → _ = (λ r. r.op) in
    let name_of : StationRow → _ = (λ r. r.station) in
    let gap = (rw (c.as_slice.ensures.value, c.as_str.ensures, c.as_str-2.ensures) at c.in_default.ensures) in
    sym (map-gap (pair_key op_of name_of) (op ∷ st ∷ []) (is_of op_of name_of op st) (pair_agrees op_of name_of op st) (station_after c.args.change) c.args.stations.now.items c.in_default.field-0 gap)
