use Rattle.std.proofs.Common.{nat_le, take, drop, filter, ap, sym, ◌∙◌}
use Rattle.std.specs.Str.{bytes_eq}
use Rattle.std.proofs.Math.Seq.{take-length}
use Rattle.std.proofs.lemmas.List.{length-drop}
use Rattle.store_mem.specs.NamedGroups.{all_rows}
use Rattle.store_mem.proofs.station_rows.rows_from.Goals as goal
use Rattle.hub_rows.proofs.NumberLaws.{those-those}

pub returns : goal.returns
returns g c =
    let station = g.R.NumberedRow.station in
    let number = g.R.NumberedRow.number in
    let n = c.args.first in
    let rows = c.rows_of-rows.result.now in
    let place = c.place_from.result in
    ap (λ n. take n (drop place rows)) (sym (length-drop place rows)) ∙ take-length (drop place rows)
    ∙ sym c.place_from.ensures.from ∙ ap (filter (λ r. nat_le n (number r))) c.rows_of-rows.ensures.rows
    ∙ sym (those-those g.R.NumberedRow.op c.args.op.now (λ r. bytes_eq (station r) c.args.station.now) (λ r. nat_le n (number r)) (all_rows c.args.groups.now))
