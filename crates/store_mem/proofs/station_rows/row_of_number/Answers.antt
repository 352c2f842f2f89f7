use Rattle.std.proofs.Common.{◌==◌, find, ap, sym, ◌∙◌}
use Rattle.std.specs.Str.{bytes_eq}
use Rattle.store_mem.specs.NamedGroups.{all_rows}
use Rattle.store_mem.proofs.station_rows.row_of_number.Goals as goal
use Rattle.hub_rows.proofs.NumberLaws.{found-those}

pub returns : goal.returns
returns g c =
    let station = g.R.NumberedRow.station in
    let number = g.R.NumberedRow.number in
    let n = c.args.number in
    c.row_in.ensures ∙ ap (find (λ r. number r == n)) c.rows_of.ensures.rows
    ∙ sym (found-those g.R.NumberedRow.op c.args.op.now (λ r. bytes_eq (station r) c.args.station.now) (λ r. number r == n) (all_rows c.args.groups.now))
