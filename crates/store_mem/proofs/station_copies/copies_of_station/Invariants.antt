use Rattle.std.proofs.Common.{◌≡◌, ◌++◌, drop}
use Rattle.std.specs.Str.{bytes_eq}
use Rattle.hub_rows.specs.Keyed.{those}
use Rattle.store_mem.proofs.station_copies.copies_of_station.Given as goal

abbrev pub invariant-loop-row : goal.invariant-loop-row
invariant-loop-row g l =
    l.list ++ those g.R.NamedRow.op l.op (λ r. bytes_eq (g.R.NamedRow.name r) l.station) (drop l.row-index l.rows)
    ≡ those g.R.NamedRow.op l.op (λ r. bytes_eq (g.R.NamedRow.name r) l.station) l.rows
