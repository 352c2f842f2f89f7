use Rattle.std.proofs.Common.{sym, subst, ◌∙◌}
use Rattle.std.specs.List.Sorted.{IsStrictlySortedBy}
use Rattle.hub_rows.specs.Keyed.{by_key, number_key}
use Rattle.store_mem.proofs.StationRowsLaws.{rows-those, rows-sorted}
use Rattle.store_mem.proofs.station_rows.rows_of.Goals as goal

pub returns-clause-rows : goal.returns-clause-rows
returns-clause-rows g c =
    c.rows_at.ensures ∙ rows-those g.R.NumberedRow.op g.R.NumberedRow.station g.R.NumberedRow.number c.args.op.now c.args.station.now c.args.groups.now c.requires

pub returns-clause-sorted : goal.returns-clause-sorted
returns-clause-sorted g c =
    subst (IsStrictlySortedBy (by_key (number_key g.R.NumberedRow.number))) (sym c.rows_at.ensures)
    (rows-sorted g.R.NumberedRow.op g.R.NumberedRow.station g.R.NumberedRow.number c.args.op.now c.args.station.now c.args.groups.now c.requires)
