use Rattle.store_mem.proofs.FromLaws.{from-found, from-gap}
use Rattle.store_mem.proofs.station_rows.place_from.Goals as goal

pub returns-in-Ok-clause-from : goal.returns-in-Ok-clause-from
returns-in-Ok-clause-from g c = from-found g.R.NumberedRow.number c.args.first c.args.rows.now c.in-Ok.place c.in-Ok.ensures

pub returns-in-Ok-2-clause-from : goal.returns-in-Ok-2-clause-from
returns-in-Ok-2-clause-from g c = from-gap g.R.NumberedRow.number c.args.first c.args.rows.now c.in-Ok.place c.in-Ok.ensures
