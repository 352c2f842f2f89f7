use Rattle.store_mem.proofs.StartLaws.{not_found}
use Rattle.store_mem.proofs.starts.first_place.Goals as goal

pub returns-in-Ok : goal.returns-in-Ok
returns-in-Ok c = absurd (not_found c.args.start.now c.args.rows.now c.in-Ok.place c.in-Ok.ensures)
