use Rattle.store_mem.specs.Received.{least_key}
use Rattle.store_mem.proofs.GrantedLaws.{from-found, from-gap}
use Rattle.store_mem.proofs.received.first_place.Goals as goal

pub returns-in-Ok-clause-from : goal.returns-in-Ok-clause-from
returns-in-Ok-clause-from c = from-found (least_key c.args.to.now c.args.key.now) c.args.rows.now c.in-Ok.place c.in-Ok.ensures

pub returns-in-Ok-2-clause-from : goal.returns-in-Ok-2-clause-from
returns-in-Ok-2-clause-from c = from-gap (least_key c.args.to.now c.args.key.now) c.args.rows.now c.in-Ok.place c.in-Ok.ensures
