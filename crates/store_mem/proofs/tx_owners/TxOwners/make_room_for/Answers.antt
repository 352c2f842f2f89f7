use Rattle.store_mem.proofs.tx_owners.TxOwners.make_room_for.Goals as goal

pub invariant_of-self : goal.invariant_of-self
invariant_of-self c = record { by_station = (c.make_room_at.ensures.grouped (λ r. r.op) (λ r. r.station) (λ r. r.number) c.args.self.now.by_station).0 }

pub returns-in-Some-clause-rows : goal.returns-in-Some-clause-rows
returns-in-Some-clause-rows c = (c.make_room_at.ensures.grouped (λ r. r.op) (λ r. r.station) (λ r. r.number) c.args.self.now.by_station).1
