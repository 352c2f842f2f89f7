-- What was given before, and what was added then.
use Rattle.ready_streams.proofs.GiveLaws.{adds_none, adds_tried}
use Rattle.ready_streams.proofs.unsent.Unsent.add.Goals as goal

pub returns-then-self : goal.returns-then-self
returns-then-self g c = adds_none _ _ _ _ _ _ _ c.make_room.ensures (λ is. cc) (λ is. c.if-self.true)

pub returns-in-Some : goal.returns-in-Some
returns-in-Some g c = adds_tried _ _ _ _ _ _ _ _ _ c.if-count-room.true c.make_room.ensures c.if-self.false c.append.ensures.lasts c.append.ensures.ok c.append.ensures.counted c.append.ensures.err c.append.ensures.memory
