-- One write after another.
use Rattle.ready_streams.proofs.GiveLaws.{gives_nothing, gives_more}
use Rattle.ready_streams.proofs.unsent.Unsent.give.Goals as goal

pub loop-init : goal.loop-init
loop-init g c = gives_nothing _ _

pub loop-preserved : goal.loop-preserved
loop-preserved g c = gives_more _ _ _ _ _ _ c.loop.invariant c.if-self-2.false c.give_once.ensures
