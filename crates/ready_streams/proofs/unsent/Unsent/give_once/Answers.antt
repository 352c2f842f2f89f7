-- The bytes that the stream took are the front of what waited.
use Rattle.ready_streams.proofs.GiveLaws.{gives_front, waiting_front}
use Rattle.ready_streams.proofs.unsent.Unsent.give_once.Goals as goal

pub returns-in-Ok : goal.returns-in-Ok
returns-in-Ok g c = gives_front _ _ _ _ _ _ c.in-Ok.len (waiting_front c.args.self.now _ c.first.ensures.bytes) c.in-Ok.ensures.bound c.in-Ok.ensures.bytes c.take.ensures.waits c.requires.lasts c.take.ensures.lasts
