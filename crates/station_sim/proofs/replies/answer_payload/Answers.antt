use Rattle.json_data.specs.View.{view}
use Rattle.station_sim.proofs.Writable.{writable_answer}
use Rattle.station_sim.proofs.replies.answer_payload.Goals as goal

pub returns-clause-writable : goal.returns-clause-writable
returns-clause-writable c = writable_answer c.args.session.now (view c.args.payload.now) c.args.answer _ c.in_ok-payload.ensures
