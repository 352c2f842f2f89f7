use Rattle.turn_hub.proofs.turn_hub.TurnHub.end_turn.Goals as goal

pub returns-clause-journaled : goal.returns-clause-journaled
returns-clause-journaled g c = λ small is_hosted events was. c.settle.ensures.journaled is_hosted events (c.in_ok-write_turn.ensures.first small is_hosted events was)
