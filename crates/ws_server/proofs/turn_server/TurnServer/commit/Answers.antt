use Rattle.ws_server.proofs.turn_server.TurnServer.commit.Goals as goal

pub returns-in-Ok-clause-ends : goal.returns-in-Ok-clause-ends
returns-in-Ok-clause-ends g c = record {
  was_clean = c.in-Ok.ensures.was_clean;
  world = c.in-Ok.ensures.world;
  kept = c.in-Ok.ensures.kept;
  journaled = c.in-Ok.ensures.journaled;
}
