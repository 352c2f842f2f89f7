use Rattle.std.proofs.Common.{subst, ◌+◌, ◌≤◌}
use Rattle.turn_hub.specs.Journals.{events_of}
use Rattle.turn_hub.proofs.turn_hub.TurnHub.begin_line.Goals as goal

pub returns-in-Ok-clause-few : goal.returns-in-Ok-clause-few
returns-in-Ok-clause-few g c = λ n up. record {
  events = c.in-Ok.ensures.few n (subst (λ journal. events_of journal ≤ n + 1) c.in-Some.is up.events);
  changes = up.changes;
  on_record = up.on_record;
}

pub returns-in-Err-NoMemory-clause-few : goal.returns-in-Err-NoMemory-clause-few
returns-in-Err-NoMemory-clause-few g c = λ n up. record {
  events = c.begin.ensures.few n (subst (λ journal. events_of journal ≤ n + 1) c.in-Some.is up.events);
  changes = up.changes;
  on_record = up.on_record;
}

pub returns-in-Err-Journal-clause-few : goal.returns-in-Err-Journal-clause-few
returns-in-Err-Journal-clause-few g c = λ n up. record {
  events = c.begin.ensures.few n (subst (λ journal. events_of journal ≤ n + 1) c.in-Some.is up.events);
  changes = up.changes;
  on_record = up.on_record;
}
