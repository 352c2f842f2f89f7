use Rattle.hub.proofs.TwoSystems.{same_none, same_own, same_first, same_second, same_tags, same_use}
use Rattle.hub.proofs.worlds.same_lists.Goals as goal

pub returns-clause-none : goal.returns-clause-none
returns-clause-none c = same_none

pub returns-clause-own : goal.returns-clause-own
returns-clause-own c = same_own

pub returns-clause-first : goal.returns-clause-first
returns-clause-first c = same_first

pub returns-clause-second : goal.returns-clause-second
returns-clause-second c = same_second

pub returns-clause-uses : goal.returns-clause-uses
returns-clause-uses c = same_use

pub returns-clause-tags : goal.returns-clause-tags
returns-clause-tags c = same_tags
