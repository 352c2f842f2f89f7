use Rattle.std.proofs.Common.{length}
use Rattle.repairs.proofs.Repaired.{MembersSoFar}
use Rattle.repairs.proofs.tables.repaired_members.Given as goal

abbrev pub invariant-loop-name : goal.invariant-loop-name
invariant-loop-name g l = MembersSoFar (g.R.MemberRepairs.table l.repairs l.now) l.fn.members.items l.repaired.items (length l.yielded)
