use Rattle.std.proofs.Common.{◌≡◌, drop}
use Rattle.operator_cmds.specs.LocalList.{repeats_key}
use Rattle.operator_cmds.proofs.RepeatedKeys.{repeats_after}
use Rattle.operator_cmds.proofs.local_list.repeats_key.Given as goal

abbrev pub invariant-loop-entry : goal.invariant-loop-entry
invariant-loop-entry l = repeats_after l.keys (drop l.entry-index l.entries) ≡ repeats_key l.entries
