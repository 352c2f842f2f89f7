use Rattle.std.proofs.Common.{◌≡◌, drop}
use Rattle.ocpp_payload.specs.Holds.{first_bad}
use Rattle.operator_cmds.specs.LocalList.{bad_entry}
use Rattle.operator_cmds.proofs.local_list.first_bad.Given as goal

abbrev pub invariant-loop-entry : goal.invariant-loop-entry
invariant-loop-entry l = first_bad (bad_entry l.update) (drop l.entry-index l.entries) ≡ first_bad (bad_entry l.update) l.entries
