use Rattle.std.proofs.Common.{◌≡◌, drop}
use Rattle.hub_rows.specs.Keyed.{by_key, put_all}
use Rattle.hub_rows.specs.LocalLists.{entry_key}
use Rattle.holdings.specs.LocalList.{with_info}
use Rattle.holdings.proofs.local_list.put_sent.Given as goal

abbrev pub invariant-loop-entry : goal.invariant-loop-entry
invariant-loop-entry l = put_all (by_key entry_key) (with_info (drop l.entry-index l.sent)) l.entries ≡ put_all (by_key entry_key) (with_info l.sent) l.fn.entries
