use Rattle.std.proofs.Common.{◌≡◌}
use Rattle.hub_rows.specs.Keyed.{by_key, put_all}
use Rattle.hub_rows.specs.LocalLists.{entry_key}
use Rattle.holdings.specs.LocalList.{not_named}
use Rattle.holdings.proofs.local_list.put_kept.Given as goal

abbrev pub invariant-loop-entry : goal.invariant-loop-entry
invariant-loop-entry l = l.entries ≡ put_all (by_key entry_key) (not_named l.sent l.yielded) l.fn.entries
