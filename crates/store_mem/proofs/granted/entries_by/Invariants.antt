use Rattle.std.proofs.Common.{◌≡◌, ◌++◌, drop}
use Rattle.std.specs.List.{filter_map}
use Rattle.hub_rows.specs.Grants.{entry_by}
use Rattle.store_mem.specs.Groups.{all_of}
use Rattle.store_mem.proofs.granted.entries_by.Given as goal

abbrev pub invariant-loop-row : goal.invariant-loop-row
invariant-loop-row l = l.list ++ filter_map (λ r. entry_by (all_of l.tags.groups.items) r.grant) (drop l.row-index l.rows) ≡ filter_map (λ r. entry_by (all_of l.tags.groups.items) r.grant) l.rows
