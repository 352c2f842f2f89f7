use Rattle.std.proofs.Common.{◌≡◌, Ok, take}
use Rattle.std.specs.List.{filter_map}
use Rattle.sqlite.specs.Held.{state}
use Rattle.hub_rows.specs.Grants.{entry_by}
use Rattle.hub_rows.specs.declared.store.StoreFault.{StoreFault}
use Rattle.sql_rows.specs.Kept.{Asks}
use Rattle.sql_lookups.proofs.granted.entries.Given as goal

abbrev pub invariant-grants : goal.invariant-grants
invariant-grants g l = Asks {E = StoreFault} (state g.S.Store l.initial.conn) (state g.S.Store l.conn) (Ok l.list) (λ rows list. list ≡ filter_map (entry_by rows.tags) (take l.grant-index l.grants))
