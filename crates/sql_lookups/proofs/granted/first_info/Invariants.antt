use Rattle.std.proofs.Common.{◌≡◌, Ok, [], take}
use Rattle.std.specs.List.{filter_map}
use Rattle.sqlite.specs.Held.{state}
use Rattle.hub_rows.specs.Grants.{info_by}
use Rattle.hub_rows.specs.declared.store.StoreFault.{StoreFault}
use Rattle.sql_rows.specs.Kept.{Asks}
use Rattle.sql_lookups.proofs.granted.first_info.Given as goal

abbrev pub invariant-grants : goal.invariant-grants
invariant-grants g l = Asks {E = StoreFault} (state g.S.Store l.initial.conn) (state g.S.Store l.conn) (Ok []) (λ rows none. filter_map (info_by rows.tags) (take l.grant-index l.grants) ≡ none)
