use Rattle.std.proofs.Common.{◌≡◌, Ok, filter}
use Rattle.std.specs.Prelude.{⊤}
use Rattle.sqlite.specs.Held.{state}
use Rattle.hub_rows.specs.Forgetting.{may_go}
use Rattle.hub_rows.specs.Transactions.{txs_in}
use Rattle.hub_rows.specs.declared.store.StoreFault.{StoreFault}
use Rattle.sql_rows.specs.Kept.{Asks}
use Rattle.sql_lookups.specs.Forgotten.{IsNamed}
use Rattle.sql_lookups.proofs.forget.old_of.Given as goal

abbrev pub invariant-rows : goal.invariant-rows
invariant-rows g l = Asks {A = ⊤} {E = StoreFault} (state g.S.Store l.fn.conn) (state g.S.Store l.conn) (Ok tt) (λ all done.
    IsNamed (txs_in l.op l.station all.transactions) l.last × (l.gone ≡ filter (may_go l.until (txs_in l.op l.station all.transactions)) l.yielded))
