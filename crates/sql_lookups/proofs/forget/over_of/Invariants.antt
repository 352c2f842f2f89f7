use Rattle.std.proofs.Common.{◌≡◌, None, Ok, filter}
use Rattle.std.specs.Prelude.{⊤}
use Rattle.sqlite.specs.Held.{state}
use Rattle.hub_rows.specs.Forgetting.{tx_goes}
use Rattle.hub_rows.specs.MeterValues.{meter_values_in}
use Rattle.hub_rows.specs.declared.store.StoreFault.{StoreFault}
use Rattle.sql_rows.specs.Kept.{Asks}
use Rattle.sql_lookups.proofs.forget.over_of.Given as goal

abbrev pub invariant-txs : goal.invariant-txs
invariant-txs g l = Asks {A = ⊤} {E = StoreFault} (state g.S.Store l.fn.conn) (state g.S.Store l.conn) (Ok tt) (λ rows done.
    l.gone ≡ filter (tx_goes l.until (meter_values_in l.op l.station None rows.meter_values)) l.yielded)
