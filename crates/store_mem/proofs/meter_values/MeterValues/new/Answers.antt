use Rattle.std.proofs.Common.{sym, subst}
use Rattle.store_mem.specs.NamedGroups.{AreGrouped}
use Rattle.store_mem.proofs.NamedGroupLaws.{none_grouped}
use Rattle.store_mem.proofs.meter_values.MeterValues.new.Goals as goal

pub invariant_of-result : goal.invariant_of-result
invariant_of-result c = record {
  by_station = subst (AreGrouped (λ r. r.op) (λ r. r.station) (λ r. r.first)) (sym c.new.ensures.items) (none_grouped (λ r. r.op) (λ r. r.station) (λ r. r.first));
}
