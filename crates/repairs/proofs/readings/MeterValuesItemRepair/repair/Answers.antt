use Rattle.std.proofs.Common.{subst, sym}
use Rattle.json.specs.Tree.{HasNumbers}
use Rattle.json.specs.Value.{value_view}
use Rattle.repairs.proofs.Numbers.{meter_value_table_numbers}
use Rattle.repairs.proofs.readings.MeterValuesItemRepair.repair.Goals as goal

pub if_read-requires : goal.if_read-requires
if_read-requires c = subst HasNumbers (sym c.in_ok-repaired.ensures) (meter_value_table_numbers c.args.now.now (value_view c.args.value) c.requires)
