use Rattle.std.proofs.Common.{rules}
use Rattle.store_mem.proofs.NewRows.{are_values, values_behind, values_fit}
use Rattle.store_mem.proofs.meter_values.MeterValues.add.Goals as goal

pub numbered-requires : goal.numbered-requires
numbered-requires c = values_fit _ c.args.first c.args.values.now (search rules) c.requires

pub append_rows-requires-clause-new : goal.append_rows-requires-clause-new
append_rows-requires-clause-new c = are_values c.args.op.now c.args.station.now c.args.first c.args.values.now c.in_ok-rows.rows.items c.in_ok-rows.ensures

pub append_rows-requires-clause-behind : goal.append_rows-requires-clause-behind
append_rows-requires-clause-behind c =
    values_behind c.args.op.now c.args.station.now c.args.first c.args.values.now c.in_ok-rows.rows.items c.args.self.now.rows.items c.in_ok-rows.ensures (search rules) c.args.self.now.by_station c.requires
