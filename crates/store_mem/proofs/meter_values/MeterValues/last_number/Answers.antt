use Rattle.std.proofs.Common.{ap, sym, ◌∙◌}
use Rattle.std.specs.Option.{option_copied}
use Rattle.store_mem.specs.NamedGroups.{all_rows}
use Rattle.store_mem.proofs.NewRows.{last-reading}
use Rattle.store_mem.proofs.meter_values.MeterValues.last_number.Goals as goal

pub last_number-requires : goal.last_number-requires
last_number-requires c =
    (last-reading c.args.op.now c.args.station.now (all_rows c.args.self.now.rows.items) c.requires c.rows_of.result.now c.rows_of.ensures c.in-Some.row.now (ap option_copied (sym c.in-Some.is) ∙ c.last.ensures.value)).1

pub returns-in-Some : goal.returns-in-Some
returns-in-Some c =
    c.last_number.ensures
    ∙ sym (last-reading c.args.op.now c.args.station.now (all_rows c.args.self.now.rows.items) c.requires c.rows_of.result.now c.rows_of.ensures c.in-Some.row.now (ap option_copied (sym c.in-Some.is) ∙ c.last.ensures.value)).0
