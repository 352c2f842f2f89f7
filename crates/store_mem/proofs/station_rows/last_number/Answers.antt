use Rattle.std.proofs.Common.{ap, sym, ◌∙◌}
use Rattle.std.specs.Option.{option_copied}
use Rattle.store_mem.proofs.station_rows.last_number.Goals as goal
use Rattle.hub_rows.proofs.NumberLaws.{last_greatest}

pub returns-in-Some : goal.returns-in-Some
returns-in-Some g c =
    c.number.ensures ∙ last_greatest g.R.NumberedRow.number c.args.rows.now c.in-Some.row.now c.requires (ap option_copied (sym c.in-Some.is) ∙ c.last.ensures.value)
