use Rattle.std.proofs.Common.{ap, sym, ◌∙◌}
use Rattle.std.specs.Prelude.{map}
use Rattle.std.specs.Option.{option_copied}
use Rattle.hub_rows.specs.Keyed.{greatest, own}
use Rattle.store_mem.specs.Groups.{all_of}
use Rattle.store_mem.proofs.UseLaws.{number, by_numbers, last_own}
use Rattle.store_mem.proofs.uses.Uses.last_number.Goals as goal
use Rattle.hub_rows.proofs.NumberLaws.{last_greatest}

pub returns-in-Some : goal.returns-in-Some
returns-in-Some c =
    let a = c.args.owner.now in
    let rows = c.rows_of_group.result.now in
    let is = c.rows_of_group.ensures in
    last_greatest number rows c.in-Some.row.now (by_numbers a rows is.mine is.sorted) (ap option_copied (sym c.in-Some.is) ∙ c.last.ensures.value)
    ∙ ap (λ rs. greatest (map number rs)) (is.rows ∙ ap (λ gs. own (λ r. r.op) a (all_of gs)) c.deref.ensures.value)
    ∙ last_own a (all_of c.args.self.now.groups.items)
