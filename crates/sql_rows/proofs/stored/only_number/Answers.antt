use Rattle.std.proofs.Common.{◌≡◌, IfOk, map, subst, sym}
use Rattle.sqlite_value.specs.Order.{column}
use Rattle.hub_rows.specs.Keyed.{greatest}
use Rattle.sql_rows.specs.Values.{count_in}
use Rattle.sql_rows.proofs.stored.only_number.Goals as goal

pub returns-in-Ok-clause-number : goal.returns-in-Ok-clause-number
returns-in-Ok-clause-number c =
    subst (λ answer. IfOk answer (λ rows. IfOk c.number_of.result (λ n. n ≡ greatest (map (λ r. count_in (column r c.args.at)) rows.items)))) (sym c.in-Ok.is)
    (subst (λ rows. IfOk c.number_of.result (λ n. n ≡ greatest (map (λ r. count_in (column r c.args.at)) rows))) c.deref.ensures.value c.number_of.ensures)
