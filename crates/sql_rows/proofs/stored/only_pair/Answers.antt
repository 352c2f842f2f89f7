use Rattle.std.proofs.Common.{◌≡◌, IfOk, option_map, subst, sym}
use Rattle.hub_rows.specs.Keyed.{first}
use Rattle.sql_rows.specs.Values.{numbers_in}
use Rattle.sql_rows.proofs.stored.only_pair.Goals as goal

pub returns-in-Ok-clause-pair : goal.returns-in-Ok-clause-pair
returns-in-Ok-clause-pair c =
    subst (λ answer. IfOk answer (λ rows. IfOk c.pair_of.result (λ pair. pair ≡ option_map numbers_in (first rows.items)))) (sym c.in-Ok.is)
    (subst (λ rows. IfOk c.pair_of.result (λ pair. pair ≡ option_map numbers_in (first rows))) c.deref.ensures.value c.pair_of.ensures)
