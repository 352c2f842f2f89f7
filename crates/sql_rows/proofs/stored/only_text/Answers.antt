use Rattle.std.proofs.Common.{◌≡◌, IfOk, option_map, subst, sym}
use Rattle.hub_rows.specs.Keyed.{first}
use Rattle.sql_rows.specs.Values.{first_text}
use Rattle.sql_rows.proofs.stored.only_text.Goals as goal

pub returns-in-Ok-clause-text : goal.returns-in-Ok-clause-text
returns-in-Ok-clause-text c =
    subst (λ answer. IfOk answer (λ rows. IfOk c.text_of.result (λ text. text ≡ option_map first_text (first rows.items)))) (sym c.in-Ok.is)
    (subst (λ rows. IfOk c.text_of.result (λ text. text ≡ option_map first_text (first rows))) c.deref.ensures.value c.text_of.ensures)
