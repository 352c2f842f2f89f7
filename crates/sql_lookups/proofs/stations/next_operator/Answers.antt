use Rattle.sql_rows.proofs.Asking.{asks_text}
use Rattle.sql_lookups.proofs.stations.next_operator.Goals as goal

pub returns : goal.returns
returns g c = record { asks = asks_text c.find_next_operator.ensures.shows c.only_text.ensures.ok c.only_text.ensures.text (λ db text is. is) }
