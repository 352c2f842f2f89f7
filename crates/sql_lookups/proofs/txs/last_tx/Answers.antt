use Rattle.sql_rows.proofs.Asking.{asks_last}
use Rattle.sql_lookups.proofs.txs.last_tx.Goals as goal

pub returns : goal.returns
returns g c = record { asks = asks_last c.find_last.ensures.shows c.only_number.ensures.ok c.only_number.ensures.number (λ db n is. is) }
