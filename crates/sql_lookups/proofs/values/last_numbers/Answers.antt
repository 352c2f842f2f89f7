use Rattle.sql_lookups.proofs.ValueLaws.{asks_numbers}
use Rattle.sql_lookups.proofs.values.last_numbers.Goals as goal

pub returns : goal.returns
returns g c = record { asks = asks_numbers c.find_last.ensures.shows c.only_pair.ensures.ok c.only_pair.ensures.pair }
