use Rattle.sql_rows.proofs.Asking.{asks_err}
use Rattle.sql_lookups.proofs.granted.entry_of.Goals as goal

pub returns-in_err-clone-in-Some : goal.returns-in_err-clone-in-Some
returns-in_err-clone-in-Some g c = record { asks = asks_err c.in_ok-info.ensures.asks c.from_residual-in_err-clone-in-Some.ensures.0 }

pub returns-in_err-clone-in-Some-2 : goal.returns-in_err-clone-in-Some-2
returns-in_err-clone-in-Some-2 g c = record { asks = asks_err c.in_ok-info.ensures.asks c.from_residual-in_err-clone-in-Some-2.ensures.0 }
