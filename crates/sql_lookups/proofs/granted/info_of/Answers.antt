use Rattle.std.proofs.Common.{rules}
use Rattle.sql_rows.proofs.Asking.{asks_err, asks_of}
use Rattle.sql_lookups.proofs.granted.info_of.Goals as goal

pub returns-in_err-clone-in-Some : goal.returns-in_err-clone-in-Some
returns-in_err-clone-in-Some g c = record { asks = asks_err c.in_ok-info.ensures.asks c.from_residual-in_err-clone-in-Some.ensures.0 }

pub returns-in_ok-clone-in-Some : goal.returns-in_ok-clone-in-Some
returns-in_ok-clone-in-Some g c = record { asks = asks_of c.in_ok-info.ensures.asks (λ db is. search (rules, is)) }
