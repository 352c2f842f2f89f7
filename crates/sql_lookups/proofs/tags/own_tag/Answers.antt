use Rattle.std.proofs.Common.{rules}
use Rattle.sql_rows.proofs.Asking.{asks_err, asks_of, asks_then}
use Rattle.sql_lookups.proofs.tags.own_tag.Goals as goal

pub returns-in_err-by_parent-in-Some : goal.returns-in_err-by_parent-in-Some
returns-in_err-by_parent-in-Some g c = record { asks = asks_err (asks_then c.in_ok-find_tag.ensures.asks c.in_err-by_parent-in-Some.ensures.asks) c.from_residual-in_err-by_parent-in-Some.ensures.0 }

pub returns-after-tag : goal.returns-after-tag
returns-after-tag g c = record { asks = asks_of (asks_then c.in_ok-find_tag.ensures.asks c.in_ok-by_parent-in-Some.ensures.asks) (λ db is. search (rules, is.0, is.1)) }
