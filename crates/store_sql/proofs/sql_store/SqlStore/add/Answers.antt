use Rattle.store_sql.proofs.ChangeLaws.{finds_alone}
use Rattle.store_sql.proofs.sql_store.SqlStore.add.Goals as goal

pub returns-then-has_lost-clause-left : goal.returns-then-has_lost-clause-left
returns-then-has_lost-clause-left g c = finds_alone g.A.Store c.args.self.now
