use Rattle.hub_rows.specs.Changes.{edit}
use Rattle.store_sql.specs.Store.{sql_rows, sql_view}
use Rattle.store_sql.proofs.ChangeLaws.{finds_either, flush_after}
use Rattle.store_sql.proofs.sql_store.SqlStore.put_now.Goals as goal

pub returns-in_err-add-clause-stopped : goal.returns-in_err-add-clause-stopped
returns-in_err-add-clause-stopped g c =
    let made = edit c.args.change.now.op.now c.args.change.now.edit.now (sql_rows g.A.Store c.args.self.now) in
    finds_either made (sql_view g.A.Store c.args.self.now) (sql_view g.A.Store c.add.new.self) c.in_err-add.ensures.left

pub returns-then-self-gt0-clause-stopped : goal.returns-then-self-gt0-clause-stopped
returns-then-self-gt0-clause-stopped g c =
    let made = edit c.args.change.now.op.now c.args.change.now.edit.now (sql_rows g.A.Store c.args.self.now) in
    flush_after made (sql_view g.A.Store c.args.self.now) (sql_view g.A.Store c.add.new.self) (sql_view g.A.Store c.commit.new.self) c.add.ensures.was_clean c.in_ok-add.ensures.waits c.in_ok-add.ensures.ok c.commit.ensures.stopped
