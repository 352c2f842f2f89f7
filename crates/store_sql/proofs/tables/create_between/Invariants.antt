use Rattle.sqlite_trees.specs.Tree.{Trees}
use Rattle.sqlite.specs.Held.{state}
use Rattle.sql_tables.specs.Opening.{tables_at}
use Rattle.sql_rows.specs.Opening.{IsCutAs, IsPart}
use Rattle.store_sql.proofs.tables.create_between.Given as goal

abbrev pub invariant-forms : goal.invariant-forms
invariant-forms g l = IsPart g.S.Store l.initial.tx l.tx
    × ((rows : Trees) → IsCutAs l.from (tables_at l.from) rows (state g.S.Store l.initial.tx.conn.now) → IsCutAs l.form (tables_at l.form) rows (state g.S.Store l.tx.conn.now))
