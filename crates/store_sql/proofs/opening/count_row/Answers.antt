use Rattle.sqlite.specs.Held.{state}
use Rattle.sql_rows.specs.Kept.{is_count}
use Rattle.sql_rows.specs.TypedTables.{metas}
use Rattle.sql_rows.proofs.Calls.{first_finds}
use Rattle.store_sql.proofs.opening.count_row.Goals as goal

pub returns-clause-found : goal.returns-clause-found
returns-clause-found g c = λ serving up.
    first_finds (λ v. v.items) metas is_count (state g.S.Store c.args.conn.now).now.trees c.count_rows.result c.first_row.result c.first_row.ensures.ok c.first_row.ensures.row (c.count_rows.ensures.shown serving up)
