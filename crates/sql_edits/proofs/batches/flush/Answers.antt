use Rattle.sqlite.specs.Held.{state}
use Rattle.sql_rows.proofs.EditLaws.{edits_also}
use Rattle.sql_rows.proofs.MetaTable.{count_put, metas_made}
use Rattle.sql_edits.proofs.BatchLaws.{commits_err, commits_then}
use Rattle.sql_edits.proofs.Making.{never, surely}
use Rattle.sql_edits.specs.Batches.{IsCounted, same_rows}
use Rattle.sql_edits.proofs.batches.flush.Goals as goal

pub returns : goal.returns
returns g c =
    let old = (state g.S.Store c.args.conn.now).now.trees in
    let mid = (state g.S.Store c.put_count.new.conn).now.trees in
    record {
      commits = commits_then {A = Unit {0}} {E = Unit {0}} {x = tt} (edits_also {Two = IsCounted same_rows c.args.changes} c.in_ok-put_count.ensures.edits (λ inside up put. record { rows = metas_made old mid put.frame; counted = count_put c.args.changes old mid put })) c.commit.ensures.commits;
      small = surely c.commit.result c.in_ok-put_count.ensures.small;
    }

pub returns-in_err-put_count : goal.returns-in_err-put_count
returns-in_err-put_count g c = record { commits = commits_err c.in_err-put_count.ensures.edits c.from_residual.ensures.0; small = never _ c.from_residual.result c.from_residual.ensures.0 }
