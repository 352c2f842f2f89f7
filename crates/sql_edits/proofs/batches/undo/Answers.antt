use Rattle.sql_rows.proofs.StoreLemmas.{open_is_clean}
use Rattle.sql_edits.proofs.BatchLaws.{ran_rollback}
use Rattle.sql_edits.proofs.batches.undo.Goals as goal

pub returns : goal.returns
returns g c = record { undoes = ran_rollback c.execute.result c.execute.ensures.runs c.execute.ensures.survives (open_is_clean _ _ (g.met.S.Store.shut_if_dirty c.execute.new.self.store)) }
