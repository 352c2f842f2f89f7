use Rattle.sql_rows.proofs.StoreLemmas.{open_is_clean}
use Rattle.sql_edits.proofs.MarkLaws.{ran_release}
use Rattle.sql_edits.proofs.batches.release.Goals as goal

pub returns : goal.returns
returns g c = record {
  releases = ran_release c.execute.result c.done.result c.execute.ensures.runs c.execute.ensures.survives (open_is_clean _ _ (g.met.S.Store.shut_if_dirty c.execute.new.self.store)) c.done.ensures.ok c.done.ensures.err;
}
