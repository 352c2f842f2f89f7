use Rattle.sql_edits.proofs.BatchLaws.{adds_commits, adds_fail}
use Rattle.sql_edits.proofs.Making.{never, surely}
use Rattle.sql_edits.proofs.changes.apply_now.Goals as goal

pub returns : goal.returns
returns g c = record {
  commits = adds_commits c.args.change.now.op.now c.args.change.now.edit.now c.in_ok-apply.ensures.adds c.flush.ensures.commits;
  small = c.flush.ensures.small;
}

pub returns-in_err-apply : goal.returns-in_err-apply
returns-in_err-apply g c = record {
  commits = adds_fail c.args.change.now.op.now c.args.change.now.edit.now c.in_err-apply.ensures.adds c.from_residual.ensures.0;
  small = never _ c.from_residual.result c.from_residual.ensures.0;
}
