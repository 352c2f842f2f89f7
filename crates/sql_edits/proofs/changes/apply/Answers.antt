use Rattle.std.proofs.Common.{subst}
use Rattle.sqlite.specs.Held.{state}
use Rattle.sql_edits.specs.Ready.{EditsFitting}
use Rattle.sql_edits.proofs.BatchLaws.{adds_err, adds_then}
use Rattle.sql_edits.proofs.changes.apply.Goals as goal

pub returns : goal.returns
returns g c = record {
  adds = λ ready.
      adds_then c.args.change.now.op.now c.args.change.now.edit.now ready c.in_ok-begin.ensures.begins
      (subst (λ o. EditsFitting o c.args.change.now.edit.now (state g.S.Store c.begin.new.conn) (state g.S.Store c.make.new.conn) c.make.result) c.as_str.ensures c.make.ensures.edits);
}

pub returns-in_err-begin : goal.returns-in_err-begin
returns-in_err-begin g c = record { adds = λ ready. adds_err c.args.change.now.op.now c.args.change.now.edit.now ready c.in_err-begin.ensures.begins c.from_residual.ensures.0 }
