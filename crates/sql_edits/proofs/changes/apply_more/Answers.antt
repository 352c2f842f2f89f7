use Rattle.std.proofs.Common.{◌≡◌, ◌∙◌, ℕ, List, Err, Ok, Result, subst, sym}
use Rattle.sqlite.specs.Held.{state}
use Rattle.sqlite.specs.State.{State}
use Rattle.hub_rows.specs.declared.change.Change.{Change}
use Rattle.hub_rows.specs.declared.store.StoreFault.{StoreFault}
use Rattle.sql_edits.specs.Ready.{EditsFitting}
use Rattle.sql_edits.proofs.BatchLaws.{not_over}
use Rattle.sql_edits.proofs.MarkLaws.{made_more, not_released, not_undone, undone_alone, undone_whole}
use Rattle.sql_edits.proofs.changes.apply_more.Goals as goal

-- an edit by the name of its operator
named : (change : Change) {o : List ℕ} → o ≡ change.op.now → (a b : State) (r : Result (Unit {0}) StoreFault) → EditsFitting o change.edit.now a b r → EditsFitting change.op.now change.edit.now a b r
named change is a b r edits = subst (λ o. EditsFitting o change.edit.now a b r) is edits

pub returns-in-Ok-release : goal.returns-in-Ok-release
returns-in-Ok-release g c = record {
  adds = λ may. made_more c.args.change.now.op.now c.args.change.now.edit.now may c.in-Ok.ensures.marks (named c.args.change.now c.as_str.ensures (state g.S.Store c.mark.new.conn) (state g.S.Store c.make.new.conn) (Ok c.in-Ok-make.field-0) c.in-Ok-make.ensures.edits) c.in-Ok-release.ensures.releases;
}

pub returns-in-Err-release : goal.returns-in-Err-release
returns-in-Err-release g c = record {
  adds = λ may. not_released c.args.change.now.op.now c.args.change.now.edit.now may c.in-Ok.ensures.marks (named c.args.change.now c.as_str.ensures (state g.S.Store c.mark.new.conn) (state g.S.Store c.make.new.conn) (Ok c.in-Ok-make.field-0) c.in-Ok-make.ensures.edits) c.in-Err-release.ensures.releases;
}

pub returns-then-is_autocommit : goal.returns-then-is_autocommit
returns-then-is_autocommit g c = record {
  adds = λ may. undone_whole c.args.change.now.op.now c.args.change.now.edit.now may c.in-Ok.ensures.marks (named c.args.change.now c.as_str.ensures (state g.S.Store c.mark.new.conn) (state g.S.Store c.make.new.conn) (Err c.in-Err-make.fault) c.in-Err-make.ensures.edits);
}

pub returns-in-Ok-take_back : goal.returns-in-Ok-take_back
returns-in-Ok-take_back g c = record {
  adds = λ may. undone_alone c.args.change.now.op.now c.args.change.now.edit.now may c.in-Ok.ensures.marks (named c.args.change.now c.as_str.ensures (state g.S.Store c.mark.new.conn) (state g.S.Store c.make.new.conn) (Err c.in-Err-make.fault) c.in-Err-make.ensures.edits)
      (not_over c.make.new.conn.in_transaction (sym c.is_autocommit.ensures.value ∙ c.if-is_autocommit.false)) c.in-Ok-take_back.ensures.takes_back;
}

pub returns-in-Err-take_back : goal.returns-in-Err-take_back
returns-in-Err-take_back g c = record {
  adds = λ may. not_undone c.args.change.now.op.now c.args.change.now.edit.now may c.in-Ok.ensures.marks (named c.args.change.now c.as_str.ensures (state g.S.Store c.mark.new.conn) (state g.S.Store c.make.new.conn) (Err c.in-Err-make.fault) c.in-Err-make.ensures.edits)
      (not_over c.make.new.conn.in_transaction (sym c.is_autocommit.ensures.value ∙ c.if-is_autocommit.false)) c.in-Err-take_back.ensures.takes_back;
}
