use Rattle.std.proofs.Common.{subst, sym}
use Rattle.sqlite.specs.Held.{state}
use Rattle.hub_rows.specs.declared.change.Edit.{Edit}
use Rattle.sql_edits.specs.Ready.{EditsFitting}
use Rattle.sql_rows.proofs.EditLaws.{edits_if}
use Rattle.sql_edits.proofs.changes.make.Goals as goal

pub returns-in-Stations : goal.returns-in-Stations
returns-in-Stations g c = record {
  edits = subst (λ (e : Edit). EditsFitting c.args.op.now e (state g.S.Store c.args.conn.now) (state g.S.Store c.edit_stations.new.conn) c.edit_stations.result) (sym c.in-Stations.is) (edits_if c.edit_stations.ensures.edits (λ may up. (may up).0));
}

pub returns-in-Tags : goal.returns-in-Tags
returns-in-Tags g c = record {
  edits = subst (λ (e : Edit). EditsFitting c.args.op.now e (state g.S.Store c.args.conn.now) (state g.S.Store c.edit_tags.new.conn) c.edit_tags.result) (sym c.in-Tags.is) (edits_if c.edit_tags.ensures.edits (λ may up. (may up).0));
}

pub returns-in-Transactions : goal.returns-in-Transactions
returns-in-Transactions g c = record {
  edits = subst (λ (e : Edit). EditsFitting c.args.op.now e (state g.S.Store c.args.conn.now) (state g.S.Store c.edit_transactions.new.conn) c.edit_transactions.result) (sym c.in-Transactions.is) (edits_if c.edit_transactions.ensures.edits (λ may up. (may up).0));
}
