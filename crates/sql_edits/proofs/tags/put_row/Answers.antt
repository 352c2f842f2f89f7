use Rattle.sqlite.specs.Held.{state}
use Rattle.hub_rows.specs.Changes.{edit, tag_row}
use Rattle.hub_rows.specs.declared.change.Edit.TheVariants.{Tags}
use Rattle.hub_rows.specs.declared.change.TagEdit.TheVariants.{TagPut}
use Rattle.sql_rows.specs.Kept.{IsMade}
use Rattle.sql_rows.proofs.HubTables.{made_later}
use Rattle.sql_rows.proofs.TagTables.{adds_tag, puts_tag}
use Rattle.sql_rows.proofs.EditLaws.{edits_add, edits_done, edits_else, edits_failed, edits_ran}
use Rattle.sql_edits.proofs.tags.put_row.Goals as goal

pub returns-then-branch : goal.returns-then-branch
returns-then-branch g c =
    let row = tag_row c.args.op.now c.args.key.now c.args.tag.now in
    let Puts = IsMade (edit c.args.op.now (Tags (TagPut c.args.key.now c.args.tag.now))) in
    record { edits = edits_done Puts _ (edits_add (adds_tag row) _ c.run_row.ensures.ran c.in_ok-added.ensures.ok) c.if-branch.true }

pub returns-else-branch : goal.returns-else-branch
returns-else-branch g c =
    let row = tag_row c.args.op.now c.args.key.now c.args.tag.now in
    let puts = edit c.args.op.now (Tags (TagPut c.args.key.now c.args.tag.now)) in
    let old = (state g.S.Store c.args.conn.now).now.trees in
    let mid = (state g.S.Store c.run_row.new.conn).now.trees in
    let new = (state g.S.Store c.run_row-else-branch.new.conn).now.trees in
    record {
      edits = edits_else (IsMade puts) _ (edits_add (adds_tag row) _ c.run_row.ensures.ran c.in_ok-added.ensures.ok) c.if-branch.false
          (edits_ran (puts_tag row) c.run_row-else-branch.ensures.ran c.done.ensures.ok c.done.ensures.err) (made_later puts old mid new);
    }

pub returns-in_err-added : goal.returns-in_err-added
returns-in_err-added g c = record { edits = edits_failed (adds_tag (tag_row c.args.op.now c.args.key.now c.args.tag.now)) _ c.run_row.ensures.ran c.in_err-added.ensures.err c.from_residual.ensures.0 }
