use Rattle.std.proofs.Common.{subst, subst₂, sym}
use Rattle.sqlite.specs.Held.{state}
use Rattle.hub_rows.specs.Changes.{edit}
use Rattle.hub_rows.specs.declared.change.TagEdit.{TagEdit}
use Rattle.hub_rows.specs.declared.change.Edit.TheVariants.{Tags}
use Rattle.hub_rows.specs.declared.change.TagEdit.TheVariants.{TagPut, TagDropped, GrantPut, GrantDropped}
use Rattle.sql_rows.specs.Kept.{Edits}
use Rattle.sql_edits.proofs.changes.edit_tags.Goals as goal

pub returns-in-TagPut : goal.returns-in-TagPut
returns-in-TagPut g c =
    let it = c.in-TagPut in
    let made = λ (e : TagEdit). Edits (edit c.args.op.now (Tags e)) (state g.S.Store c.args.conn.now) (state g.S.Store c.put_tag.new.conn) c.put_tag.result in
    record { edits = subst made (sym it.is) (subst (λ k. made (TagPut k it.tag)) c.as_str.ensures c.put_tag.ensures.edits) }

pub returns-in-TagDropped : goal.returns-in-TagDropped
returns-in-TagDropped g c =
    let it = c.in-TagDropped in
    let made = λ (e : TagEdit). Edits (edit c.args.op.now (Tags e)) (state g.S.Store c.args.conn.now) (state g.S.Store c.drop_tag.new.conn) c.drop_tag.result in
    record { edits = subst made (sym it.is) (subst (λ k. made (TagDropped k)) c.as_str-in-TagDropped.ensures c.drop_tag.ensures.edits) }

pub returns-in-GrantPut : goal.returns-in-GrantPut
returns-in-GrantPut g c =
    let it = c.in-GrantPut in
    let made = λ (e : TagEdit). Edits (edit c.args.op.now (Tags e)) (state g.S.Store c.args.conn.now) (state g.S.Store c.put_grant.new.conn) c.put_grant.result in
    record { edits = subst made (sym it.is) (subst₂ (λ k to. made (GrantPut k to it.until)) c.as_str-in-GrantPut.ensures c.as_str-in-GrantPut-2.ensures c.put_grant.ensures.edits) }

pub returns-in-GrantDropped : goal.returns-in-GrantDropped
returns-in-GrantDropped g c =
    let it = c.in-GrantDropped in
    let made = λ (e : TagEdit). Edits (edit c.args.op.now (Tags e)) (state g.S.Store c.args.conn.now) (state g.S.Store c.drop_grant.new.conn) c.drop_grant.result in
    record { edits = subst made (sym it.is) (subst₂ (λ k to. made (GrantDropped k to)) c.as_str-in-GrantDropped.ensures c.as_str-in-GrantDropped-2.ensures c.drop_grant.ensures.edits) }
