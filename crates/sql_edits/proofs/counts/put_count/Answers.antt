use Rattle.std.proofs.Common.{◌∷◌, ◌∙◌, [], ℤ, codes, subst, inl, refl, rules, SFits, w64}
use Rattle.std.proofs.lemmas.Int.{to_z-of_z}
use Rattle.sqlite.specs.Held.{state}
use Rattle.sqlite_value.specs.declared.value.Value.TheVariants.{Int, Text}
use Rattle.sql_tables.specs.declared.meta.TheConstants as sql_meta
use Rattle.sql_rows.specs.Kept.{IsPutIn, Ran, count_meta}
use Rattle.sql_rows.specs.TypedTables.{metas}
use Rattle.sql_rows.proofs.HubTables.{put_later}
use Rattle.sql_rows.proofs.MetaTable.{puts_count, updates_count}
use Rattle.sql_rows.proofs.EditLaws.{edits_done, edits_else, edits_failed, edits_ran, edits_update}
use Rattle.sql_edits.proofs.counts.put_count.Goals as goal

pub returns-then-branch-clause-edits : goal.returns-then-branch-clause-edits
returns-then-branch-clause-edits g c =
    let n = c.args.changes in
    let fits : SFits w64 c.in-Some.count = search rules in
    let number = to_z-of_z w64 c.in-Some.count fits ∙ c.in-Some.ensures.number in
    let ran = subst (λ (k : ℤ). Ran sql_meta.UPDATE.now (Text (codes "changes") ∷ Int k ∷ []) (state g.S.Store c.args.conn.now) (state g.S.Store c.run.new.conn) c.run.result) number c.run.ensures.ran in
    let told = c.in_ok-changed_any-in-Some.ensures in
    edits_done (IsPutIn metas (count_meta n)) _ (edits_update (IsPutIn metas (count_meta n)) (updates_count n) _ ran told.ok told.any) c.if-branch.true

pub returns-else-branch-clause-edits : goal.returns-else-branch-clause-edits
returns-else-branch-clause-edits g c =
    let n = c.args.changes in
    let fits : SFits w64 c.in-Some.count = search rules in
    let number = to_z-of_z w64 c.in-Some.count fits ∙ c.in-Some.ensures.number in
    let old = (state g.S.Store c.args.conn.now).now.trees in
    let mid = (state g.S.Store c.run.new.conn).now.trees in
    let new = (state g.S.Store c.run-else-branch.new.conn).now.trees in
    let ran = subst (λ (k : ℤ). Ran sql_meta.UPDATE.now (Text (codes "changes") ∷ Int k ∷ []) (state g.S.Store c.args.conn.now) (state g.S.Store c.run.new.conn) c.run.result) number c.run.ensures.ran in
    let then = subst (λ (k : ℤ). Ran sql_meta.PUT.now (Text (codes "changes") ∷ Int k ∷ []) (state g.S.Store c.run.new.conn) (state g.S.Store c.run-else-branch.new.conn) c.run-else-branch.result) number c.run-else-branch.ensures.ran in
    let told = c.in_ok-changed_any-in-Some.ensures in
    edits_else (IsPutIn metas (count_meta n)) _ (edits_update (IsPutIn metas (count_meta n)) (updates_count n) _ ran told.ok told.any) c.if-branch.false
    (edits_ran (puts_count n) then c.done.ensures.ok c.done.ensures.err) (put_later metas (count_meta n) old mid new (inl refl))

pub returns-in_err-changed_any-in-Some-clause-edits : goal.returns-in_err-changed_any-in-Some-clause-edits
returns-in_err-changed_any-in-Some-clause-edits g c =
    let n = c.args.changes in
    let fits : SFits w64 c.in-Some.count = search rules in
    let number = to_z-of_z w64 c.in-Some.count fits ∙ c.in-Some.ensures.number in
    let ran = subst (λ (k : ℤ). Ran sql_meta.UPDATE.now (Text (codes "changes") ∷ Int k ∷ []) (state g.S.Store c.args.conn.now) (state g.S.Store c.run.new.conn) c.run.result) number c.run.ensures.ran in
    edits_failed (updates_count n) _ ran c.in_err-changed_any-in-Some.ensures.err c.from_residual.ensures.0
