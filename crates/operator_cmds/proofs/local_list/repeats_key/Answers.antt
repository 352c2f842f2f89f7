use Rattle.std.specs.BTreeSet.{Updates, contains}
use Rattle.std.specs.Cmp.Lexicographic.{slice_cmp}
use Rattle.std.specs.Ordering.{nat_cmp}
use Rattle.std.proofs.Common.{◌≡◌, ◌∷◌, suc, true, false, ◌||◌, ap, sym, subst, ◌∙◌, drop, drop-cons, add-one}
use Rattle.ocpp_types.specs.TagKey.{key_of}
use Rattle.operator_cmds.specs.LocalList.{repeats_key}
use Rattle.operator_cmds.proofs.RepeatedKeys.{has_key, none_has, repeats_after, repeats_more, was_absent}
use Rattle.operator_cmds.proofs.local_list.repeats_key.Goals as goal

pub loop-entry-init : goal.loop-entry-init
loop-entry-init c = ap (λ b. b || repeats_key c.args.entries.now) (none_has c.new-keys.result c.args.entries.now c.new-keys.ensures.empty)

pub loop-entry-preserved : goal.loop-entry-preserved
loop-entry-preserved c =
    let es = c.args.entries.now in
    let i = c.loop-entry.entry-index in
    let e = c.entry-item.result in
    let old = c.loop-entry.keys in
    let new = c.insert.new.self in
    let key = c.in_ok-key.ensures ∙ ap key_of c.as_str.ensures in
    let added = subst (λ k. Updates (slice_cmp nat_cmp) old new k true) key c.in_ok-insert.ensures.updates in
    let absent : has_key old e ≡ false = ap (contains (slice_cmp nat_cmp) old) (sym key) ∙ was_absent _ _ c.in_ok-insert.ensures.added c.if-not-branch.false in
    ap (λ n. repeats_after new (drop n es)) (add-one i)
    ∙ repeats_more old new e added (drop (suc i) es) absent
    ∙ ap (λ x. repeats_after old (x ∷ drop (suc i) es)) c.entry-item.is
    ∙ ap (repeats_after old) (sym (drop-cons es i e c.loop-entry-test.true))
    ∙ c.loop-entry.invariant
