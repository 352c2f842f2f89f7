use Rattle.std.specs.BTreeSet.{Updates, contains}
use Rattle.std.specs.Cmp.Lexicographic.{slice_cmp}
use Rattle.std.specs.Ordering.{nat_cmp}
use Rattle.std.proofs.Common.{◌∷◌, suc, true, ◌||◌, ap, sym, subst, ◌∙◌, drop, drop-cons, add-one}
use Rattle.ocpp_types.specs.TagKey.{key_of}
use Rattle.holdings.specs.LocalList.{names}
use Rattle.holdings.proofs.EntryLaws.{names_more}
use Rattle.holdings.proofs.local_list.named_keys.Goals as goal

pub loop-entry-preserved : goal.loop-entry-preserved
loop-entry-preserved c =
    let es = c.args.sent.now in
    let i = c.loop-entry.entry-index in
    let e = c.entry-item.result in
    let old = c.loop-entry.keys in
    let new = c.insert.new.self in
    let key = c.in_ok-key.ensures ∙ ap key_of c.as_str.ensures in
    let added = subst (λ k. Updates (slice_cmp nat_cmp) old new k true) key c.in_ok-insert.ensures.updates in
    λ q. ap (λ n. contains (slice_cmp nat_cmp) new q || names (drop n es) q) (add-one i)
    ∙ names_more old new e (drop (suc i) es) added q
    ∙ ap (λ x. contains (slice_cmp nat_cmp) old q || names (x ∷ drop (suc i) es) q) c.entry-item.is
    ∙ ap (λ xs. contains (slice_cmp nat_cmp) old q || names xs q) (sym (drop-cons es i e c.loop-entry-test.true))
    ∙ c.loop-entry.invariant q
