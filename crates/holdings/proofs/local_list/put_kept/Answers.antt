use Rattle.std.specs.BTreeSet.{contains}
use Rattle.std.specs.Cmp.Lexicographic.{slice_cmp}
use Rattle.std.specs.Ordering.{nat_cmp}
use Rattle.std.proofs.Common.{◌≡◌, false, ap, sym, ◌∙◌}
use Rattle.ocpp_types.specs.TagKey.{key_of}
use Rattle.hub_rows.specs.Keyed.{by_key, put}
use Rattle.hub_rows.specs.LocalLists.{entry_key}
use Rattle.holdings.specs.LocalList.{names}
use Rattle.holdings.proofs.EntryLaws.{kept_more}
use Rattle.holdings.proofs.local_list.put_kept.Goals as goal

pub loop-entry-preserved-then-not-contains : goal.loop-entry-preserved-then-not-contains
loop-entry-preserved-then-not-contains c =
    let e = c.in-Some.entry in
    let key = c.in_ok-key.ensures ∙ ap key_of c.as_str.ensures in
    let absent : names c.args.sent.now (key_of e.tag) ≡ false
    = sym (c.in_ok-named.ensures (key_of e.tag)) ∙ ap (contains (slice_cmp nat_cmp) c.in_ok-named.named) (sym key) ∙ sym c.contains.ensures ∙ c.if-not-contains.true in
    c.in_ok-put.ensures ∙ ap (put (by_key entry_key) e) c.loop-entry.invariant
    ∙ kept_more c.args.sent.now c.loop-entry.yielded c.args.entries.now e absent
