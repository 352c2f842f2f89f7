use Rattle.std.specs.BTreeMap.{insert_entry}
use Rattle.std.specs.Cmp.Lexicographic.{slice_cmp}
use Rattle.std.specs.Map.{values_of}
use Rattle.std.specs.Ordering.{nat_cmp}
use Rattle.std.proofs.Common.{ap, ◌∙◌}
use Rattle.ocpp_types.specs.TagKey.{key_of}
use Rattle.hub_rows.specs.Keyed.{by_key, put}
use Rattle.hub_rows.specs.LocalLists.{entry_key}
use Rattle.holdings.proofs.EntryLaws.{insert_put, keyed_by}
use Rattle.holdings.proofs.entries.Entries.put.Goals as goal

pub invariant_of-self-inside : goal.invariant_of-self-inside
invariant_of-self-inside c =
    let v = c.args.entry in
    let old = c.self.inside.map.entries in
    (keyed_by c.insert.result v c.in_ok-key.key old c.insert.new.self.entries (c.in_ok-key.ensures ∙ ap key_of c.as_str.ensures) c.self.inside.keyed c.insert.ensures.entries c.insert.ensures.err, tt)

pub returns : goal.returns
returns c =
    let v = c.args.entry in
    let old = c.self.inside.map.entries in
    ap values_of (c.in_ok-insert.ensures.entries ∙ ap (λ q. insert_entry (slice_cmp nat_cmp) old q v) (c.in_ok-key.ensures ∙ ap key_of c.as_str.ensures))
    ∙ insert_put v old c.self.inside.keyed ∙ ap (put (by_key entry_key) v) c.self.view_is
