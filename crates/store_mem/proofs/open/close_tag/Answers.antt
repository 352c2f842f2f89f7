use Rattle.std.proofs.Common.{Some, not, cond, ◌&&◌, filter, refl, ap, sym, subst, ◌∙◌}
use Rattle.std.specs.List.Sorted.{IsStrictlySortedBy}
use Rattle.std.specs.Option.{option_map}
use Rattle.std.specs.Str.{bytes_eq}
use Rattle.hub_rows.specs.Changes.{with_stop}
use Rattle.hub_rows.specs.Keyed.{by_key}
use Rattle.hub_rows.specs.Transactions.{counts, is_tx}
use Rattle.hub_rows.proofs.PlaceLaws.{map-none}
use Rattle.store_mem.specs.NamedGroups.{all_rows}
use Rattle.store_mem.specs.Open.{open_key, is_open_tx, opens_of}
use Rattle.store_mem.proofs.OpenLaws.{sorted-opens, opens-ended, named-found, none-found}
use Rattle.store_mem.proofs.open.close_tag.Goals as goal

pub close-requires-clause-sorted : goal.close-requires-clause-sorted
close-requires-clause-sorted c =
    let b = c.args.op.now in
    let key = c.as_str.result.now in
    subst (IsStrictlySortedBy (by_key open_key)) (sym (c.requires.opens.each b key)) (sorted-opens counts (λ r. r.start.id.key) b key (all_rows c.args.groups.now) c.requires.sorted)

pub returns-in-Some : goal.returns-in-Some
returns-in-Some c = λ stop.
    let o = c.args.op.now in
    let st = c.args.station.now in
    let m = c.args.number in
    let key = c.as_str.result.now in
    let txs = all_rows c.args.groups.now in
    let are = c.requires.opens in
    let is = sym c.tag_of.ensures ∙ ap (option_map (λ k. k.now)) c.in-Some.is ∙ ap (λ k. Some k) (sym c.as_str.ensures) in
    record {
      in_place = c.close.ensures.in_place;
      each = λ b n. c.close.ensures.rows b n
          ∙ (λ i. cond (bytes_eq o b && bytes_eq key n) (filter (λ s. not (is_open_tx st m s)) (are.each b n i)) (are.each b n i))
          ∙ sym (opens-ended counts (λ r. r.start.id.key) (λ s r. refl) o st m stop key txs (named-found o st m key txs c.requires.sorted is) b n);
    }

pub returns-in_default : goal.returns-in_default
returns-in_default c = λ stop.
    let o = c.args.op.now in
    let st = c.args.station.now in
    let m = c.args.number in
    let txs = all_rows c.args.groups.now in
    let are = c.requires.opens in
    let is = sym c.tag_of.ensures ∙ ap (option_map (λ k. k.now)) c.in_default.is in
    record {
      in_place = are.in_place;
      each = λ b n. are.each b n ∙ sym (ap (opens_of counts (λ r. r.start.id.key) b n) (map-none (λ r. bytes_eq r.op o && is_tx st m r) (with_stop stop) txs (none-found o st m txs is)));
    }
