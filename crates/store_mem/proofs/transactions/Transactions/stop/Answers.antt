use Rattle.std.proofs.Common.{List, ◌&&◌, cond, not, filter, refl, ap, sym, subst, ◌∙◌}
use Rattle.std.specs.List.Sorted.{IsStrictlySortedBy}
use Rattle.std.specs.Str.{bytes_eq}
use Rattle.hub_rows.specs.declared.tx_row.TxRow.{TxRow}
use Rattle.hub_rows.specs.Changes.{with_stop}
use Rattle.hub_rows.specs.Keyed.{by_key, changed, in_order}
use Rattle.hub_rows.specs.Transactions.{counts, is_open, is_tx}
use Rattle.hub_rows.specs.Rows.{tx_key}
use Rattle.hub_rows.proofs.ListLaws.{sorted-changed}
use Rattle.store_mem.specs.NamedGroups.{all_rows}
use Rattle.store_mem.specs.Open.{open_key, is_open_tx, opens_of, AreOpens}
use Rattle.store_mem.specs.Starts.{start_key, starts_of}
use Rattle.store_mem.proofs.OpenLaws.{sorted-opens, opens-ended, at_operator}
use Rattle.store_mem.proofs.StartLaws.{starts-stopped}
use Rattle.store_mem.proofs.transactions.Transactions.stop.Goals as goal

pub close-requires-clause-sorted : goal.close-requires-clause-sorted
close-requires-clause-sorted c =
    let s = c.args.self.now in
    let b = c.args.op.now in
    subst (IsStrictlySortedBy (by_key open_key)) (sym (s.opened.each b b)) (sorted-opens is_open (λ r. r.op) b b (all_rows s.rows.items) s.sorted)

pub invariant_of-self : goal.invariant_of-self
invariant_of-self c =
    let s = c.args.self.now in
    let txs : List TxRow = all_rows s.rows.items in
    let b = c.args.op.now in
    let st = c.args.station.now in
    let n = c.args.number in
    record {
      by_station = c.stop_tx.ensures.groups;
      sorted = subst (IsStrictlySortedBy (by_key tx_key)) (sym c.stop_tx.ensures.rows) (sorted-changed tx_key (λ r. r.op) b (is_tx st n) (with_stop c.args.stop) (λ r. refl) txs s.sorted);
      in_use = subst (AreOpens counts (λ r. r.start.id.key) c.close_tag.new.opens.items)
          (ap (λ gs. changed (λ r. r.op) b (is_tx st n) (with_stop c.args.stop) (all_rows gs)) c.deref.ensures.value ∙ sym c.stop_tx.ensures.rows) (c.close_tag.ensures c.args.stop);
      opened = record {
        in_place = c.close.ensures.in_place;
        each = λ u v. c.close.ensures.rows u v
            ∙ (λ i. cond (bytes_eq b u && bytes_eq b v) (filter (λ o. not (is_open_tx st n o)) (s.opened.each u v i)) (s.opened.each u v i))
            ∙ sym (ap (opens_of is_open (λ r. r.op) u v) c.stop_tx.ensures.rows ∙ opens-ended is_open (λ r. r.op) (λ t r. refl) b st n c.args.stop b txs (at_operator b st n txs) u v);
      };
      started = record {
        in_place = s.started.in_place;
        each = λ u v. s.started.each u v ∙ sym (ap (in_order (by_key start_key)) (ap (starts_of u v) c.stop_tx.ensures.rows ∙ starts-stopped b st n c.args.stop u v txs));
      };
    }
