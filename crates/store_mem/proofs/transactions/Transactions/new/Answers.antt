use Rattle.std.proofs.Common.{sym, ap, ◌∙◌, subst}
use Rattle.std.specs.List.Sorted.{IsStrictlySortedBy}
use Rattle.hub_rows.specs.Keyed.{by_key, in_order}
use Rattle.hub_rows.specs.Rows.{tx_key}
use Rattle.hub_rows.specs.Transactions.{counts, is_open}
use Rattle.store_mem.specs.declared.open.OpenRow.{OpenRow}
use Rattle.store_mem.specs.declared.starts.StartRow.{StartRow}
use Rattle.store_mem.specs.NamedGroups.{all_rows, rows_at, AreGrouped, AreInPlace}
use Rattle.store_mem.specs.Open.{opens_of}
use Rattle.store_mem.specs.Starts.{start_key, starts_of}
use Rattle.store_mem.proofs.NamedGroupLaws.{none_in_place, none_grouped, none_sorted}
use Rattle.store_mem.proofs.transactions.Transactions.new.Goals as goal

pub invariant_of-result : goal.invariant_of-result
invariant_of-result c =
    let empty = c.new.ensures.items in
    record {
      by_station = subst (AreGrouped (λ r. r.op) (λ r. r.station) (λ r. r.number)) (sym empty) (none_grouped (λ r. r.op) (λ r. r.station) (λ r. r.number));
      sorted = subst (λ gs. IsStrictlySortedBy (by_key tx_key) (all_rows gs)) (sym empty) (none_sorted tx_key);
      in_use = record {
        in_place = subst AreInPlace (sym c.new-2.ensures.items) (none_in_place OpenRow);
        each = λ b n. ap (rows_at b n) c.new-2.ensures.items ∙ sym (ap (λ gs. opens_of counts (λ r. r.start.id.key) b n (all_rows gs)) empty);
      };
      opened = record {
        in_place = subst AreInPlace (sym c.new-3.ensures.items) (none_in_place OpenRow);
        each = λ b n. ap (rows_at b n) c.new-3.ensures.items ∙ sym (ap (λ gs. opens_of is_open (λ r. r.op) b n (all_rows gs)) empty);
      };
      started = record {
        in_place = subst AreInPlace (sym c.new-4.ensures.items) (none_in_place StartRow);
        each = λ b st. ap (rows_at b st) c.new-4.ensures.items ∙ sym (ap (λ gs. in_order (by_key start_key) (starts_of b st (all_rows gs))) empty);
      };
    }
