use Rattle.std.proofs.Common.{◌≡◌, List, true, false, not, sym, subst}
use Rattle.std.specs.List.Sorted.{IsStrictlySortedBy}
use Rattle.std.proofs.lemmas.List.Kept.{IsStrictlySortedBy-filter}
use Rattle.hub_rows.specs.declared.tx_row.TxRow.{TxRow}
use Rattle.hub_rows.specs.Keyed.{by_key}
use Rattle.hub_rows.specs.Transactions.{counts, is_open}
use Rattle.hub_rows.specs.Rows.{tx_key}
use Rattle.hub_rows.proofs.ListLaws.{all-weaker}
use Rattle.store_mem.specs.NamedGroups.{all_rows}
use Rattle.store_mem.specs.Open.{AreOpens}
use Rattle.store_mem.specs.Starts.{AreStarts}
use Rattle.store_mem.proofs.ForgottenLaws.{goes, gone-stopped, not-counted, opens-kept, starts-forgotten}
use Rattle.store_mem.proofs.transactions.Transactions.forget.Goals as goal

pub invariant_of-self : goal.invariant_of-self
invariant_of-self c =
    let s = c.args.self.now in
    let txs : List TxRow = all_rows s.rows.items in
    let b = c.args.op.now in
    let st = c.args.station.now in
    let ns = c.args.numbers.now in
    let kept = sym c.drop_numbers.ensures.rows in
    let stopped = gone-stopped b st txs ns s.sorted c.requires in
    record {
      by_station = c.drop_numbers.ensures.groups;
      sorted = subst (IsStrictlySortedBy (by_key tx_key)) kept (IsStrictlySortedBy-filter (by_key tx_key) (λ r. not (goes b st ns r)) txs s.sorted);
      in_use = subst (AreOpens counts (λ r. r.start.id.key) s.opens.items) kept (opens-kept counts (λ r. r.start.id.key) b st ns txs s.opens.items
          (all-weaker (λ r. goes b st ns r ≡ true → is_open r ≡ false) (λ r. goes b st ns r ≡ true → counts r ≡ false) (λ r stops e. not-counted r (stops e)) txs stopped) s.in_use);
      opened = subst (AreOpens is_open (λ r. r.op) s.open_txs.items) kept (opens-kept is_open (λ r. r.op) b st ns txs s.open_txs.items stopped s.opened);
      started = subst (AreStarts c.drop_starts.new.groups.items) kept (starts-forgotten b st ns txs s.starts.items c.drop_starts.new.groups.items s.started c.drop_starts.ensures.in_place c.drop_starts.ensures.rows);
    }
