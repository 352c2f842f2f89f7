use Rattle.std.proofs.Common.{◌≡◌, true, refl, ◌<◌, List, map, arith, ap, sym, subst, ◌∙◌}
use Rattle.std.specs.List.Sorted.{IsStrictlySortedBy}
use Rattle.std.specs.Str.{bytes_eq}
use Rattle.hub_rows.specs.declared.tx_row.TxRow.{TxRow}
use Rattle.hub_rows.specs.Keyed.{by_key, greatest, put, those}
use Rattle.hub_rows.specs.Transactions.{counts, is_open}
use Rattle.hub_rows.proofs.ListLaws.{by_key_total, sorted-put}
use Rattle.hub_rows.proofs.OrderLaws.{sorted-in_order}
use Rattle.store_mem.specs.Starts.{start_key, starts_of, AreStarts}
use Rattle.store_mem.specs.NamedGroups.{all_rows, HasRoomAt}
use Rattle.store_mem.proofs.Kept.{on_err}
use Rattle.store_mem.proofs.NewRows.{follows-above}
use Rattle.store_mem.specs.Open.{open_key, AreOpens}
use Rattle.store_mem.proofs.OpenLaws.{is_new, opens-started, sorted-opens}
use Rattle.store_mem.proofs.StartLaws.{starts-started}
use Rattle.hub_rows.specs.Rows.{tx_key}
use Rattle.store_mem.proofs.transactions.Transactions.start.Goals as goal

-- the number of a row is above those of its station's
abbrev IsBehind : List TxRow → TxRow → Type 0
IsBehind txs r = greatest (map (λ x. x.number) (those (λ x. x.op) r.op (λ x. bytes_eq x.station r.station) txs)) < r.number

pub put_at-requires-clause-sorted : goal.put_at-requires-clause-sorted
put_at-requires-clause-sorted c =
    let s = c.args.self.now in
    let b = c.as_str-op.result.now in
    let st = c.as_str-station.result.now in
    subst (IsStrictlySortedBy (by_key start_key)) (sym (c.make_room_at.ensures.rows b st ∙ s.started.each b st))
    (sorted-in_order (by_key start_key) (by_key_total start_key) (starts_of b st (all_rows s.rows.items)))

pub put_at-requires-2-clause-sorted : goal.put_at-requires-2-clause-sorted
put_at-requires-2-clause-sorted c =
    let s = c.args.self.now in
    let b = c.as_str-op.result.now in
    subst (IsStrictlySortedBy (by_key open_key)) (sym (c.make_room_at-2.ensures.rows b b ∙ s.opened.each b b))
    (sorted-opens is_open (λ r. r.op) b b (all_rows s.rows.items) s.sorted)

pub put_counted-requires-clause-sorted : goal.put_counted-requires-clause-sorted
put_counted-requires-clause-sorted c =
    let s = c.args.self.now in
    let b = c.as_str-op.result.now in
    let key = c.as_str-key.result.now in
    subst (IsStrictlySortedBy (by_key open_key)) (sym (c.make_room_if.ensures.rows b key ∙ s.in_use.each b key))
    (sorted-opens counts (λ r. r.start.id.key) b key (all_rows s.rows.items) s.sorted)

pub put_last-requires-clause-groups : goal.put_last-requires-clause-groups
put_last-requires-clause-groups c = (c.in_ok-make_room_at-3.ensures.grouped (λ r. r.op) (λ r. r.station) (λ r. r.number) c.args.self.now.by_station).0

pub put_last-requires-clause-room : goal.put_last-requires-clause-room
put_last-requires-clause-room c =
    let row = c.in_ok-row.row in
    let its_op = ap (λ r. r.op) c.in_ok-row.ensures ∙ sym c.as_str-op.ensures in
    let its_station = ap (λ r. r.station) c.in_ok-row.ensures ∙ sym c.as_str-station.ensures in
    subst (λ b. HasRoomAt b row.station c.make_room_at-3.new.groups.items) (sym its_op) (subst (λ st. HasRoomAt c.as_str-op.result.now st c.make_room_at-3.new.groups.items) (sym its_station) c.in_ok-make_room_at-3.ensures.room)

pub put_last-requires-clause-behind : goal.put_last-requires-clause-behind
put_last-requires-clause-behind c =
    let row = c.in_ok-row.row in
    let grouped = c.in_ok-make_room_at-3.ensures.grouped (λ r. r.op) (λ r. r.station) (λ r. r.number) c.args.self.now.by_station in
    let behind : IsBehind (all_rows c.args.self.now.rows.items) row = subst (IsBehind (all_rows c.args.self.now.rows.items)) (sym c.in_ok-row.ensures) (follows-above _ c.args.number 1 (omega arith) c.requires) in
    subst (λ txs. IsBehind txs row) (sym grouped.1) behind

pub returns-clause-ok : goal.returns-clause-ok
returns-clause-ok c =
    let grouped = c.in_ok-make_room_at-3.ensures.grouped (λ r. r.op) (λ r. r.station) (λ r. r.number) c.args.self.now.by_station in
    rw (c.put_last.ensures.rows, grouped.1, c.in_ok-row.ensures) refl

pub invariant_of-self-2 : goal.invariant_of-self-2
invariant_of-self-2 c =
    let s = c.args.self.now in
    let txs = all_rows s.rows.items in
    let row = c.in_ok-row.row in
    let grouped = c.in_ok-make_room_at-3.ensures.grouped (λ r. r.op) (λ r. r.station) (λ r. r.number) s.by_station in
    let added : all_rows c.put_last.new.groups.items ≡ put (by_key tx_key) row txs = c.put_last.ensures.rows ∙ ap (put (by_key tx_key) row) grouped.1 in
    let behind : IsBehind txs row = subst (IsBehind txs) (sym c.in_ok-row.ensures) (follows-above _ c.args.number 1 (omega arith) c.requires) in
    let its_op = ap (λ r. r.op) c.in_ok-row.ensures ∙ sym c.as_str-op.ensures in
    let its_station = ap (λ r. r.station) c.in_ok-row.ensures ∙ sym c.as_str-station.ensures in
    record {
      by_station = c.put_last.ensures.groups;
      sorted = subst (IsStrictlySortedBy (by_key tx_key)) (sym added) (sorted-put (by_key tx_key) (by_key_total tx_key) row txs s.sorted);
      in_use = opens-started counts (λ r. r.start.id.key) c.as_str-op.result.now c.as_str-key.result.now c.counts-counts.result row c.in_ok-used_row.used_row txs _ c.make_room_if.new.opens.items c.put_counted.new.opens.items s.sorted
          (is_new row txs behind) added its_op (ap (λ r. r.start.id.key) c.in_ok-row.ensures ∙ sym c.as_str-key.ensures) c.in_ok-used_row.ensures (sym c.counts-counts.ensures)
          (record { in_place = c.make_room_if.ensures.in_place; each = λ b n. c.make_room_if.ensures.rows b n ∙ s.in_use.each b n })
          c.put_counted.ensures.in_place c.put_counted.ensures.rows;
      opened = opens-started is_open (λ r. r.op) c.as_str-op.result.now c.as_str-op.result.now true row c.in_ok-open_row.open_row txs _ c.make_room_at-2.new.groups.items c.put_at-2.new.groups.items s.sorted
          (is_new row txs behind) added its_op its_op c.in_ok-open_row.ensures (ap is_open c.in_ok-row.ensures)
          (record { in_place = c.make_room_at-2.ensures.in_place; each = λ b n. c.make_room_at-2.ensures.rows b n ∙ s.opened.each b n })
          c.put_at-2.ensures.in_place c.put_at-2.ensures.rows;
      started = starts-started c.as_str-op.result.now c.as_str-station.result.now row c.in_ok-start_row.start_row txs _ c.make_room_at.new.groups.items c.put_at.new.groups.items s.sorted
          behind added
          its_op its_station c.in_ok-start_row.ensures
          (record { in_place = c.make_room_at.ensures.in_place; each = λ b st. c.make_room_at.ensures.rows b st ∙ s.started.each b st })
          c.put_at.ensures.in_place c.put_at.ensures.rows;
    }

pub returns-in_err-make_room_at-3-clause-err : goal.returns-in_err-make_room_at-3-clause-err
returns-in_err-make_room_at-3-clause-err c = on_err _ _ (c.make_room_at-3.ensures.grouped (λ r. r.op) (λ r. r.station) (λ r. r.number) c.args.self.now.by_station).1

pub invariant_of-self-in-Break-branch-7 : goal.invariant_of-self-in-Break-branch-7
invariant_of-self-in-Break-branch-7 c =
    let s = c.args.self.now in
    record {
      by_station = s.by_station;
      sorted = s.sorted;
      in_use = record { in_place = c.make_room_if.ensures.in_place; each = λ b n. c.make_room_if.ensures.rows b n ∙ s.in_use.each b n };
      opened = record { in_place = c.make_room_at-2.ensures.in_place; each = λ b n. c.make_room_at-2.ensures.rows b n ∙ s.opened.each b n };
      started = record { in_place = c.make_room_at.ensures.in_place; each = λ b st. c.make_room_at.ensures.rows b st ∙ s.started.each b st };
    }

pub invariant_of-self-in-Break-branch-8 : goal.invariant_of-self-in-Break-branch-8
invariant_of-self-in-Break-branch-8 c =
    let s = c.args.self.now in
    let grouped = c.make_room_at-3.ensures.grouped (λ r. r.op) (λ r. r.station) (λ r. r.number) s.by_station in
    record {
      by_station = grouped.0;
      sorted = subst (IsStrictlySortedBy (by_key tx_key)) (sym grouped.1) s.sorted;
      in_use = subst (AreOpens counts (λ r. r.start.id.key) c.make_room_if.new.opens.items) (sym grouped.1) (record { in_place = c.make_room_if.ensures.in_place; each = λ b n. c.make_room_if.ensures.rows b n ∙ s.in_use.each b n });
      opened = subst (AreOpens is_open (λ r. r.op) c.make_room_at-2.new.groups.items) (sym grouped.1) (record { in_place = c.make_room_at-2.ensures.in_place; each = λ b n. c.make_room_at-2.ensures.rows b n ∙ s.opened.each b n });
      started = subst (AreStarts c.make_room_at.new.groups.items) (sym grouped.1) (record { in_place = c.make_room_at.ensures.in_place; each = λ b st. c.make_room_at.ensures.rows b st ∙ s.started.each b st });
    }
