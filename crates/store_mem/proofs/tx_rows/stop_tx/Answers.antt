use Rattle.std.proofs.Common.{◌==◌, refl, ap, sym, ◌∙◌, map, cond}
use Rattle.hub_rows.specs.declared.tx_row.TxRow.{TxRow}
use Rattle.hub_rows.specs.Changes.{with_stop}
use Rattle.store_mem.proofs.StationRowsLaws.{set-changed, changed-none}
use Rattle.store_mem.proofs.tx_rows.stop_tx.Goals as goal

pub returns-in-Ok-clause-groups : goal.returns-in-Ok-clause-groups
returns-in-Ok-clause-groups c =
    let at = (rw c.as_slice.ensures.value at c.in-Ok.ensures) in
    let row = c.index_mut.ensures.value ∙ at.here c.index_mut.result.now in
    let e = c.stop_in_group.ensures in
    let f : TxRow → TxRow = with_stop c.args.stop in
    let n = c.args.number in
    (set-changed (λ r. r.op) (λ r. r.station) (λ r. r.number) c.args.op.now c.args.station.now c.args.groups.now.items c.in-Ok.place c.requires at c.stop_in_group.new.group
    (e.op ∙ ap (λ s. s.op) row) (e.name ∙ ap (λ s. s.name) row) n f (λ r. (refl, (refl, refl))) (e.rows ∙ ap (λ s. map (λ r. cond (r.number == n) (f r) r) s.rows.items) row)).0

pub returns-in-Ok-clause-rows : goal.returns-in-Ok-clause-rows
returns-in-Ok-clause-rows c =
    let at = (rw c.as_slice.ensures.value at c.in-Ok.ensures) in
    let row = c.index_mut.ensures.value ∙ at.here c.index_mut.result.now in
    let e = c.stop_in_group.ensures in
    let f : TxRow → TxRow = with_stop c.args.stop in
    let n = c.args.number in
    (set-changed (λ r. r.op) (λ r. r.station) (λ r. r.number) c.args.op.now c.args.station.now c.args.groups.now.items c.in-Ok.place c.requires at c.stop_in_group.new.group
    (e.op ∙ ap (λ s. s.op) row) (e.name ∙ ap (λ s. s.name) row) n f (λ r. (refl, (refl, refl))) (e.rows ∙ ap (λ s. map (λ r. cond (r.number == n) (f r) r) s.rows.items) row)).1

pub returns-in_default-clause-rows : goal.returns-in_default-clause-rows
returns-in_default-clause-rows c =
    let gap = (rw c.as_slice.ensures.value at c.in_default.ensures) in
    sym (changed-none (λ r. r.op) (λ r. r.station) (λ r. r.number) c.args.op.now c.args.station.now c.args.groups.now.items c.in_default.field-0 c.requires gap c.args.number (with_stop c.args.stop))
