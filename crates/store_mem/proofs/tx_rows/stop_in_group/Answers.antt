use Rattle.std.proofs.Common.{[], ◌∷◌, ◌++◌, ◌+◌, ◌==◌, take, drop, ap, sym, ◌∙◌}
use Rattle.hub_rows.specs.declared.tx_row.TxRow.{TxRow}
use Rattle.hub_rows.specs.Changes.{with_stop}
use Rattle.hub_rows.proofs.ListLaws.{one_part, set_here}
use Rattle.hub_rows.proofs.PlaceLaws.{map-found, map-gap}
use Rattle.store_mem.proofs.tx_rows.stop_in_group.Goals as goal
use Rattle.hub_rows.specs.Keyed.{number_key}

pub returns-in-Ok-clause-rows : goal.returns-in-Ok-clause-rows
returns-in-Ok-clause-rows c =
    let number : TxRow → _ = (λ r. r.number) in
    let n = c.args.number in
    let rows = c.args.group.now.rows.items in
    let i = c.in-Ok.place in
    let at = (rw c.as_slice.ensures.value at c.in-Ok.ensures) in
    let row = c.stop_row.ensures ∙ ap (with_stop c.args.stop) (c.index_mut.ensures.value ∙ at.here c.index_mut.result.now) in
    set_here rows i c.stop_row.new.row at.in_range ∙ ap (λ r. take i rows ++ r ∷ drop (i + 1) rows) row
    ∙ sym (map-found (number_key number) ((n ∷ []) ∷ []) (λ r. r.number == n) (λ r. one_part r.number n) (with_stop c.args.stop) rows i at)

pub returns-in_default-clause-rows : goal.returns-in_default-clause-rows
returns-in_default-clause-rows c =
    let number : TxRow → _ = (λ r. r.number) in
    let n = c.args.number in
    let gap = (rw c.as_slice.ensures.value at c.in_default.ensures) in
    sym (map-gap (number_key number) ((n ∷ []) ∷ []) (λ r. r.number == n) (λ r. one_part r.number n) (with_stop c.args.stop) c.args.group.now.rows.items c.in_default.field-0 gap)
