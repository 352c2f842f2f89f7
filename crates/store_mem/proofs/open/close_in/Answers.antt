use Rattle.std.proofs.Common.{[], ◌∷◌, sym, ◌∙◌}
use Rattle.hub_rows.proofs.NameLaws.{filter-found, filter-gap}
use Rattle.store_mem.specs.Open.{open_key, is_open_tx}
use Rattle.store_mem.proofs.OpenLaws.{open_agrees}
use Rattle.store_mem.proofs.open.close_in.Goals as goal

pub returns-in-Ok : goal.returns-in-Ok
returns-in-Ok c =
    let st = c.args.station.now in
    let m = c.args.number in
    let at = (rw c.deref.ensures.value at c.in-Ok.ensures) in
    c.remove-closed.ensures.items ∙ sym (filter-found open_key (st ∷ (m ∷ []) ∷ []) (is_open_tx st m) (open_agrees st m) c.args.rows.now.items c.in-Ok.place at)

pub returns-in_default : goal.returns-in_default
returns-in_default c =
    let st = c.args.station.now in
    let m = c.args.number in
    let gap = (rw c.deref.ensures.value at c.in_default.ensures) in
    sym (filter-gap open_key (st ∷ (m ∷ []) ∷ []) (is_open_tx st m) (open_agrees st m) c.args.rows.now.items c.in_default.field-0 gap)
