use Rattle.std.proofs.Common.{ap, sym, ◌∙◌}
use Rattle.std.proofs.Common.{◌≡◌, ℕ, Bool, true, false, Option, is_some}
use Rattle.std.specs.Bool.{then_some}
use Rattle.pending_calls.proofs.Places.{slot-here, slot-gap}
use Rattle.pending_calls.proofs.slots.Slots.place_if_connected.Goals as goal

is-then : (b : Bool) (n : ℕ) (r : Option ℕ) → r ≡ then_some b n → is_some r ≡ b
is-then true n r e = ap is_some e
is-then false n r e = ap is_some e

pub returns-in-Ok : goal.returns-in-Ok
returns-in-Ok g c =
    let s = c.args.self.now in
    let at = (rw c.deref.ensures.value at c.in-Ok.ensures) in
    is-then c.is_connected-is_connected.result c.in-Ok.place c.then_some.result c.then_some.ensures ∙ c.is_connected-is_connected.ensures
    ∙ ap (λ slot. slot.is_connected) (c.as_ref.ensures ∙ sym (slot-here c.args.op.now c.args.station.now s.list.items c.in-Ok.place s.first_number at c.index.result.now c.index.ensures))

pub returns-in-Err : goal.returns-in-Err
returns-in-Err g c =
    let s = c.args.self.now in
    let gap = (rw c.deref.ensures.value at c.in-Err.ensures) in
    ap (λ slot. slot.is_connected) (sym (slot-gap c.args.op.now c.args.station.now s.list.items c.in-Err.field-0 s.first_number gap))
