use Rattle.std.proofs.Common.{◌<◌, length, sym, arith}
use Rattle.pending_calls.proofs.Moves.{kept_moved, moved_first, shown_moved}
use Rattle.pending_calls.proofs.slot.Slot.move_on.Goals as goal

pub invariant_of-self-2 : goal.invariant_of-self-2
invariant_of-self-2 g c =
    let s = c.self.inside in
    let removed = c.remove-call.ensures in
    let within : 0 < length s.waiting.items = grind (arith, s.waiting.ok.0) in
    kept_moved s.op s.station s.is_connected s.next_number s.in_flight s.waiting.items c.in_ok-first.first c.remove-call.result (sym c.in_ok-first.ensures.value) within removed.value c.self.invariant c.remove-call.new.self.items c.args.moment removed.by_index.2

pub returns-clause-moved : goal.returns-clause-moved
returns-clause-moved g c =
    let s = c.self.inside in
    let removed = c.remove-call.ensures in
    let within : 0 < length s.waiting.items = grind (arith, s.waiting.ok.0) in
    moved_first s.op s.station s.is_connected s.next_number s.in_flight s.waiting.items c.in_ok-first.first c.remove-call.result (sym c.in_ok-first.ensures.value) within removed.value c.self.invariant c.args.self.now c.self.view_is

pub returns-clause-slot : goal.returns-clause-slot
returns-clause-slot g c =
    let s = c.self.inside in
    let removed = c.remove-call.ensures in
    let within : 0 < length s.waiting.items = grind (arith, s.waiting.ok.0) in
    shown_moved s.op s.station s.is_connected s.next_number s.in_flight s.waiting.items c.in_ok-first.first c.remove-call.result (sym c.in_ok-first.ensures.value) within removed.value c.self.invariant c.args.self.now c.self.view_is c.remove-call.new.self.items c.args.moment removed.by_index.2
