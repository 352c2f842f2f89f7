use Rattle.std.proofs.Common.{rules, subst, IsOk, Some, sym, ap, ◌∙◌}
use Rattle.pending_calls.specs.Slot.{ready}
use Rattle.pending_calls.specs.Shown.{shown, IsWaitingOf}
use Rattle.pending_calls.proofs.Named.{room, kept-push}
use Rattle.pending_calls.proofs.Submits.{sent_at_once, shown_sent}
use Rattle.pending_calls.proofs.slot.Slot.submit.Goals as goal

pub returns-then-is_none-clause-sent : goal.returns-then-is_none-clause-sent
returns-then-is_none-clause-sent g c =
    let s = c.self.inside in
    ap (λ message. Some message) c.in_ok-next.ensures.message ∙ sent_at_once s.op s.station s.is_connected s.next_number s.in_flight s.waiting.items c.args.self.now c.self.view_is c.if-is_none.ensures c.args.new.text

pub returns-then-is_none-clause-ok : goal.returns-then-is_none-clause-ok
returns-then-is_none-clause-ok g c =
    let s = c.self.inside in
    shown_sent s.op s.station s.is_connected s.next_number s.in_flight s.waiting.items c.args.self.now c.self.view_is c.if-is_none.ensures c.args.new.command c.args.new.text c.args.moment c.in_ok-next.next.call c.in_ok-next.ensures.call

pub invariant_of-self-2 : goal.invariant_of-self-2
invariant_of-self-2 g c =
    let s = c.self.inside in
    let old = shown s.op s.station s.is_connected s.next_number s.in_flight s.waiting.items in
    let ready_old : IsOk (ready old) = subst (λ x. IsOk (ready x)) (sym c.self.view_is) c.requires in
    let next = c.in_ok-next.next in
    let named : IsWaitingOf s.op s.station next = record { call = record { same_op = search rules; same_station = search rules }; message_op = search rules; message_station = search rules } in
    let kept = kept-push s.op s.station s.is_connected s.next_number s.in_flight s.waiting.items next c.self.invariant named (search rules) (room old ready_old) in
    rw c.in_ok-push.ensures.items kept
