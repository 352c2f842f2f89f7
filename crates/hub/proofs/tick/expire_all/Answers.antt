use Rattle.std.proofs.Common.{◌++◌, sym, ap, ◌∙◌, arith, append_assoc, append-nil, Some}
use Rattle.pending_calls.specs.Slots.{all_slots}
use Rattle.pending_calls.proofs.Ticks.{IsStep, IsDone, step, done}
use Rattle.hub_events.specs.declared.out.Outcome.TheVariants.{Timeout}
use Rattle.hub.specs.Effects.{moved_outputs, tick_outputs}
use Rattle.hub.proofs.TickLaws.{step_says, done_says}
use Rattle.hub.proofs.tick.expire_all.Goals as goal

pub push_moved-requires : goal.push_moved-requires
push_moved-requires c =
    let one = step c.args.moment c.in-Some-expire_next.moved (all_slots c.loop-moved.slots) (sym c.in-Some-expire_next.ensures.moved) in
    let less = one.one_less in
    let room = c.loop-moved.invariant.room in
    omega arith

pub loop-moved-smaller : goal.loop-moved-smaller
loop-moved-smaller c =
    let one : IsStep c.args.moment c.in-Some-expire_next.moved (all_slots c.loop-moved.slots) (all_slots c.expire_next.new.self) = rw c.in-Some-expire_next.ensures.list (step c.args.moment c.in-Some-expire_next.moved (all_slots c.loop-moved.slots) (sym c.in-Some-expire_next.ensures.moved)) in
    let less = one.one_less in
    omega arith

pub loop-moved-preserved : goal.loop-moved-preserved
loop-moved-preserved c =
    let m = c.args.moment in
    let old = all_slots c.loop-moved.slots in
    let new = all_slots c.expire_next.new.self in
    let one : IsStep m c.in-Some-expire_next.moved old new = rw c.in-Some-expire_next.ensures.list (step m c.in-Some-expire_next.moved old (sym c.in-Some-expire_next.ensures.moved)) in
    let less = one.one_less in
    let room = c.loop-moved.invariant.room in
    let len = c.push_moved.ensures.len in
    let capacity = c.push_moved.ensures.capacity in
    let said = moved_outputs Timeout (Some c.in-Some-expire_next.moved) in
    record {
      slots = one.same_slots ∙ c.loop-moved.invariant.slots;
      outs = ap (λ xs. xs ++ tick_outputs m new) c.push_moved.ensures.items ∙ append_assoc c.loop-moved.outs.items said (tick_outputs m new)
          ∙ ap (λ xs. c.loop-moved.outs.items ++ xs) (sym (step_says m c.in-Some-expire_next.moved old new one)) ∙ c.loop-moved.invariant.outs;
      room = omega arith;
      number = c.in-Some-expire_next.ensures.number ∙ c.loop-moved.invariant.number;
    }

pub returns-clause-slots : goal.returns-clause-slots
returns-clause-slots c =
    let end : IsDone c.args.moment (all_slots c.loop-moved.slots) = done c.args.moment (all_slots c.loop-moved.slots) (sym c.in_default-expire_next.ensures.moved) in
    c.in_default-expire_next.ensures.list ∙ end.same ∙ sym end.slots_stay ∙ c.loop-moved.invariant.slots

pub returns-clause-outs : goal.returns-clause-outs
returns-clause-outs c =
    let m = c.args.moment in
    let end : IsDone m (all_slots c.loop-moved.slots) = done m (all_slots c.loop-moved.slots) (sym c.in_default-expire_next.ensures.moved) in
    sym (append-nil c.loop-moved.outs.items) ∙ ap (λ xs. c.loop-moved.outs.items ++ xs) (sym (done_says m (all_slots c.loop-moved.slots) end)) ∙ c.loop-moved.invariant.outs
