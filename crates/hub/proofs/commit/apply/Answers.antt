use Rattle.std.proofs.Common.{◌≡◌, ◌∙◌, ap, sym}
use Rattle.pending_calls.specs.Slots.{all_slots, first_number}
use Rattle.plans.specs.declared.plan.Effect.TheVariants as effect
use Rattle.hub.specs.Effects.{slots_after}
use Rattle.hub.proofs.commit.apply.Goals as goal

pub returns-in_ok-ended-in-Connect-clause-moves : goal.returns-in_ok-ended-in-Connect-clause-moves
returns-in_ok-ended-in-Connect-clause-moves g c =
    let s = c.args.slots.now in
    let m = c.args.event.now.moment in
    let done : all_slots c.connect.new.self ≡ slots_after (first_number s) c.as_str.result.now m (effect.Connect c.as_str-in-Connect.result.now) (all_slots s) = c.in_ok-ended-in-Connect.ensures.ok in
    record {
      slots = done
          ∙ (λ i. slots_after (first_number s) (c.as_str.ensures i) m (effect.Connect (c.as_str-in-Connect.ensures i)) (all_slots s))
          ∙ ap (λ e. slots_after (first_number s) c.args.event.now.op.now m e (all_slots s)) (sym c.in-Connect.is);
      err_slots = tt;
      first = c.in_ok-ended-in-Connect.ensures.number;
    }
