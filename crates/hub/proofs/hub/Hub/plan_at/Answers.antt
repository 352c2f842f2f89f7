use Rattle.std.proofs.Common.{◌≡◌, ◌∙◌, sym}
use Rattle.hub_rows.specs.Operators.{is_hosted}
use Rattle.pending_calls.specs.Slots.{all_slots, first_number}
use Rattle.hub.specs.Hub.{world, setting}
use Rattle.hub.specs.World.{Setting, World, plan_at}
use Rattle.hub.proofs.hub.Hub.plan_at.Goals as goal

pub returns-clause-planned : goal.returns-clause-planned
unfolding setting
returns-clause-planned g c =
    let st : Setting = setting g.V.VendorHandler.view c.args.self.now in
    let w : World = world g.S.Store.view c.args.self.now in
    let lent = c.args.lent.now in
    let ensures = c.in_ok-plan.ensures in
    let told : c.is_hosted.result ≡ is_hosted c.args.self.now.hosted.items lent.op.now = rw (c.as_slice-hosted.ensures.value, c.as_str.ensures) at c.is_hosted.ensures in (
      sym told ∙ c.if-not-is_hosted.false,
      λ clean.
          let is : c.in_ok-plan.plan ≡ plan_at st w lent.op.now lent.moment lent.what.now = rw c.as_slice-hosted.ensures.value at (ensures.plan clean) in
          is ∙ (λ i. plan_at (record { is_hosted = is_hosted c.args.self.now.hosted.items; answers = sym c.plan_event.ensures.answers i; first_number = st.first_number }) (record { rows = sym (ensures.reads.kept clean) i; slots = w.slots }) lent.op.now lent.moment lent.what.now),
      ensures.ready,
    )

pub returns-in_err-plan-clause-setting : goal.returns-in_err-plan-clause-setting
unfolding setting
returns-in_err-plan-clause-setting g c = λ i. record { is_hosted = is_hosted c.args.self.now.hosted.items; answers = c.plan_event.ensures.answers i; first_number = first_number c.args.self.now.slots }

pub returns-clause-setting : goal.returns-clause-setting
unfolding setting
returns-clause-setting g c = λ i. record { is_hosted = is_hosted c.args.self.now.hosted.items; answers = c.plan_event.ensures.answers i; first_number = first_number c.args.self.now.slots }

pub returns-clause-world : goal.returns-clause-world
returns-clause-world g c = λ clean i. record { rows = c.in_ok-plan.ensures.reads.kept clean i; slots = all_slots c.args.self.now.slots }
