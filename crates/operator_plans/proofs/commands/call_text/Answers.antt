use Rattle.std.proofs.Common.{◌∙◌}
use Rattle.serde_json.specs.Written.{compact_text}
use Rattle.ocpp_frame.specs.Written.{call_data}
use Rattle.operator_plans.specs.Commands.{call_text}
use Rattle.operator_plans.proofs.commands.call_text.Goals as goal

pub returns : goal.returns
unfolding call_text
returns c = c.from.ensures ∙ c.in_ok-text.ensures.text c.in_ok-payload.ensures.no_float
    ∙ (λ i. compact_text (call_data ((c.as_str.ensures.value ∙ c.in_ok-id.ensures.ok) i) (c.action_name_of.ensures i) (c.in_ok-payload.ensures.object i)))
