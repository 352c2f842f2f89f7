use Rattle.std.proofs.Common.{◌∙◌}
use Rattle.std.proofs.lemmas.Result.{IfOk-weaker}
use Rattle.json.specs.Print.{escape_byte, quoted}
use Rattle.ocpp_types.specs.TimeText.{time_text}
use Rattle.answer_texts.proofs.Joined.{three}
use Rattle.answer_texts.proofs.answer.with_heartbeat.Goals as goal

pub returns : goal.returns
unfolding escape_byte
returns c = IfOk-weaker c.with_text-2.result _ _ (λ t e. e ∙ rw (c.in_ok-text-2.ensures, c.in_ok-text.ensures) (three c.args.text.bytes.items _ (quoted (time_text c.args.current_time)) _)) c.with_text-2.ensures
