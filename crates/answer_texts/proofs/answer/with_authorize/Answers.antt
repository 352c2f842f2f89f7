use Rattle.std.proofs.Common.{◌∙◌}
use Rattle.std.proofs.lemmas.Result.{IfOk-weaker}
use Rattle.json.specs.Print.{escape_byte}
use Rattle.answer_texts.proofs.Joined.{three}
use Rattle.answer_texts.proofs.answer.with_authorize.Goals as goal

pub returns : goal.returns
unfolding escape_byte
returns c = IfOk-weaker c.with_text-2.result _ _ (λ t e. e ∙ rw (c.in_ok-text-2.ensures, c.in_ok-text.ensures) (three c.args.text.bytes.items _ _ _)) c.with_text-2.ensures
