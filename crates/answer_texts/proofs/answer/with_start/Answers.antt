use Rattle.std.proofs.Common.{◌∙◌}
use Rattle.std.proofs.lemmas.Result.{IfOk-weaker}
use Rattle.json.specs.Print.{escape_byte}
use Rattle.answer_texts.proofs.Joined.{five}
use Rattle.answer_texts.proofs.answer.with_start.Goals as goal

pub returns : goal.returns
unfolding escape_byte
returns c = IfOk-weaker c.with_text-3.result _ _ (λ t e. e ∙ rw (c.in_ok-text-4.ensures, c.in_ok-text-3.ensures, c.in_ok-text-2.ensures, c.in_ok-text.ensures) (five c.args.text.bytes.items _ _ _ _ _)) c.with_text-3.ensures
