use Rattle.std.proofs.Common.{◌∙◌}
use Rattle.std.proofs.lemmas.Result.{IfOk-weaker}
use Rattle.json.specs.Print.{escape_byte}
use Rattle.answer_texts.proofs.Joined.{three}
use Rattle.answer_texts.proofs.answer.with_parent.Goals as goal

pub returns-in_ok-text-in-Some-2 : goal.returns-in_ok-text-in-Some-2
unfolding escape_byte
returns-in_ok-text-in-Some-2 c = IfOk-weaker c.with_text-in-Some.result _ _ (λ t e. e ∙ rw (c.in_ok-text-in-Some-2.ensures, c.in_ok-text-in-Some.ensures, c.as_str.ensures, c.in-Some.is) (three c.args.text.bytes.items _ _ _)) c.with_text-in-Some.ensures
