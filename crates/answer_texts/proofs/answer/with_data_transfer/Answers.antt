use Rattle.std.proofs.Common.{◌++◌, ap, ◌∙◌}
use Rattle.std.proofs.lemmas.Result.{IfOk-weaker}
use Rattle.json.specs.Print.{escape_byte}
use Rattle.answer_texts.proofs.Joined.{five, transfer_text}
use Rattle.answer_texts.proofs.answer.with_data_transfer.Goals as goal

pub returns : goal.returns
unfolding escape_byte
returns c = IfOk-weaker c.with_text-3.result _ _ (λ t e. e ∙ rw (c.in_ok-text-4.ensures, c.in_ok-text-3.ensures, c.in_ok-text-2.ensures, c.in_ok-text.ensures, c.name.ensures.value) (five c.args.text.bytes.items _ _ _ _ _ ∙ ap (λ more. c.args.text.bytes.items ++ more) (transfer_text c.args.status c.args.content.now))) c.with_text-3.ensures
