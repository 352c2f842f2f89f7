use Rattle.std.proofs.Common.{◌≡◌, ◌∷◌, [], codes, decimal, arith, ◌∙◌}
use Rattle.std.proofs.lemmas.Fmt.{decimal-digits_of}
use Rattle.json.specs.Print.{quoted}
use Rattle.serde_json.specs.Written.{compact_text}
use Rattle.ocpp_payload.specs.Conf.{conf_data}
use Rattle.answer_texts.proofs.Joined.{five}
use Rattle.answer_texts.proofs.answer.answer_text.Goals as goal

three_is : decimal 3 ≡ 51 ∷ []
three_is = decimal-digits_of 3 (omega arith) (omega arith)

pub returns : goal.returns
returns c =
    c.into_string.ensures ∙ c.in_ok-text-5.ensures
    ∙ rw (c.in_ok-text-4.ensures, c.in_ok-text-3.ensures, c.in_ok-text-2.ensures, c.in_ok-text.ensures, c.in_ok-new.ensures, three_is) (five [] (codes "[3,") (quoted c.args.id.now) (codes ",") (compact_text (conf_data c.args.conf.now)) (codes "]"))
