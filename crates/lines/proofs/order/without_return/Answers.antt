use Rattle.std.proofs.Common.{arith, ◌∙◌, ◌++◌, ap, sym}
use Rattle.std.proofs.lemmas.Str.{encode_ascii}
use Rattle.lines.proofs.Returns.{lacks_return}
use Rattle.lines.proofs.order.without_return.Goals as goal

pub returns-in-None : goal.returns-in-None
returns-in-None c = lacks_return _ (λ front e. c.in-None.ensures.cases front (e ∙ ap (λ end. front ++ end) (sym (encode_ascii 13 (grind arith)))))
