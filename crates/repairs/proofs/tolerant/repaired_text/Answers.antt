use Rattle.std.proofs.Common.{subst, sym}
use Rattle.json.specs.Tree.{HasNumbers}
use Rattle.json.specs.Value.{value_view}
use Rattle.repairs.proofs.Numbers.{repairs_numbers}
use Rattle.repairs.proofs.tolerant.repaired_text.Goals as goal

pub text_of-requires : goal.text_of-requires
text_of-requires c =
    let numbers = rw c.in-Some.is at c.in_ok-payload.ensures.numbers in
    subst HasNumbers (sym c.in_ok-changed-in-Some.ensures) (repairs_numbers c.args.action c.args.now.now (value_view c.in-Some.payload) numbers)
