use Rattle.std.proofs.Common.{◌<◌, ◌&&◌, pos, not, ap, sym, ◌∙◌, rules, w64}
use Rattle.std.proofs.lemmas.Int.{to_z_pos}
use Rattle.std.specs.BTreeSet.{contains}
use Rattle.std.specs.Ordering.{int_cmp}
use Rattle.store_mem.proofs.forgettable.goes.Goals as goal

pub returns-then-is_over : goal.returns-then-is_over
returns-then-is_over c =
    let number = c.args.tx.now.number in
    let named = c.args.named.now in
    let fits : number < 9223372036854775808 = search rules in
    ap not (c.contains.ensures ∙ ap (contains int_cmp named) (to_z_pos w64 number fits)) ∙ sym (ap (λ b. b && not (contains int_cmp named (pos number))) (sym c.is_over.ensures ∙ c.if-is_over.true))
