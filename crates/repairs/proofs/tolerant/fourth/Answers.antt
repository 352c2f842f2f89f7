use Rattle.std.proofs.Common.{Some, sym, ap, ◌∙◌, arith}
use Rattle.json.specs.Find.{at}
use Rattle.json.specs.Value.{value_view}
use Rattle.json.proofs.Numbered.{HasNumbers-at}
use Rattle.json.proofs.Trees.{view-Array, get_item_within, get_item_past}
use Rattle.repairs.proofs.tolerant.fourth.Goals as goal

pub returns-then-len-le3-clause-value : goal.returns-then-len-le3-clause-value
returns-then-len-le3-clause-value c =
    let items = c.in-Array.items in
    get_item_past items.items 3 (omega (arith, items.ok.0)) ∙ sym (ap (λ f. at 3 (value_view f)) c.in-Array.is ∙ ap (at 3) (view-Array items))

pub returns-clause-value : goal.returns-clause-value
returns-clause-value c =
    let items = c.in-Array.items in
    ap (λ v. Some (value_view v)) c.swap_remove.ensures.value ∙ get_item_within items.items 3 c.swap_remove.result (omega (arith, items.ok.0))
    ∙ sym (ap (λ f. at 3 (value_view f)) c.in-Array.is ∙ ap (at 3) (view-Array items))

pub returns-clause-numbers : goal.returns-clause-numbers
returns-clause-numbers c =
    let items = c.in-Array.items in
    HasNumbers-at 3 (value_view c.args.frame) (value_view c.swap_remove.result) c.requires
    (ap (λ v. Some (value_view v)) c.swap_remove.ensures.value ∙ get_item_within items.items 3 c.swap_remove.result (omega (arith, items.ok.0))
    ∙ sym (ap (λ f. at 3 (value_view f)) c.in-Array.is ∙ ap (at 3) (view-Array items)))
