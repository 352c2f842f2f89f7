use Rattle.std.proofs.Common.{rules, ◌∙◌}
use Rattle.std.proofs.lemmas.Fn.{always_returns_same}
use Rattle.hub_rows.specs.Keyed.{text_cmp}
use Rattle.store_mem.proofs.OpenTxLaws.{searched}
use Rattle.store_mem.proofs.open.has_at.Goals as goal

pub returns : goal.returns
returns c =
    let st = c.args.station.now in
    c.is_ok.ensures.value
    ∙ searched st c.args.opens.now c.binary_search_by.result c.requires c.binary_search_by.ensures.bound
    (c.binary_search_by.ensures.position (λ o. text_cmp o.station st) (always_returns_same _ _ _ (λ a r f' called. search rules)))
