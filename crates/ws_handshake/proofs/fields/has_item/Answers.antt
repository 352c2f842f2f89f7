use Rattle.std.proofs.Common.{rules, tests}
use Rattle.std.proofs.lemmas.Iterator.Search.{any_from_yields_List}
use Rattle.std.proofs.lemmas.Iterator.Splits.{YieldsList-from_slice_split}
use Rattle.websocket.specs.Headers.{eq_ignore_case}
use Rattle.ws_handshake.specs.Heads.{is_between}
use Rattle.ws_handshake.proofs.fields.has_item.Goals as goal

pub returns : goal.returns
returns c =
    any_from_yields_List (λ i. eq_ignore_case i c.args.item.now) _ _ _ c.any.ensures.ran
    (YieldsList-from_slice_split _ is_between c.args.value.now c.split.ensures.rest c.split.ensures.done c.split.ensures.closure (λ x r q k. search (rules, tests)))
    (λ x b q c. search (rules, tests))
