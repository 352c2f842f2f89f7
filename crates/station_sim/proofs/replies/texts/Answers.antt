use Rattle.std.proofs.Common.{◌∙◌, ap, sym, ◌+◌, drop}
use Rattle.std.proofs.lemmas.List.{drop_all}
use Rattle.json_data.specs.View.{items_view}
use Rattle.station_sim.specs.Replies.{texts}
use Rattle.station_sim.proofs.Texts.{followed, followed_none, texts_take, texts_skip}
use Rattle.station_sim.proofs.replies.texts.Goals as goal
use Rattle.station_sim.proofs.replies.texts.Goals.{in-Some+in_ok-text_value+in_ok-push, in_default}

pub loop-item-preserved : goal.loop-item-preserved
loop-item-preserved c =
    let vs = c.args.items.now in
    let i = c.loop-item.item-index in
    elim c.match-text_of.branch [
      | in-Some+in_ok-text_value+in_ok-push w ↦
          ap (λ found. followed found.items (texts (items_view (drop (i + 1) vs)))) w.found-is
          ∙ ap (λ found. followed found (texts (items_view (drop (i + 1) vs)))) w.in_ok-push.ensures.items
          ∙ texts_take c.loop-item.found.items vs i c.item-item.result _ _ c.loop-item-test.true c.item-item.is w.in-Some.ensures w.in_ok-text_value.ensures
          ∙ c.loop-item.invariant
      | in_default w ↦
          ap (λ found. followed found.items (texts (items_view (drop (i + 1) vs)))) w.found-is
          ∙ texts_skip c.loop-item.found.items vs i c.item-item.result c.loop-item-test.true c.item-item.is w.in_default.ensures
          ∙ c.loop-item.invariant
    ]

pub returns : goal.returns
returns c =
    let vs = c.args.items.now in
    sym (followed_none c.loop-item.found.items)
    ∙ ap (λ ws. followed c.loop-item.found.items (texts (items_view ws))) (sym (drop_all c.loop-item.item-index vs c.loop-item-test.false))
    ∙ c.loop-item.invariant
