use Rattle.std.proofs.Common.{length, ◌∙◌, subst, sym, arith}
use Rattle.std.proofs.lemmas.Iterator.Adapters.{YieldsList-from_vec}
use Rattle.std.proofs.lemmas.Iterator.Consumers.{YieldsList-turn, YieldsList-end}
use Rattle.std.proofs.lemmas.List.{length_push}
use Rattle.repairs.proofs.Repaired.{ItemsSoFar, items-more, items-end, item-numbers}
use Rattle.repairs.proofs.tables.repaired_items.Goals as goal

pub repair-requires : goal.repair-requires
repair-requires g c =
    let all = c.args.items.items in
    let gives = c.into_iter-item-iterator.ensures.into_iter_gives in
    let road = YieldsList-from_vec {s = c.into_iter-item-iterator.result} all gives.0 (gives.1 ∙ c.args.items.ok.0) in
    let next = c.in-Some.item in
    let turn = YieldsList-turn road c.loop-item.yielded _ c.loop-item.yielded_by _ c.next.new.self next c.in-Some.is c.next.ensures.steps in
    item-numbers all (length c.loop-item.yielded) next c.requires turn.0 turn.1

pub loop-item-preserved : goal.loop-item-preserved
loop-item-preserved g c =
    let all = c.args.items.items in
    let repair = g.R.ItemRepair.repair_by c.args.repair.now c.args.now.now in
    let gives = c.into_iter-item-iterator.ensures.into_iter_gives in
    let road = YieldsList-from_vec {s = c.into_iter-item-iterator.result} all gives.0 (gives.1 ∙ c.args.items.ok.0) in
    let next = c.in-Some.item in
    let turn = YieldsList-turn road c.loop-item.yielded _ c.loop-item.yielded_by _ c.next.new.self next c.in-Some.is c.next.ensures.steps in
    subst (ItemsSoFar repair all c.add_item.new.items.items) (sym (length_push c.loop-item.yielded next))
    (items-more repair all c.loop-item.repaired.items c.add_item.new.items.items (length c.loop-item.yielded) next c.in_ok-item.item
    turn.0 turn.1 c.in_ok-item.ensures c.in_ok-add_item.ensures c.loop-item.invariant)

pub returns : goal.returns
returns g c =
    let all = c.args.items.items in
    let repair = g.R.ItemRepair.repair_by c.args.repair.now c.args.now.now in
    let gives = c.into_iter-item-iterator.ensures.into_iter_gives in
    let road = YieldsList-from_vec {s = c.into_iter-item-iterator.result} all gives.0 (gives.1 ∙ c.args.items.ok.0) in
    let end = YieldsList-end road c.loop-item.yielded _ c.loop-item.yielded_by _ c.next.new.self c.in-None.is c.next.ensures.steps in
    items-end repair all c.loop-item.repaired.items (length c.loop-item.yielded) (omega (arith, end.1)) c.loop-item.invariant
