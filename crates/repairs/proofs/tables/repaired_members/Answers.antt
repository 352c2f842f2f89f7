use Rattle.std.proofs.Common.{length, ◌∙◌, subst, sym, arith}
use Rattle.std.proofs.lemmas.Iterator.Adapters.{YieldsList-from_vec}
use Rattle.std.proofs.lemmas.Iterator.Consumers.{YieldsList-turn, YieldsList-end}
use Rattle.std.proofs.lemmas.List.{length_push}
use Rattle.repairs.proofs.Repaired.{MembersSoFar, members-more, members-end, member-numbers}
use Rattle.repairs.proofs.tables.repaired_members.Goals as goal

pub repair-requires : goal.repair-requires
repair-requires g c =
    let all = c.args.members.items in
    let gives = c.into_iter-name-iterator.ensures.into_iter_gives in
    let road = YieldsList-from_vec {s = c.into_iter-name-iterator.result} all gives.0 (gives.1 ∙ c.args.members.ok.0) in
    let turn = YieldsList-turn road c.loop-name.yielded _ c.loop-name.yielded_by _ c.next.new.self _ c.in-Some.is c.next.ensures.steps in
    member-numbers all (length c.loop-name.yielded) _ c.requires turn.0 turn.1

pub loop-name-preserved : goal.loop-name-preserved
loop-name-preserved g c =
    let all = c.args.members.items in
    let table = g.R.MemberRepairs.table c.args.repairs.now c.args.now.now in
    let gives = c.into_iter-name-iterator.ensures.into_iter_gives in
    let road = YieldsList-from_vec {s = c.into_iter-name-iterator.result} all gives.0 (gives.1 ∙ c.args.members.ok.0) in
    let turn = YieldsList-turn road c.loop-name.yielded _ c.loop-name.yielded_by _ c.next.new.self _ c.in-Some.is c.next.ensures.steps in
    subst (MembersSoFar table all c.add_member.new.members.items) (sym (length_push c.loop-name.yielded _))
    (members-more table all c.loop-name.repaired.items c.add_member.new.members.items (length c.loop-name.yielded) c.in-Some.name c.in-Some.value c.in_ok-value.value
    turn.0 turn.1 c.in_ok-value.ensures c.in_ok-add_member.ensures c.loop-name.invariant)

pub returns : goal.returns
returns g c =
    let all = c.args.members.items in
    let table = g.R.MemberRepairs.table c.args.repairs.now c.args.now.now in
    let gives = c.into_iter-name-iterator.ensures.into_iter_gives in
    let road = YieldsList-from_vec {s = c.into_iter-name-iterator.result} all gives.0 (gives.1 ∙ c.args.members.ok.0) in
    let end = YieldsList-end road c.loop-name.yielded _ c.loop-name.yielded_by _ c.next.new.self c.in-None.is c.next.ensures.steps in
    members-end table all c.loop-name.repaired.items (length c.loop-name.yielded) (omega (arith, end.1)) c.loop-name.invariant
