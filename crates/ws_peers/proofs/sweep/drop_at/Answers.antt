use Rattle.std.proofs.Common.{arith, ◌∙◌, ap, sym}
use Rattle.std.proofs.lemmas.List.{get_or_default}
use Rattle.ws_peers.specs.Peers.{is_operator_peer, key_of_peer}
use Rattle.ws_peers.specs.Routes.{is_operator}
use Rattle.ws_peers.proofs.SweepLaws.{none_moved, swap_permutes, swap_others, swap_map, swap_places}
use Rattle.ws_peers.proofs.sweep.drop_at.Goals as goal

pub returns-then-place-len-clause-dropped : goal.returns-then-place-len-clause-dropped
returns-then-place-len-clause-dropped g c = λ p. swap_permutes c.args.peers.now.items c.swap_remove-dropped.new.self.items c.args.place c.swap_remove-dropped.result p c.requires.there c.swap_remove-dropped.ensures.value c.swap_remove-dropped.ensures.items

pub returns-then-place-len-clause-others : goal.returns-then-place-len-clause-others
returns-then-place-len-clause-others g c = swap_others c.args.peers.now.items c.swap_remove-dropped.new.self.items c.args.place c.swap_remove-dropped.result c.requires.there c.swap_remove-dropped.ensures.items

pub returns-then-place-len-clause-keyed : goal.returns-then-place-len-clause-keyed
returns-then-place-len-clause-keyed g c = swap_map key_of_peer c.args.peers.now.items c.swap_remove-dropped.new.self.items c.args.keys.now.items c.swap_remove-key.new.self.items c.args.place c.swap_remove-key.result c.swap_remove-dropped.result c.requires.there c.swap_remove-dropped.ensures.items c.requires.keyed c.swap_remove-key.ensures.items

pub returns-then-place-len-clause-operators : goal.returns-then-place-len-clause-operators
returns-then-place-len-clause-operators g c = λ e.
    let x = c.swap_remove-dropped.result in
    let new = c.swap_remove-dropped.new.self.items in
    let parts = none_moved c.is_operator-was_operator.result c.is_operator.result e in
    swap_places is_operator_peer c.args.peers.now.items new c.args.place x c.requires.there c.swap_remove-dropped.ensures.items
    (sym (c.is_operator-was_operator.ensures ∙ ap is_operator c.route.ensures ∙ ap is_operator_peer c.swap_remove-dropped.ensures.value) ∙ parts.0)
    (λ small. sym (c.is_operator.ensures ∙ ap is_operator c.route-then-place-len.ensures ∙ ap is_operator_peer (c.index-moved.ensures ∙ get_or_default new c.args.place c.index-moved.result.now x small)) ∙ parts.1)

pub returns-clause-dropped : goal.returns-clause-dropped
returns-clause-dropped g c = λ p. swap_permutes c.args.peers.now.items c.swap_remove-dropped.new.self.items c.args.place c.swap_remove-dropped.result p c.requires.there c.swap_remove-dropped.ensures.value c.swap_remove-dropped.ensures.items

pub returns-clause-others : goal.returns-clause-others
returns-clause-others g c = swap_others c.args.peers.now.items c.swap_remove-dropped.new.self.items c.args.place c.swap_remove-dropped.result c.requires.there c.swap_remove-dropped.ensures.items

pub returns-clause-keyed : goal.returns-clause-keyed
returns-clause-keyed g c = swap_map key_of_peer c.args.peers.now.items c.swap_remove-dropped.new.self.items c.args.keys.now.items c.swap_remove-key.new.self.items c.args.place c.swap_remove-key.result c.swap_remove-dropped.result c.requires.there c.swap_remove-dropped.ensures.items c.requires.keyed c.swap_remove-key.ensures.items

pub returns-clause-operators : goal.returns-clause-operators
returns-clause-operators g c = λ e.
    let x = c.swap_remove-dropped.result in
    swap_places is_operator_peer c.args.peers.now.items c.swap_remove-dropped.new.self.items c.args.place x c.requires.there c.swap_remove-dropped.ensures.items
    (sym (c.is_operator-was_operator.ensures ∙ ap is_operator c.route.ensures ∙ ap is_operator_peer c.swap_remove-dropped.ensures.value) ∙ e)
    (λ small. absurd (omega (arith, small, c.if-place-len.false, c.len.ensures, c.swap_remove-dropped.new.self.ok.0)))
