use Rattle.std.proofs.Common.{arith, ◌≡◌, ◌∙◌, ap, sym, subst, length, ◌++◌, ◌∷◌, [], Some, if◌then◌else◌}
use Rattle.websocket.specs.declared.protocol.frame.coding.CloseCode.TheVariants.{Policy}
use Rattle.ws_peers.specs.Routes.{is_operator, key_of}
use Rattle.ws_peers.specs.Peers.{FailsOnlyAt, is_open_peer, is_operator_peer}
use Rattle.ws_peers.specs.Sends.{Closed}
use Rattle.ws_peers.specs.declared.stage.Stage.TheVariants.{Gone}
use Rattle.ws_peers.proofs.EndedLaws.{fails_added}
use Rattle.ws_peers.proofs.ListLaws.{pushed, keyed_pushed}
use Rattle.ws_peers.proofs.PlaceLaws.{places_bound}
use Rattle.ws_peers.proofs.peers.Peers.push_closed.Goals as goal

pub list_place-requires : goal.list_place-requires
list_place-requires g c =
    let all = c.args.self.now in
    omega (arith, c.requires.1, ap length all.places, all.operators.ok.0, all.items.ok.0, places_bound is_operator_peer 0 all.items.items)

pub list_ended-requires-clause-others : goal.list_ended-requires-clause-others
list_ended-requires-clause-others g c =
    let all = c.args.self.now in
    subst (FailsOnlyAt is_open_peer (c.len-place.result ∷ all.ended.items)) (sym c.deref.ensures.value)
    (fails_added is_open_peer all.ended.items all.items.items c.push_reserved-2.new.items.items c.shut.new.self c.len-place.result c.push_reserved-2.ensures.items (c.len-place.ensures ∙ all.items.ok.0) all.listed)

pub invariant_of-self : goal.invariant_of-self
invariant_of-self g c =
    let all = c.args.self.now in
    let route : c.args.route ≡ c.shut.new.self.route = sym (ap (λ p. p.route) c.shut.ensures.rest ∙ ap (λ p. p.route) c.new-peer.ensures) in
    let test : c.is_operator.result ≡ is_operator_peer c.shut.new.self = c.is_operator.ensures ∙ ap is_operator route in
    record {
      places = pushed all.operators.items c.list_place.new.places.items all.items.items c.push_reserved-2.new.items.items c.shut.new.self all.places c.push_reserved-2.ensures.items
          (c.list_place.ensures.items ∙ ap (λ n. if c.is_operator.result then all.operators.items ++ n ∷ [] else all.operators.items) (c.len.ensures ∙ all.items.ok.0) ∙ ap (λ b. if b then all.operators.items ++ length all.items.items ∷ [] else all.operators.items) test);
      room = omega (arith, c.requires.1, c.list_place.ensures.capacity, c.push_reserved-2.ensures.len);
      keyed = keyed_pushed all.keys.items c.push_reserved.new.items.items c.key.result all.items.items c.push_reserved-2.new.items.items c.shut.new.self (c.key.ensures ∙ ap key_of route) all.keyed c.push_reserved.ensures.items c.push_reserved-2.ensures.items;
      ended_room = omega (arith, c.requires.1, c.push_reserved-2.ensures.len, c.list_ended.ensures.capacity);
      listed = subst (FailsOnlyAt is_open_peer c.list_ended.new.ended.items) c.deref.ensures.value c.list_ended.ensures.listed;
    }

pub returns : goal.returns
returns g c =
    (c.shut.new.self, subst (λ p. Closed g.T.Write.contents (Some (Policy, c.args.reason.now)) Gone p c.shut.new.self) c.new-peer.ensures c.shut.ensures, c.push_reserved-2.ensures.items)
