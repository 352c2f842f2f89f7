use Rattle.std.proofs.Common.{Err, Ok, [], refl, rules, subst, true, ◌++◌, ◌∙◌, ◌∷◌, ◌≡◌, ℕ}
use Rattle.hub.specs.World.{Setting}
use Rattle.turn_hub.specs.TurnHub.{setting}
use Rattle.ws_peers.specs.declared.peer.Peer.{Peer}
use Rattle.ws_server.specs.Tells.{peers_of}
use Rattle.ws_server.specs.TurnServers.{ServesSome}
use Rattle.ws_server.specs.Turns.{AtPlace, Change, Serves}
use Rattle.ws_server.proofs.RecordLaws.{records_more, unchanged}
use Rattle.ws_server.proofs.StepLaws.{counted_more, each_more, err_is, stayed, taken_on}
use Rattle.ws_server.proofs.turn_server.TurnServer.serve_each.Goals as goal

pub loop-init : goal.loop-init
loop-init g c =
    let hosts = (setting g.V.VendorHandler.view c.args.self.now.hub).is_hosted in
    let old = peers_of c.args.self.now.gateway in
    record {
      takes = stayed _ _ _ _ (λ steps. ServesSome g.T.Read.remaining g.T.Write.contents hosts c.args.moment old old steps (Ok tt)) ([], (refl, refl, refl));
      counted = search rules;
      records = unchanged g.S.Store.view c.args.self.now.hub (true ≡ true);
      state = refl;
      written = refl;
    }

pub returns-in_err-served-clause-takes : goal.returns-in_err-served-clause-takes
returns-in_err-served-clause-takes g c =
    let inv = c.loop.invariant in
    let Under : Setting → ℕ → Change (Peer _) = λ st. Serves g.T.Read.remaining g.T.Write.contents st.is_hosted c.args.moment in
    let now = setting g.V.VendorHandler.view c.args.self.now.hub in
    let n = c.in-Some.place in
    let old = peers_of c.args.self.now.gateway in
    let mid = peers_of c.loop.self.gateway in
    let new = peers_of c.serve_at-served.new.self in
    let r = c.from_residual.result in
    let fault = c.in_err-served.field-0.0 in
    taken_on _ _ _ _ _ _ _ _ (λ steps. ServesSome g.T.Read.remaining g.T.Write.contents now.is_hosted c.args.moment old new steps r)
    (λ before after first more. (
      first.0 ++ (n ∷ []),
      each_more (Under now) first.0 n old mid new before after r first.1
          (subst (λ x. AtPlace (Under now) n mid new after x) (err_is r fault c.from_residual.ensures.0 c.from_residual.ensures.1) (subst (λ st. AtPlace (Under st) n mid new after (Err fault)) inv.takes.stays more)),
    ))
    c.in_err-served.ensures.counted.was_clean inv.takes c.in_err-served.ensures.takes

pub loop-preserved : goal.loop-preserved
loop-preserved g c =
    let inv = c.loop.invariant in
    let e = c.in_ok-served.ensures in
    let Under : Setting → ℕ → Change (Peer _) = λ st. Serves g.T.Read.remaining g.T.Write.contents st.is_hosted c.args.moment in
    let now = setting g.V.VendorHandler.view c.args.self.now.hub in
    let n = c.in-Some.place in
    let old = peers_of c.args.self.now.gateway in
    let mid = peers_of c.loop.self.gateway in
    let new = peers_of c.serve_at-served.new.self in
    record {
      takes = taken_on _ _ _ _ _ _ _ _ (λ steps. ServesSome g.T.Read.remaining g.T.Write.contents now.is_hosted c.args.moment old new steps (Ok tt))
          (λ before after first more. (first.0 ++ (n ∷ []), each_more (Under now) first.0 n old mid new before after (Ok tt) first.1 (subst (λ st. AtPlace (Under st) n mid new after (Ok tt)) inv.takes.stays more)))
          e.counted.was_clean inv.takes e.takes;
      counted = counted_more g.S.Store.view _ _ _ _ _ inv.counted e.counted;
      records = records_more g.S.Store.view _ _ _ _ _ refl inv.records e.records;
      state = inv.state;
      written = c.served.ensures ∙ (c.next.ensures ∙ inv.written);
    }
