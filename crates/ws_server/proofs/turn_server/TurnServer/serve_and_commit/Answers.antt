use Rattle.std.proofs.Common.{◌+◌, Err, Ok, OnOk, Result, length, refl, subst, sym}
use Rattle.ws_server.specs.Tells.{peers_of}
use Rattle.ws_server.specs.TurnServers.{TurnOf}
use Rattle.ws_server.proofs.JournalLaws.{small}
use Rattle.ws_server.proofs.turn_server.TurnServer.serve_and_commit.Goals as goal

ok_then : {A E P Q : Type 0} (r : Result A E) → OnOk r P → (P → Q) → OnOk r Q
ok_then (Ok x) p turn = turn p
ok_then (Err e) p turn = tt

pub returns-clause-told : goal.returns-clause-told
returns-clause-told g c =
    let old = c.args.self.now in
    let last = c.serve_turn.new.self.hub in
    let stage = c.in_ok-serve_turn.ensures.stage in
    let takes = stage.takes refl in
    let Turn = TurnOf g.S.Store.view g.V.VendorHandler.view g.T.Read.remaining g.T.Write.contents c.args.time.moment old in
    ok_then c.commit.result c.commit.ensures.ends (λ ends. record {
      last = last;
      takes = record {
        steps = takes.steps;
        change = subst (λ gateway. Turn (peers_of gateway) takes.steps) (sym c.commit.ensures.gateway) takes.change;
        runs = takes.runs;
        stays = takes.stays;
        journals = takes.journals;
      };
      ends = ends;
      kept = λ later on_record was. ends.kept on_record (stage.stays refl later on_record was);
      journaled = λ later n up count is_hosted all events was.
          let has = takes.journals.notes later n up count is_hosted all events was in
          (has.0, has.1, ends.journaled (small (length takes.steps + n) last (takes.journals.counts n up) count) is_hosted has.0 has.2);
    })
