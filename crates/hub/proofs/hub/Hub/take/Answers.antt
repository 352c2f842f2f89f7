use Rattle.std.proofs.Common.{◌≡◌, ◌∙◌, Err, Ok, OnErr, OnOk, Result, ap, inl, inr}
use Rattle.hub_rows.proofs.OnRecord.{kept_same}
use Rattle.hub.specs.Hub.{hub_view, world, setting}
use Rattle.hub.specs.World.{world_step}
use Rattle.hub.proofs.hub.Hub.take.Goals as goal

ok_then : {T E P Q : Type 0} (r : Result T E) → OnOk r P → (P → Q) → OnOk r Q
ok_then (Ok x) p turn = turn p
ok_then (Err e) p turn = tt

err_then : {T E P Q : Type 0} (r : Result T E) → OnErr r P → (P → Q) → OnErr r Q
err_then (Ok x) p turn = tt
err_then (Err e) p turn = turn p

pub returns-clause-records : goal.returns-clause-records
returns-clause-records g c =
    let old = hub_view g.S.Store.view c.args.self.now in
    let mid = hub_view g.S.Store.view c.prepare.new.self in
    let it = c.commit.ensures.records in
    let stays = c.in_ok-step.ensures.stays in
    record {
      stopped = λ now on_record was r found.
          let one = it.stopped now on_record (stays on_record was) r found in (
            one.0,
            elim one.1 [
              | inl before ↦ inl before
              | inr after ↦
                  let same : world_step (setting g.V.VendorHandler.view c.prepare.new.self) (world g.S.Store.view c.prepare.new.self) c.args.event.now ≡ world_step (setting g.V.VendorHandler.view c.args.self.now) (world g.S.Store.view c.args.self.now) c.args.event.now
                  = λ i. world_step (c.prepare.ensures.setting i) (c.prepare.ensures.world after.0 i) c.args.event.now in
                  inr (c.prepare.ensures.counted.was_clean after.0, after.1 ∙ ap (λ w. w.rows) same)
            ],
          );
      kept = λ now kept. it.kept now (kept_same old mid (λ clean. ap (λ w. w.rows) (c.prepare.ensures.world clean)) stays kept);
      waits = λ later. ok_then c.commit.result (it.waits later) (λ waits on_record was. waits on_record (stays on_record was));
      left = λ later. err_then c.commit.result (it.left later) (λ left on_record was. left on_record (stays on_record was));
    }
