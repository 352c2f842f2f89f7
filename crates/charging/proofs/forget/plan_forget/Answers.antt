use Rattle.std.proofs.Common.{rules, ◌≡◌, ◌∙◌, ap, sym, Ok, Err, cond, codes, nat_le, true, is_some}
use Rattle.ocpp_types.specs.declared.refusal.Refusal.TheVariants.{BadField, NoSuchStation}
use Rattle.hub_rows.specs.Lookups.{Lookups, lookups_at}
use Rattle.charging.proofs.forget.plan_forget.Goals as goal

pub returns-clause-plan : goal.returns-clause-plan
returns-clause-plan g c = λ clean.
    let station = c.args.at.now.station.now in
    let until = c.args.until in
    let l : Lookups = lookups_at c.args.at.now.op.now (g.S.Store.view c.args.store.now).rows in
    let there : is_some (l.registration station) ≡ true = search rules in
    let early : nat_le until c.args.at.now.moment ≡ true = search rules in
    let rows : c.in_ok-forgettable.field-0 ≡ l.forgettable station until = search rules in
    ap Ok rows ∙ sym (λ i. cond (there i) (cond (early i) (Ok (l.forgettable station until)) (Err (BadField (codes "until")))) (Err NoSuchStation))
