use Rattle.std.proofs.Common.{rules, ◌≡◌, ◌∙◌, ap, sym, false, not}
use Rattle.std.specs.Prelude.{◌||◌}
use Rattle.hub_rows.specs.Forgetting.{has_no_rows}
use Rattle.hub_rows.specs.Lookups.{Lookups, forgettable_in, lookups_at}
use Rattle.hub_rows.specs.Rows.{Rows}
use Rattle.registry.proofs.station_dropped.is_needed.Goals as goal

pub returns-clause-found : goal.returns-clause-found
returns-clause-found g c = λ clean.
    let station = c.args.at.now.station.now in
    let m = c.args.at.now.moment in
    let l : Lookups = lookups_at c.args.at.now.op.now (g.S.Store.view c.args.store.now).rows in
    let apart : c.args.is_connected ≡ false = search rules in
    let all : Rows = (g.S.Store.view c.args.store.now).rows in
    let rows : c.in_ok-history.history ≡ l.forgettable station m = c.in_ok-history.ensures.found clean ∙ (λ i. forgettable_in (c.as_str.ensures i) (c.as_str-2.ensures i) m all) in
    ap not (c.is_empty.ensures ∙ ap has_no_rows rows) ∙ sym (λ i. apart i || not (has_no_rows (l.forgettable station m)))
