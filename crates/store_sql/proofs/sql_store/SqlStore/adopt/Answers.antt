use Rattle.std.proofs.Common.{◌≡◌, IsTrue, Ok, ap, false, subst, sym, ◌∙◌}
use Rattle.std.specs.Prelude.{⊤}
use Rattle.sqlite.specs.Held.{state}
use Rattle.hub_rows.specs.Stops.{IsKept}
use Rattle.sql_rows.specs.Opening.{Prepares}
use Rattle.store_sql.specs.Store.{IsCleanSql, KeepsIfOurs, sql_view}
use Rattle.store_sql.specs.declared.fault.PrepareFault.{PrepareFault as Unfit}
use Rattle.store_sql.proofs.StopLaws.{Adopts, IsDisk, adopts, opened, opened_clean, opened_kept}
use Rattle.store_sql.proofs.sql_store.SqlStore.adopt.Given.{Over}
use Rattle.store_sql.proofs.sql_store.SqlStore.adopt.Goals as goal

disk : (g : Over) → IsDisk g.A.Store
disk g = record { survives = g.met.A.Store.survives; shut = g.met.A.Store.shut_if_dirty; stays = g.met.A.Store.stays; settled = g.met.A.Store.settled }

pub over-requires : goal.over-requires
over-requires g c =
    subst (λ h. KeepsIfOurs (state g.A.Store h) (state g.A.Store c.changes.new.conn) c.in_ok-changes.changes 0 false) (sym c.of-taken.ensures)
    (adopts g.A.Store (disk g) c.args.conn c.prepare.new.conn c.changes.new.conn c.in_ok-changes.changes c.in_ok-prepare.field-0 c.in_ok-prepare.ensures.prepares c.in_ok-changes.ensures.spared c.in_ok-changes.ensures.up c.in_ok-changes.ensures.found
    (sym c.is_autocommit.ensures.value ∙ c.if-not-is_autocommit.false)).keeps

made : (g : Over) (c : goal.After-over g) → Adopts g.A.Store c.args.conn c.changes.new.conn c.in_ok-changes.changes
made g c = adopts g.A.Store (disk g) c.args.conn c.prepare.new.conn c.changes.new.conn c.in_ok-changes.changes c.in_ok-prepare.field-0 c.in_ok-prepare.ensures.prepares c.in_ok-changes.ensures.spared c.in_ok-changes.ensures.up c.in_ok-changes.ensures.found
    (sym c.is_autocommit.ensures.value ∙ c.if-not-is_autocommit.false)

is : (g : Over) (c : goal.After-over g) → c.over.result ≡ opened c.args.conn c.changes.new.conn c.in_ok-changes.changes
is g c = c.over.ensures ∙ ap (λ h. opened h c.changes.new.conn c.in_ok-changes.changes) c.of-taken.ensures

pub returns-clause-clean : goal.returns-clause-clean
returns-clause-clean g c = λ ours up.
    subst (IsCleanSql g.A.Store) (sym (is g c)) (opened_clean g.A.Store c.args.conn c.changes.new.conn c.in_ok-changes.changes (made g c).keeps ours (subst (λ s. IsTrue (state g.A.Store s.conn).is_open) (is g c) up))

pub returns-clause-prepares : goal.returns-clause-prepares
returns-clause-prepares g c = subst (λ s. Prepares {A = ⊤} {E = Unfit} (state g.A.Store c.args.conn) (state g.A.Store s.conn) (Ok tt)) (sym (is g c)) (made g c).prepared

pub returns-clause-kept : goal.returns-clause-kept
returns-clause-kept g c = λ ours.
    subst (λ s. IsKept (sql_view g.A.Store s)) (sym (is g c)) (opened_kept g.A.Store c.args.conn c.changes.new.conn c.in_ok-changes.changes (made g c).keeps (disk g) tt (made g c).prepared ours)
