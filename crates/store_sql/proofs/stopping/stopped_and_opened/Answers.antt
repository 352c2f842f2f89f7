use Rattle.std.proofs.Common.{◌≡◌, IsTrue, subst}
use Rattle.sqlite_trees.specs.View.{IsQuiet}
use Rattle.sqlite.specs.Held.{state}
use Rattle.hub_rows.specs.Stops.{IsKept}
use Rattle.sql_rows.specs.Opening.{IsOurs}
use Rattle.store_sql.specs.Store.{IsCleanSql, sql_view}
use Rattle.store_sql.proofs.StopLaws.{along, under, found_then}
use Rattle.store_sql.proofs.stopping.stopped_and_opened.Goals as goal

pub returns-else-not-has_all_tables-clause-found : goal.returns-else-not-has_all_tables-clause-found
returns-else-not-has_all_tables-clause-found g c =
    let conn = c.in-Ok.conn in
    found_then g.A.Store g.met.A.Store.shut_if_dirty c.args.store c.into_store-pages.result c.crash_and_reopen.new.self conn
    (subst (λ h. IsQuiet g.A.Store.view g.A.Store.faults g.A.Store.recovers g.A.Store.is_shielded h.store c.into_store-pages.result) c.into_connection.ensures.same c.into_store-pages.ensures.quiet)
    c.crash_and_reopen.ensures.clean c.in_default.ensures.found c.in_default.ensures.fresh.clean c.in-Ok.ensures.clean c.in-Ok.ensures.trees
    (c.has_all_tables.ensures c.if-not-has_all_tables.false) _ tt c.adopt.result c.adopt.ensures.prepares

pub returns-else-not-has_all_tables-clause-clean : goal.returns-else-not-has_all_tables-clause-clean
returns-else-not-has_all_tables-clause-clean g c =
    along (λ s. s.taken) (λ k s. IsOurs (state g.A.Store k) → IsTrue (state g.A.Store s.conn).is_open → IsCleanSql g.A.Store s) (λ s. s.failures ≡ 0) c.adopt.result c.in-Ok.conn c.adopt.ensures.fresh
    c.adopt.ensures.clean

pub returns-else-not-has_all_tables-clause-kept : goal.returns-else-not-has_all_tables-clause-kept
returns-else-not-has_all_tables-clause-kept g c =
    along (λ s. s.taken) (λ k s. IsOurs (state g.A.Store k) → IsKept (sql_view g.A.Store s)) (λ s. s.failures ≡ 0) c.adopt.result c.in-Ok.conn c.adopt.ensures.fresh
    (under (λ s. IsKept (sql_view g.A.Store s)) c.adopt.result c.adopt.ensures.kept)
