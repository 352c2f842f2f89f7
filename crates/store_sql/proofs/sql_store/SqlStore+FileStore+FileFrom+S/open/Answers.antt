use Rattle.std.proofs.Common.{◌≡◌, Err, IfOk, IsTrue, Ok, Result, subst, sym}
use Rattle.std.specs.Prelude.{⊤}
use Rattle.sqlite.specs.Files.{file_state, over_files}
use Rattle.sqlite.specs.Start.{FindsIn}
use Rattle.sqlite.specs.State.{HasCleanDisk}
use Rattle.sqlite_wal.specs.Files.{image_at}
use Rattle.sql_rows.specs.Opening.{IsOurs, Prepares}
use Rattle.hub_rows.specs.Stops.{IsKept}
use Rattle.store_sql.specs.Store.{IsCleanSql, sql_view}
use Rattle.store_sql.specs.declared.fault.PrepareFault.{PrepareFault as Unfit}
use Rattle.store_sql.proofs.StopLaws.{along, under}
use Rattle.store_sql.proofs.sql_store.SqlStore+FileStore+FileFrom+S.open.Goals as goal

taken_as : {H V E : Type 0} (taken : V → H) (P : H → Type 0) (Q : V → Type 0) (r : Result V E) (h : H) → IfOk r (λ s. (taken s ≡ h) × Q s) → P h → IfOk r (λ s. P (taken s))
taken_as taken P Q (Ok s) h is p = subst P (sym is.0) p
taken_as taken P Q (Err e) h is p = tt

pub returns-in-Ok-clause-found : goal.returns-in-Ok-clause-found
returns-in-Ok-clause-found g c = taken_as (λ s. s.taken) (λ k. HasCleanDisk (file_state k) → FindsIn (image_at g.S.Start) (file_state k)) (λ s. s.failures ≡ 0) c.adopt.result c.in-Ok.conn c.adopt.ensures.fresh c.in-Ok.ensures.found

pub returns-in-Ok-clause-clean : goal.returns-in-Ok-clause-clean
returns-in-Ok-clause-clean g c = along (λ s. s.taken) (λ k s. IsOurs (file_state k) → IsTrue (file_state s.conn).is_open → IsCleanSql over_files s) (λ s. s.failures ≡ 0) c.adopt.result c.in-Ok.conn c.adopt.ensures.fresh c.adopt.ensures.clean

pub returns-in-Ok-clause-prepares : goal.returns-in-Ok-clause-prepares
returns-in-Ok-clause-prepares g c = along (λ s. s.taken) (λ k s. Prepares {A = ⊤} {E = Unfit} (file_state k) (file_state s.conn) (Ok tt)) (λ s. s.failures ≡ 0) c.adopt.result c.in-Ok.conn c.adopt.ensures.fresh c.adopt.ensures.prepares

pub returns-in-Ok-clause-kept : goal.returns-in-Ok-clause-kept
returns-in-Ok-clause-kept g c =
    along (λ s. s.taken) (λ k s. IsOurs (file_state k) → IsKept (sql_view over_files s)) (λ s. s.failures ≡ 0) c.adopt.result c.in-Ok.conn c.adopt.ensures.fresh
    (under (λ s. IsKept (sql_view over_files s)) c.adopt.result c.adopt.ensures.kept)
