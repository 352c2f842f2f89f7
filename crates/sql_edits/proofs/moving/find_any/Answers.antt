use Rattle.std.proofs.Common.{refl}
use Rattle.sql_rows.proofs.StayLaws.{stays_asked}
use Rattle.sql_rows.proofs.StoreLemmas.{open_is_clean}
use Rattle.sql_rows.proofs.TxReads.{shows_any_inside}
use Rattle.sql_rows.proofs.TxTables.{any_reading}
use Rattle.sql_edits.proofs.moving.find_any.Goals as goal

pub returns : goal.returns
returns g c =
    let clean = open_is_clean _ _ (g.met.S.Store.shut_if_dirty c.query_all.new.self.conn.now.store) in
    let asked = c.query_all.ensures in
    record {
      shows = shows_any_inside any_reading asked.same_reference asked.ok asked.err asked.survives refl clean;
      stays = stays_asked (λ v. v.items) _ _ asked.same_reference asked.ok asked.err asked.survives clean;
    }
