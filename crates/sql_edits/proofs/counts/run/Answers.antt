use Rattle.std.proofs.Common.{refl, rules, SFits, w64}
use Rattle.std.proofs.lemmas.Int.{to_z-of_z}
use Rattle.sql_rows.proofs.StoreLemmas.{open_is_clean}
use Rattle.sql_rows.proofs.EditLaws.{ran_as}
use Rattle.sql_edits.proofs.counts.run.Goals as goal

pub returns : goal.returns
returns g c =
    let fits : SFits w64 c.args.count = search rules in
    record {
      ran = ran_as c.execute.ensures.runs c.execute.ensures.survives (rw (c.params-to_sql.ensures, c.params-to_sql-2.ensures, to_z-of_z w64 c.args.count fits) refl)
          (open_is_clean _ _ (g.met.S.Store.shut_if_dirty c.execute.new.self.store));
    }
