use Rattle.std.proofs.Common.{◌∷◌, ◌==◌, [], ℕ, List, pos, refl, subst, sym}
use Rattle.sqlite_value.specs.declared.value.Value.TheVariants.{Int, Text}
use Rattle.sql_rows.proofs.StoreLemmas.{Means, open_is_clean}
use Rattle.sql_rows.specs.Kept.{IsMade}
use Rattle.sql_edits.specs.Forget.{dropped}
use Rattle.sql_edits.proofs.Forgotten.{drops_one}
use Rattle.sql_rows.proofs.EditLaws.{edits_step}
use Rattle.sql_edits.proofs.forget.drop_row.Goals as goal

pub returns : goal.returns
returns g c =
    let history = c.args.history in
    let op = c.args.op.now in
    let station = c.args.station.now in
    let number = c.args.number in
    let means = subst (λ (sql : List ℕ). Means sql (Text op ∷ Text station ∷ Int (pos number) ∷ Int (pos number) ∷ []) (IsMade (dropped history op station (λ n. number == n)))) (sym c.drop_text.ensures) (drops_one history op station number) in
    record {
      edits = edits_step means c.execute.result c.execute.ensures.runs c.execute.ensures.survives
          (rw (c.params-to_sql.ensures, c.params-to_sql-2.ensures, c.params-to_sql-3.ensures, c.params-to_sql-4.ensures) refl) (open_is_clean _ _ (g.met.S.Store.shut_if_dirty c.execute.new.self.store)) c.done.ensures.ok c.done.ensures.err;
    }
