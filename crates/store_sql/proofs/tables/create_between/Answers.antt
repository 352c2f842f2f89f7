use Rattle.std.proofs.Common.{◌≡◌, ◌<◌, arith, rules, subst}
use Rattle.sqlite.specs.Held.{state}
use Rattle.sql_tables.specs.Opening.{our_form, tables_at}
use Rattle.sql_rows.specs.Opening.{IsInsideAs}
use Rattle.sql_rows.proofs.CreateLemmas.{part_then}
use Rattle.sql_rows.proofs.RaisingLemmas.{cut_later}
use Rattle.store_sql.proofs.tables.create_between.Goals as goal

pub forms-preserved : goal.forms-preserved
forms-preserved g c =
    let was = c.forms.invariant in
    let lower = c.forms-test.true in
    let known = c.requires.known in
    let earlier : c.forms.form < our_form = omega (arith, lower, known) in (
      part_then was.0 c.create_next.ensures.makes.part,
      λ rows begins. let it = was.1 rows begins in (cut_later c.forms.form earlier rows it.0, c.in_ok-create_next.ensures.makes.makes rows it),
    )

pub returns : goal.returns
returns g c =
    let last : c.forms.form ≡ c.args.to = search rules in
    record {
      makes = record {
        part = c.forms.invariant.0;
        makes = λ rows begins. subst (λ n. IsInsideAs rows (tables_at n) (state g.S.Store c.forms.tx.conn.now)) last (c.forms.invariant.1 rows begins).1;
      };
    }
