use Rattle.std.proofs.Common.{◌∙◌, ◌++◌, [], ◌∷◌, append_assoc, ap, arith, length, refl}
use Rattle.sql_lookups.proofs.FirstLaws.{left_after}
use Rattle.sql_lookups.proofs.first_values.add_values.Goals as goal

pub loop-row-preserved : goal.loop-row-preserved
loop-row-preserved c =
    let x = c.in-Some.row in
    let sampled = ap length c.as_slice.ensures in
    let fewer = c.saturating_sub.ensures in
    record {
      added = c.in_ok-push.ensures.items ∙ ap (λ l. l ++ x ∷ []) c.loop-row.invariant.added ∙ append_assoc c.args.values.now.items c.loop-row.yielded (x ∷ []);
      left = left_after c.args.left.now c.loop-row.left c.saturating_sub.result c.loop-row.yielded (x ∷ []) (c.loop-row.yielded ++ x ∷ []) c.loop-row.invariant.left (omega (arith, sampled, fewer)) refl;
    }
