use Rattle.std.proofs.Common.{◌≡◌, take}
use Rattle.std.specs.List.{AllByRecursion}
use Rattle.store_sql.proofs.same.same_items.Given as goal

abbrev pub invariant-items : goal.invariant-items
invariant-items g l = (take l.i l.a ≡ take l.i l.b) × AllByRecursion g.T.Same.is_simple (take l.i l.b)
