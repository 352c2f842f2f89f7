use Rattle.std.proofs.Common.{◌≡◌, map, drop}
use Rattle.repairs.specs.Names.{alike, names}
use Rattle.repairs.proofs.names.alike.Given as goal

abbrev pub invariant-loop-name : goal.invariant-loop-name
invariant-loop-name g l = alike (names (map (λ row. (row.0.now, row.1)) (drop l.name-index l.name-items))) l.text ≡ alike (names g.T.Named.names) l.text
