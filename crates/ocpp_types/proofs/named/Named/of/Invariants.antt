use Rattle.std.proofs.Common.{◌≡◌, map, drop}
use Rattle.ocpp_types.specs.Named.{named}
use Rattle.ocpp_types.proofs.named.Named.of.Given as goal

abbrev pub invariant-loop-known : goal.invariant-loop-known
invariant-loop-known g l = named g.Self.Named.names l.name ≡ named (map (λ row. (row.0.now, row.1)) (drop l.known-index l.known-items)) l.name
