use Rattle.std.proofs.Common.{◌≡◌, [], ◌∷◌, ◌++◌, drop}
use Rattle.json.specs.Token.{Token}
use Rattle.meter_values.proofs.TokenLaws.{left}
use Rattle.meter_values.proofs.write.write_sampled.Given as goal

abbrev pub invariant-loop-one : goal.invariant-loop-one
invariant-loop-one l = record { before : l.out.before ≡ []; tokens : l.out.tokens ++ left (drop l.one-index l.sampled) ≡ Token.begin_array ∷ left l.sampled }
