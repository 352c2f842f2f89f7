use Rattle.std.proofs.Common.{◌≡◌, length}
use denote.Shadow.{shadow}
use denote.Text.{Utf8}
use Rattle.repairs.specs.Texts.{without_zeros}
use Rattle.repairs.proofs.texts.without_zeros.Given as goal

abbrev pub invariant-loop-rest : goal.invariant-loop-rest
invariant-loop-rest l = record { same : without_zeros l.digits ≡ without_zeros l.text; utf8 : shadow (Utf8 l.digits) }

abbrev pub decreases-loop-rest : goal.decreases-loop-rest
decreases-loop-rest l = length l.digits
