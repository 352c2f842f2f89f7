use Rattle.std.proofs.Common.{◌≡◌, ◌+◌, drop, length}
use Rattle.hub_rows.specs.Forgetting.{until_readings}
use Rattle.hub_rows.proofs.forgotten.count_until.Given as goal

abbrev pub invariant-loop-row : goal.invariant-loop-row
invariant-loop-row l = record {
  place : l.count ≡ l.row-index;
  left : l.count + length (until_readings l.left (drop l.row-index l.rows)) ≡ length (until_readings l.readings l.rows);
}
