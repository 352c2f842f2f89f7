use Rattle.std.proofs.Common.{arith}
use Rattle.hub_rows.proofs.forgettable.History.count_readings.Goals as goal

-- the lengths of 2^64 lists fit 128 bits
pub overflow_add-count : goal.overflow_add-count
overflow_add-count c =
    let bound = c.loop-row.invariant.bound in
    let few = c.as_slice.type_inv.0 in
    let index = c.loop-row-test.true in
    let rows = c.as_slice-row-items.type_inv.0 in
    omega (arith, bound, few, index, rows)
