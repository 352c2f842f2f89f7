use Rattle.std.proofs.Common.{sym}
use Rattle.store_mem.proofs.Named.{none_named}
use Rattle.store_mem.proofs.reservations.drop_named.Goals as goal

pub returns-in_default : goal.returns-in_default
returns-in_default c =
    let b = c.args.op.now in
    let st = c.args.station.now in
    let rows = c.args.rows.now.items in
    sym (rw c.in_default.is (none_named b st rows))
