use Rattle.std.proofs.Common.{Ok, map, take}
use Rattle.sqlite.specs.Held.{state}
use Rattle.hub_rows.specs.declared.store.StoreFault.{StoreFault}
use Rattle.sql_rows.specs.Kept.{ArePutIn, EditsIn}
use Rattle.sql_rows.specs.TypedTables.{entries, entry_row}
use Rattle.sql_edits.proofs.local_lists.put_entries.Given as goal

abbrev pub invariant-entries : goal.invariant-entries
invariant-entries g l = EditsIn {A = Unit {0}} {E = StoreFault} (ArePutIn entries (map (entry_row l.op l.station) (take l.entry-index l.list))) (state g.S.Store l.fn.conn) (state g.S.Store l.conn) (Ok tt)
