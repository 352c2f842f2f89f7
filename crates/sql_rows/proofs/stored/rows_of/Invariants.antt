use Rattle.std.proofs.Common.{◌≡◌, [], map, take}
use Rattle.hub_rows.specs.Keyed.{by_key, put_all}
use Rattle.sql_rows.proofs.stored.rows_of.Given as goal

abbrev pub invariant-rows : goal.invariant-rows
invariant-rows g l = l.read.items ≡ put_all (by_key g.R.Keyed.key) (map g.R.Stored.read (take l.row-index l.rows)) []
