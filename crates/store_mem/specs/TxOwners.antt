-- The owners of the id tags with which transactions began.
use Rattle.std.specs.Prelude.{ℕ, ◌<◌, List, map, Option, Some, None}
use Rattle.std.specs.Option.{option_map}
use Rattle.std.specs.Str.{bytes_eq}
use Rattle.hub_rows.specs.declared.tx_row.TxOwnerRow.{TxOwnerRow}
use Rattle.hub_rows.specs.Keyed.{by_key, greatest, put, those}
use Rattle.hub_rows.specs.Rows.{tx_owner_key}
use Rattle.store_mem.specs.declared.named_groups.NamedGroup.{NamedGroup}
use Rattle.store_mem.specs.NamedGroups.{HasRoomAt}

-- the row of a transaction that begins, if another operator granted its tag
abbrev pub owner_row : List ℕ → List ℕ → ℕ → Option (List ℕ) → Option TxOwnerRow
owner_row b station number owner = option_map (λ a. record { op = b; station = station; number = number; owner = a }) owner

-- the rows with that one
abbrev pub with_row : Option TxOwnerRow → List TxOwnerRow → List TxOwnerRow
with_row None rows = rows
with_row (Some r) rows = put (by_key tx_owner_key) r rows

-- there is room for it
abbrev pub HasRoomFor : Option TxOwnerRow → List (NamedGroup TxOwnerRow) → Type 0
HasRoomFor None groups = Unit {0}
HasRoomFor (Some r) groups = HasRoomAt r.op r.station groups

-- its number is above those of its station's rows
abbrev pub IsBehind : Option TxOwnerRow → List TxOwnerRow → Type 0
IsBehind None rows = Unit {0}
IsBehind (Some r) rows = greatest (map (λ x. x.number) (those (λ x. x.op) r.op (λ x. bytes_eq x.station r.station) rows)) < r.number
