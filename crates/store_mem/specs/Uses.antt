-- The uses of granted id tags, in groups by the owners of the tags.
use Rattle.std.specs.Prelude.{List, Option, Some, None}
use Rattle.hub_rows.specs.declared.use_row.UseRow.{UseRow}
use Rattle.store_mem.specs.declared.groups.Group.{Group}
use Rattle.store_mem.specs.Groups.{HasRoom}

-- there is room for a use, if there is one
abbrev pub HasRoomFor : Option UseRow → List (Group UseRow) → Type 0
HasRoomFor None groups = Unit {0}
HasRoomFor (Some r) groups = HasRoom r.op groups
