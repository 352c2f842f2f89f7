-- The bounds of a script.
use Rattle.std.specs.Prelude.{ℕ, ℤ, pos, negsuc, int_le, List, length, Bool, ◌&&◌, nat_le, if◌then◌else◌, Option, Some, None}
use Rattle.ocpp_types.specs.Text.{characters}
use Rattle.station_sim.specs.declared.script.BadScript.{BadScript}
use Rattle.station_sim.specs.declared.script.BadScript.TheVariants.{Vendor, Model, Tag, Connector, Readings}
use Rattle.station_sim.specs.declared.script.Script.{Script}

-- an integer of 64 bits
abbrev pub is_int_64 : ℤ → Bool
is_int_64 z = int_le (negsuc 9223372036854775807) z && int_le z (pos 9223372036854775807)

-- a name of 1 to 20 characters
abbrev pub is_name : List ℕ → Bool
is_name text = nat_le 1 (characters text) && nat_le (characters text) 20

-- a connector of a station: 1 to 255
abbrev pub is_connector : ℕ → Bool
is_connector n = nat_le 1 n && nat_le n 255

-- the first field of a script that is out of its bounds
abbrev pub bad_field : Script → Option BadScript
bad_field script =
    if is_name script.vendor then
    (if is_name script.model then
    (if nat_le (characters script.tag) 20 then
    (if is_connector script.connector then
    (if nat_le (length script.readings.items) 1000 then None else Some Readings)
    else Some Connector)
    else Some Tag)
    else Some Model)
    else Some Vendor
