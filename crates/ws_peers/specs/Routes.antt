-- What a connection stands for.
use Rattle.std.specs.Prelude.{ℕ, List, Bool, true, false, ◌&&◌, ◌+◌, ◌*◌, ◌%◌}
use Rattle.std.specs.List.{fold}
use Rattle.std.specs.Str.{bytes_eq}
use Rattle.ws_peers.specs.declared.routes.Route.{Route}
use Rattle.ws_peers.specs.declared.routes.Route.TheVariants.{Station, Operator}

-- it is that station of that operator
abbrev pub is_station : List ℕ → List ℕ → Route → Bool
is_station op station (Station o s) = bytes_eq o op && bytes_eq s station
is_station op station (Operator o) = false

-- it is that operator
abbrev pub is_operator_of : List ℕ → Route → Bool
is_operator_of op (Operator o) = bytes_eq o op
is_operator_of op (Station o s) = false

-- it is an operator
abbrev pub is_operator : Route → Bool
is_operator (Operator o) = true
is_operator (Station o s) = false

-- a key after one more byte
unfoldable pub mixed : ℕ → ℕ → ℕ
mixed key byte = (key * 257 + byte) % 4_294_967_291

-- a key of a station, so that equal names have equal keys
abbrev pub station_key : List ℕ → List ℕ → ℕ
station_key op station = fold mixed (fold mixed 0 op) station

-- the key of what a connection stands for
abbrev pub key_of : Route → ℕ
key_of (Station op station) = station_key op station
key_of (Operator op) = 0

-- the operator that it names
abbrev pub named_operator : Route → List ℕ
named_operator (Station op station) = op
named_operator (Operator op) = op
