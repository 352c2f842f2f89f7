-- Where a path leads, by the table of the two patterns.
use Rattle.std.specs.Prelude.{ℕ, List, [], ◌∷◌, ◌++◌, Option, Some, None, Bool, if◌then◌else◌, ◌==◌, drop, take, length, option_map, nat_lt, codes}
use Rattle.std.specs.Str.{bytes_eq}
use Rattle.std.specs.List.{before_first, after_first, position_or_len}
use Rattle.std.specs.Str.Lossy.{utf8_valid_len}
use Rattle.matchit.specs.Rows.{RowsOf, param_token}
use Rattle.matchit.specs.Router.{RouteOf}
use Rattle.matchit.specs.Seek.{first}
use Rattle.percent_encoding.specs.Percent.{percent_decode}
use Rattle.ws_peers.specs.declared.routes.Route.{Route}
use Rattle.ws_peers.specs.declared.routes.Route.TheVariants.{Station, Operator}
use Rattle.ws_peers.specs.declared.paths.Pattern.{Pattern}
use Rattle.ws_peers.specs.declared.paths.Pattern.TheVariants as pattern

-- the two patterns as the router keeps them
unfoldable pub table : RowsOf (RouteOf Pattern)
table = (
  codes "/ocpp/" ++ param_token ∷ 47 ∷ param_token ∷ [],
  record {
    pattern = codes "/ocpp/" ++ param_token ∷ 47 ∷ param_token ∷ [];
    text = codes "/ocpp/{operator}/{station}";
    names = (7, 15) ∷ (18, 25) ∷ [];
    value = pattern.Station;
  },
)
    ∷ (
      codes "/operator/" ++ param_token ∷ [],
      record {
        pattern = codes "/operator/" ++ param_token ∷ [];
        text = codes "/operator/{operator}";
        names = (11, 19) ∷ [];
        value = pattern.Operator;
      },
    )
    ∷ []

-- the pattern that the path has, if any
abbrev pub pattern_of : List ℕ → Option Pattern
pattern_of path = option_map (λ r. r.value) (first table path)

abbrev pub is_slash : ℕ → Bool
is_slash byte = byte == 47

-- what follows a text, if it begins the path
abbrev pub cut : List ℕ → List ℕ → Option (List ℕ)
cut front path = if bytes_eq (take (length front) path) front then Some (drop (length front) path) else None

-- a station, if its name is UTF-8
abbrev pub station_at : List ℕ → List ℕ → Option Route
station_at op station = if utf8_valid_len station == length station then Some (Station op station) else None

-- the operator up to the slash, and the station's name after it with its escapes decoded
abbrev pub station_in : List ℕ → Option Route
station_in rest =
    if nat_lt (position_or_len is_slash rest) (length rest)
    then station_at (before_first is_slash rest) (percent_decode (after_first is_slash rest))
    else None

abbrev pub station_of : Option (List ℕ) → Option Route
station_of None = None
station_of (Some rest) = station_in rest

abbrev pub operator_of : Option (List ℕ) → Option Route
operator_of None = None
operator_of (Some rest) = Some (Operator rest)

abbrev pub leads : Option Pattern → List ℕ → Option Route
leads None path = None
leads (Some pattern.Station) path = station_of (cut (codes "/ocpp/") path)
leads (Some pattern.Operator) path = operator_of (cut (codes "/operator/") path)

-- where a path leads, if anywhere
unfoldable pub route_of : List ℕ → Option Route
route_of path = leads (pattern_of path) path
