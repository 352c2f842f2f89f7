-- What every session of a station keeps.
use Rattle.std.specs.Prelude.{◌≡◌, ◌≤◌, ℕ, List, Bool, true, nat_le, IsNone, Option, Some, None}
use Rattle.ocpp_types.specs.Text.{characters}
use Rattle.station_sim.specs.Bounds.{bad_field, is_int_64}
use Rattle.station_sim.specs.Results.{is_int_32}
use Rattle.station_sim.specs.declared.session.Session.{Session}
use Rattle.station_sim.specs.declared.session.TheConstants.{MAX_CALLS}
use Rattle.station_sim.specs.declared.stage.Stage.{Stage}
use Rattle.station_sim.specs.declared.stage.Stage.TheVariants.{Boot, Status, Authorize, Start, Charging, Stopping, Refused, Idle, Ended}

-- a transaction has a number of 32 bits
abbrev pub has_number : Stage → Bool
has_number Boot = true
has_number Status = true
has_number Authorize = true
has_number Start = true
has_number (Charging transaction sent) = is_int_32 transaction
has_number (Stopping transaction) = is_int_32 transaction
has_number (Refused transaction) = is_int_32 transaction
has_number Idle = true
has_number Ended = true

-- the tag of a command, if there is one, has at most 20 characters
abbrev pub has_short_tag : Option (List ℕ) → Bool
has_short_tag None = true
has_short_tag (Some tag) = nat_le (characters tag) 20

-- a session of a script within its bounds, with a tag of a command that fits, and at most MAX_CALLS calls
pub record IsSession (s : Session) : Type 0 where
  pub bounds : IsNone (bad_field s.script)
  pub start_meter : is_int_64 s.script.meter_start ≡ true
  pub number : has_number s.stage ≡ true
  pub tag : has_short_tag s.ordered ≡ true
  pub few : s.calls ≤ MAX_CALLS
