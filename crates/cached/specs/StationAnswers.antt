-- Answers on how stations are registered.
use Rattle.std.specs.Prelude.{◌≡◌, ℕ, List, Option, Some, None}
use Rattle.hub_rows.specs.declared.change.Edit.{Edit}
use Rattle.hub_rows.specs.declared.change.Edit.TheVariants.{Stations}
use Rattle.hub_rows.specs.declared.change.StationEdit.TheVariants.{StationAdded, BootSeen, PolicySet, StationDropped}
use Rattle.hub_rows.specs.Rows.{Rows, registration_at}
use Rattle.cached.specs.Digests.{station_digest}
use Rattle.cached.specs.declared.station_answer.StationAnswer.{StationAnswer}

-- it is of that station of operator a
pub record IsOf (a name : List ℕ) (answer : StationAnswer) : Type 0 where
  pub op : answer.op ≡ a
  pub station : answer.station ≡ name

-- it is what the rows give
abbrev pub IsRegistered : Rows → StationAnswer → Type 0
IsRegistered rows answer = answer.registration ≡ registration_at answer.op answer.station rows

-- the number of its station
abbrev pub digest_of_station : StationAnswer → ℕ
digest_of_station answer = station_digest answer.op answer.station

-- the station whose record an edit changes
abbrev pub changed_station : Edit → Option (List ℕ)
changed_station (Stations (StationAdded station policy interval)) = Some station
changed_station (Stations (BootSeen station boot state)) = Some station
changed_station (Stations (PolicySet station policy interval)) = Some station
changed_station (Stations (StationDropped station)) = Some station
changed_station e = None
