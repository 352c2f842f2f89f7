-- Which stations are dropped.
use Rattle.std.specs.Prelude.{ℕ, List, Bool, ◌||◌, not, if◌then◌else◌, Option, Some, None, Result, Ok, Err}
use Rattle.ocpp_types.specs.declared.refusal.Refusal.{Refusal}
use Rattle.ocpp_types.specs.declared.refusal.Refusal.TheVariants.{NoSuchStation, NotAllowedNow, HasOpenTransactions}
use Rattle.hub_rows.specs.declared.change.Edit.{Edit}
use Rattle.hub_rows.specs.declared.change.Edit.TheVariants.{Stations}
use Rattle.hub_rows.specs.declared.change.StationEdit.TheVariants as edit
use Rattle.hub_rows.specs.declared.station_row.Registration.{Registration}
use Rattle.hub_rows.specs.Forgetting.{has_no_rows}
use Rattle.hub_rows.specs.Lookups.{Lookups}

-- whether the station is connected, or some of its history may be forgotten before that moment
abbrev pub is_needed : List ℕ → Bool → ℕ → Lookups → Bool
is_needed station is_connected m l = is_connected || not (has_no_rows (l.forgettable station m))

-- by how it is registered
abbrev pub dropped_edit : List ℕ → Bool → ℕ → Lookups → Option Registration → Result Edit Refusal
dropped_edit station is_connected m l None = Err NoSuchStation
dropped_edit station is_connected m l (Some r) =
    if l.has_open station then Err HasOpenTransactions else if is_needed station is_connected m l then Err NotAllowedNow else Ok (Stations (edit.StationDropped station))

-- a station that isn't connected, and of whose history no more may be forgotten
abbrev pub station_drop_rule : List ℕ → Bool → ℕ → Lookups → Result Edit Refusal
station_drop_rule station is_connected m l = dropped_edit station is_connected m l (l.registration station)
