-- Which stations are added.
use Rattle.std.specs.Prelude.{ℕ, nat_le, List, length, codes, Bool, ◌&&◌, if◌then◌else◌, Option, Some, None, Result, Ok, Err}
use Rattle.std.specs.List.{list_all}
use Rattle.ocpp_types.specs.declared.policy.Policy.{Policy}
use Rattle.ocpp_types.specs.declared.refusal.Refusal.{Refusal}
use Rattle.ocpp_types.specs.declared.refusal.Refusal.TheVariants.{StationExists, BadField}
use Rattle.registry.specs.declared.station_added.TheConstants.{MAX_INTERVAL}
use Rattle.hub_rows.specs.declared.change.Edit.{Edit}
use Rattle.hub_rows.specs.declared.change.Edit.TheVariants.{Stations}
use Rattle.hub_rows.specs.declared.change.StationEdit.TheVariants as edit
use Rattle.hub_rows.specs.declared.station_row.Registration.{Registration}
use Rattle.hub_rows.specs.Lookups.{Lookups}

-- 1 to 48 characters from `!` to `~`
abbrev pub is_station_name : List ℕ → Bool
is_station_name text = nat_le 1 (length text) && nat_le (length text) 48 && list_all (λ c. nat_le 33 c && nat_le c 126) text

abbrev pub new_station_edit : List ℕ → Policy → ℕ → Option Registration → Result Edit Refusal
new_station_edit station policy interval None = Ok (Stations (edit.StationAdded station policy interval))
new_station_edit station policy interval (Some r) = Err StationExists

abbrev pub add_rule : List ℕ → Policy → ℕ → Lookups → Result Edit Refusal
add_rule station policy interval l =
    if is_station_name station then (if nat_le interval MAX_INTERVAL then new_station_edit station policy interval (l.registration station) else Err (BadField (codes "interval"))) else Err (BadField (codes "station"))
