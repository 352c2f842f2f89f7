-- Which policies are set.
use Rattle.std.specs.Prelude.{ℕ, nat_le, List, codes, Bool, true, false, ◌&&◌, if◌then◌else◌, Option, Some, None, Result, Ok, Err}
use Rattle.ocpp_types.specs.declared.policy.Policy.{Policy}
use Rattle.ocpp_types.specs.declared.policy.Policy.TheVariants.{Accepted, Pending, Rejected}
use Rattle.ocpp_types.specs.declared.refusal.Refusal.{Refusal}
use Rattle.ocpp_types.specs.declared.refusal.Refusal.TheVariants.{NoSuchStation, BadField, HasOpenTransactions}
use Rattle.registry.specs.declared.station_added.TheConstants.{MAX_INTERVAL}
use Rattle.hub_rows.specs.declared.change.Edit.{Edit}
use Rattle.hub_rows.specs.declared.change.Edit.TheVariants.{Stations}
use Rattle.hub_rows.specs.declared.change.StationEdit.TheVariants as edit
use Rattle.hub_rows.specs.declared.station_row.Registration.{Registration}
use Rattle.hub_rows.specs.Lookups.{Lookups}

abbrev pub is_rejected : Policy → Bool
is_rejected Accepted = false
is_rejected Pending = false
is_rejected Rejected = true

-- whether an open transaction of the station keeps it from the policy
abbrev pub is_kept_from : List ℕ → Policy → Lookups → Bool
is_kept_from station policy l = is_rejected policy && l.has_open station

-- by whether an open transaction keeps it from the policy, and by how it is registered
abbrev pub policy_edit : List ℕ → Policy → ℕ → Bool → Option Registration → Result Edit Refusal
policy_edit station policy interval kept None = Err NoSuchStation
policy_edit station policy interval kept (Some r) =
    if nat_le interval MAX_INTERVAL then (if kept then Err HasOpenTransactions else Ok (Stations (edit.PolicySet station policy interval))) else Err (BadField (codes "interval"))

abbrev pub policy_rule : List ℕ → Policy → ℕ → Lookups → Result Edit Refusal
policy_rule station policy interval l = policy_edit station policy interval (is_kept_from station policy l) (l.registration station)
