-- What an operator forgets of a station's history.
use Rattle.std.specs.Prelude.{ℕ, nat_le, List, codes, if◌then◌else◌, is_some, Result, Ok, Err}
use Rattle.ocpp_types.specs.declared.refusal.Refusal.{Refusal}
use Rattle.ocpp_types.specs.declared.refusal.Refusal.TheVariants.{BadField, NoSuchStation}
use Rattle.hub_rows.specs.declared.forgettable.History.{History}
use Rattle.hub_rows.specs.Lookups.{Lookups}

-- before a moment that isn't after that of the event
abbrev pub forget_rule : List ℕ → ℕ → ℕ → Lookups → Result History Refusal
forget_rule station until m l = if is_some (l.registration station) then (if nat_le until m then Ok (l.forgettable station until) else Err (BadField (codes "until"))) else Err NoSuchStation
