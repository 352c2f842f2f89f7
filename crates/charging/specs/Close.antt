-- How an operator closes a transaction.
use Rattle.std.specs.Prelude.{ℕ, ℤ, pos, ◌*◌, nat_le, codes, Bool, true, List, [], if◌then◌else◌, is_some, Option, Some, None, Result, Ok, Err}
use Rattle.ocpp_types.specs.declared.reason.Reason.TheVariants.{Other}
use Rattle.ocpp_types.specs.declared.refusal.Refusal.{Refusal}
use Rattle.ocpp_types.specs.declared.refusal.Refusal.TheVariants.{BadField, NoSuchStation, NoSuchTransaction}
use Rattle.hub_rows.specs.declared.change.Edit.{Edit}
use Rattle.hub_rows.specs.declared.change.Edit.TheVariants.{Transactions}
use Rattle.hub_rows.specs.declared.change.TransactionEdit.TheVariants.{TxStopped}
use Rattle.hub_rows.specs.declared.meter_value_row.MeterValueRow.{MeterValueRow}
use Rattle.hub_rows.specs.declared.tx_row.Stop.{Stop}
use Rattle.hub_rows.specs.declared.tx_row.TxState.{TxState}
use Rattle.hub_rows.specs.Lookups.{Lookups}
use Rattle.charging.specs.WattHours.{last_watt_hours}
use Rattle.charging.specs.declared.watt_hours.TheConstants.{MAX_WATT_HOURS}

-- the last that its readings show, or the meter at its start
abbrev pub shown_or : ℤ → Option ℕ → ℤ
shown_or meter_start None = meter_start
shown_or meter_start (Some wh) = pos wh

-- the meter as it was given, or else by its readings
abbrev pub meter_at_close : Option ℕ → ℤ → List MeterValueRow → ℤ
meter_at_close (Some meter) meter_start rows = pos meter
meter_at_close None meter_start rows = shown_or meter_start (last_watt_hours rows)

-- the stop as it is kept: at the moment, for the reason Other, without a tag
abbrev pub closed_at : ℕ → ℤ → Stop
closed_at m meter = record { meter_stop = meter; at = pos (m * 1000); reason = Other; tag = None; moment = m }

-- a meter can't show more
abbrev pub is_meter : Option ℕ → Bool
is_meter None = true
is_meter (Some meter) = nat_le meter MAX_WATT_HOURS

-- by the state of transaction n and the meter values that were sent with it
abbrev pub close_edit : List ℕ → ℕ → Option ℕ → ℕ → List MeterValueRow → Option TxState → Result Edit Refusal
close_edit station n meter m rows None = Err NoSuchTransaction
close_edit station n meter m rows (Some t) =
    if t.is_open then (if is_meter meter then Ok (Transactions (TxStopped station n (closed_at m (meter_at_close meter t.meter_start rows)) 0 [])) else Err (BadField (codes "meterStop"))) else Err NoSuchTransaction

abbrev pub close_rule : List ℕ → ℕ → Option ℕ → ℕ → Lookups → Result Edit Refusal
close_rule station n meter m l = if is_some (l.registration station) then close_edit station n meter m (l.meter_values station (Some n)) (l.tx station n) else Err NoSuchStation
