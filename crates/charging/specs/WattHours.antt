-- The energy that readings show, in Wh.
use Rattle.std.specs.Prelude.{ℕ, ◌/◌, nat_le, ℤ, pos, negsuc, Bool, true, false, ◌&&◌, is_none, if◌then◌else◌, List, reverse, Option, Some, None, option_and_then}
use Rattle.std.specs.List.{filter_map}
use Rattle.ocpp_types.specs.Micro.{micro}
use Rattle.ocpp_types.specs.declared.location.Location.{Location}
use Rattle.ocpp_types.specs.declared.location.Location.TheVariants.{Outlet}
use Rattle.ocpp_types.specs.declared.measurand.Measurand.{Measurand}
use Rattle.ocpp_types.specs.declared.measurand.Measurand.TheVariants.{EnergyActiveImportRegister}
use Rattle.ocpp_types.specs.declared.unit_of_measure.UnitOfMeasure.{UnitOfMeasure}
use Rattle.ocpp_types.specs.declared.unit_of_measure.UnitOfMeasure.TheVariants.{Wh, KWh}
use Rattle.ocpp_types.specs.declared.value_format.ValueFormat.{ValueFormat}
use Rattle.ocpp_types.specs.declared.value_format.ValueFormat.TheVariants.{Raw}
use Rattle.hub_rows.specs.Keyed.{first}
use Rattle.hub_rows.specs.declared.meter_value_row.MeterValueRow.{MeterValueRow}
use Rattle.ocpp_types.specs.declared.sampled_value.SampledValue.{SampledValue}
use Rattle.charging.specs.declared.watt_hours.TheConstants.{MAX_WATT_HOURS}

abbrev pub is_import : Measurand → Bool
is_import EnergyActiveImportRegister = true
is_import m = false

abbrev pub is_outlet : Location → Bool
is_outlet Outlet = true
is_outlet l = false

abbrev pub is_raw : ValueFormat → Bool
is_raw Raw = true
is_raw f = false

-- no unit is that of energy
abbrev pub is_watt_hours : Option UnitOfMeasure → Bool
is_watt_hours None = true
is_watt_hours (Some Wh) = true
is_watt_hours (Some KWh) = true
is_watt_hours (Some u) = false

-- the register of the energy that was delivered at the outlet, over all phases
abbrev pub is_energy : SampledValue → Bool
is_energy r = is_import r.measurand && is_none r.phase && is_outlet r.location && is_raw r.format && is_watt_hours r.unit

-- the whole Wh of a number of millionths, if a meter can show so many
abbrev pub whole_watt_hours : ℤ → Option ℕ
whole_watt_hours (pos n) = if nat_le (n / 1000000) MAX_WATT_HOURS then Some (n / 1000000) else None
whole_watt_hours (negsuc n) = None

-- the energy that a reading shows, if it shows any
abbrev pub watt_hours : SampledValue → Option ℕ
watt_hours r = if is_energy r then option_and_then whole_watt_hours (micro r.value r.unit) else None

-- that of the last of some readings that shows any
abbrev pub last_shown : List SampledValue → Option ℕ
last_shown sampled = first (filter_map watt_hours (reverse sampled))

-- that of the last of some meter values that shows any
abbrev pub last_watt_hours : List MeterValueRow → Option ℕ
last_watt_hours rows = first (filter_map (λ r. last_shown r.value.sampled) (reverse rows))
