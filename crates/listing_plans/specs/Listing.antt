-- The rows of each listing.
use Rattle.std.specs.Prelude.{ℕ, List, [], ◌∷◌, ◌++◌, map, filter, Option, Some, None, Result, Ok, Err, ◌≡◌, IfOk}
use Rattle.ocpp_types.specs.declared.refusal.Refusal.{Refusal}
use Rattle.ocpp_types.specs.declared.refusal.Refusal.TheVariants.{NoSuchStation}
use Rattle.ocpp_types.specs.declared.sampled_value.SampledValue.{SampledValue}
use Rattle.std.specs.List.{enumerate_from, flat_map}
use Rattle.charging.specs.Forget.{forget_rule}
use Rattle.hub_rows.specs.declared.forgettable.History.{History}
use Rattle.hub_rows.specs.declared.meter_value_row.MeterValueRow.{MeterValueRow}
use Rattle.hub_rows.specs.declared.station_row.Registration.{Registration}
use Rattle.hub_rows.specs.declared.list_row.LocalList.{LocalList}
use Rattle.hub_rows.specs.declared.reservation_row.ReservationRow.{ReservationRow}
use Rattle.hub_rows.specs.declared.store.StoreFault.{StoreFault}
use Rattle.hub_rows.specs.Lookups.{Lookups, lookups_at}
use Rattle.hub_rows.specs.Reads.{OnlyReads}
use Rattle.hub_rows.specs.StoreView.{StoreView}
use Rattle.holdings.specs.Reservation.{is_current}
use Rattle.hub_events.specs.declared.listing.Listing.{Listing}
use Rattle.hub_events.specs.declared.listing.Listing.TheVariants as listing
use Rattle.hub_events.specs.declared.listing.Row.{Row}
use Rattle.hub_events.specs.declared.listing.Row.TheVariants as row
use Rattle.hub_events.specs.declared.reading_row.ReadingRow.{ReadingRow}
use Rattle.pending_calls.specs.Slot.{count_calls}
use Rattle.plans.specs.declared.plan.Plan.{Plan}
use Rattle.plans.specs.Effects.{StationSlot, IsReady}
use Rattle.plans.specs.Plans.{list_plan}

-- of a station that is there
abbrev pub of_station : Option Registration → List Row → Result (List Row) Refusal
of_station None rows = Err NoSuchStation
of_station (Some found) rows = Ok rows

-- the reservations that count at a moment
abbrev pub current : ℕ → List ReservationRow → List ReservationRow
current m rows = filter (λ r. is_current m r.reservation.expiry) rows

-- the version of a station's list, 0 where none is kept, and its entries
abbrev pub list_rows : List ℕ → Option LocalList → List Row
list_rows station None = row.LocalList station 0 ∷ []
list_rows station (Some list) = row.LocalList station list.version ∷ map (row.LocalTag station) list.entries

-- a reading of a meter value, by its number
abbrev pub reading_row : MeterValueRow → ℕ × SampledValue → ReadingRow
reading_row r s = record { station = r.station; number = s.0; connector = r.value.connector; transaction = r.value.transaction; at = r.value.at; sampled = s.1 }

-- the readings of a meter value, numbered from its first one on
abbrev pub readings_of : MeterValueRow → List ReadingRow
readings_of r = map (reading_row r) (enumerate_from r.first r.value.sampled)

-- those of meter values
abbrev pub reading_rows : List MeterValueRow → List Row
reading_rows rows = map row.Reading (flat_map readings_of rows)

-- those of a station's history
abbrev pub history_rows : Result History Refusal → Result (List Row) Refusal
history_rows (Ok h) = Ok (reading_rows h.meter_values ++ map row.Transaction h.transactions)
history_rows (Err refusal) = Err refusal

-- the rows that a listing shows at a moment, or its refusal
abbrev pub rows_rule : Listing → ℕ → Lookups → Result (List Row) Refusal
rows_rule listing.Stations m l = Ok (map row.Station l.stations)
rows_rule listing.Tags m l = Ok (map row.Tag l.tags)
rows_rule listing.Grants m l = Ok (map row.Grant l.grants)
rows_rule listing.Granted m l = Ok (map row.Granted l.granted)
rows_rule listing.Uses m l = Ok (map row.Use l.uses)
rows_rule listing.Readers m l = Ok (map row.Reader l.readers)
rows_rule (listing.Connectors station) m l = of_station (l.registration station) (map row.Connector (l.connectors station))
rows_rule listing.OpenTransactions m l = Ok (map row.Transaction l.open_txs)
rows_rule (listing.Transactions station first) m l = of_station (l.registration station) (map row.Transaction (l.txs station first))
rows_rule (listing.Readings station n) m l = of_station (l.registration station) (reading_rows (l.meter_values station n))
rows_rule (listing.Reservations station) m l = of_station (l.registration station) (map row.Reservation (current m (l.reservations station)))
rows_rule (listing.LocalList station) m l = of_station (l.registration station) (list_rows station (l.local_list station))
rows_rule (listing.Reports station) m l = of_station (l.registration station) (map row.Report (l.reports station))
rows_rule (listing.Forgettable station until) m l = history_rows (forget_rule station until m l)

-- a connected station, and how many calls are in flight and waiting there
abbrev pub connection : StationSlot → Row
connection s = row.Connection s.station (count_calls s)

-- the connected ones of an operator's stations
abbrev pub connections : List StationSlot → List Row
connections slots = map connection (filter (λ s. s.is_connected) slots)

-- an operator's listing, whose rows or refusal are those of a rule: it only reads, and it submits no
-- command
pub record Lists {S : Type 0} (view : S → StoreView) (op : List ℕ) (rule : Lookups → Result (List Row) Refusal) (old new : S) (result : Result Plan StoreFault) : Type 0 where
  pub reads : OnlyReads view old new result
  pub plan : (view new).clean → IfOk result (λ p. p ≡ list_plan (rule (lookups_at op (view old).rows)))
  pub ready : IfOk result (λ p. (slot : List ℕ → StationSlot) → IsReady slot p.effect)
