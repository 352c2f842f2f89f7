-- The rows of one operator by themselves, and what an edit makes of them. `own_edit` and the edit of all rows share
-- `put` and `put_all` with the order of keys, what tells an operator's rows apart (`station_rest` and the like), and
-- `has_number`. What a row becomes is said once more here.
use Rattle.std.specs.Prelude.{ℕ, ◌+◌, ◌-◌, ℤ, pos, negsuc, List, [], ◌∷◌, length, Bool, false, Option, Some, None, if◌then◌else◌, ◌&&◌, ◌==◌, map, filter, not}
use Rattle.std.specs.Str.{bytes_eq}
use Rattle.ocpp_types.specs.declared.state.State.TheVariants.{Fresh}
use Rattle.hub_rows.specs.declared.change.Edit.{Edit}
use Rattle.hub_rows.specs.declared.change.Edit.TheVariants.{Stations, Tags, Transactions, Holdings}
use Rattle.hub_rows.specs.declared.change.StationEdit.TheVariants.{StationAdded, BootSeen, PolicySet, ReaderSet, StationDropped, ConnectorSeen, ReportSeen}
use Rattle.hub_rows.specs.declared.change.TagEdit.TheVariants.{TagPut, TagDropped, GrantPut, GrantDropped}
use Rattle.hub_rows.specs.declared.change.TransactionEdit.TheVariants.{TxStarted, TxStopped, MeterValuesAdded, Forgotten}
use Rattle.hub_rows.specs.declared.change.HoldingEdit.TheVariants.{ReservationPut, ReservationDropped, ListSet}
use Rattle.hub_rows.specs.declared.meter_value_row.MeterValue.{MeterValue}
use Rattle.hub_rows.specs.declared.meter_value_row.MeterValueRow.{MeterValueRow}
use Rattle.hub_rows.specs.declared.reservation_row.ReservationRow.{ReservationRow}
use Rattle.hub_rows.specs.declared.station_row.StationRow.{StationRow}
use Rattle.hub_rows.specs.declared.tx_row.TxOwnerRow.{TxOwnerRow}
use Rattle.hub_rows.specs.declared.tx_row.TxRow.{TxRow}
use Rattle.hub_rows.specs.Forgetting.{has_number}
use Rattle.hub_rows.specs.Keyed.{put, put_all, by_key, own}
use Rattle.hub_rows.specs.Rows.{Rows, station_rest, connector_rest, tag_rest, grant_rest, tx_rest, meter_value_rest, reservation_rest, list_rest, report_rest, reader_rest, tx_owner_rest}

-- how far a signed number is from the least one of 32 bits
abbrev pub own_shifted : ℤ → ℕ
own_shifted (pos n) = n + 2147483648
own_shifted (negsuc n) = (2147483647 - n) + (n - 2147483647)

-- the reservation of a station that a start names, by the number that it was sent with
abbrev pub own_named : List ℕ → Option ℤ → ReservationRow → Bool
own_named station None r = false
own_named station (Some id) r = bytes_eq r.station station && r.id == own_shifted id

-- readings of a station, numbered from the first number on
abbrev pub own_meter_values : List ℕ → List ℕ → ℕ → List MeterValue → List MeterValueRow
own_meter_values a station first [] = []
own_meter_values a station first (v ∷ vs) = record { op = a; station = station; first = first; value = v } ∷ own_meter_values a station ((first + 1) + (length v.sampled - 1)) vs

-- the owner of the tag with which a transaction begins, where another operator granted it
abbrev pub own_with_owner : List ℕ → List ℕ → ℕ → Option (List ℕ) → List TxOwnerRow → List TxOwnerRow
own_with_owner a station number None owners = owners
own_with_owner a station number (Some owner) owners = put (by_key tx_owner_rest) (record { op = a; station = station; number = number; owner = owner }) owners

abbrev pub own_rows : List ℕ → Rows → Rows
own_rows a rows = record { stations = own (λ r. r.op) a rows.stations; connectors = own (λ r. r.op) a rows.connectors; tags = own (λ r. r.op) a rows.tags; grants = own (λ r. r.op) a rows.grants; transactions = own (λ r. r.op) a rows.transactions; meter_values = own (λ r. r.op) a rows.meter_values; reservations = own (λ r. r.op) a rows.reservations; local_lists = own (λ r. r.op) a rows.local_lists; reports = own (λ r. r.op) a rows.reports; tx_owners = own (λ r. r.op) a rows.tx_owners; uses = own (λ r. r.op) a rows.uses; readers = own (λ r. r.op) a rows.readers }

-- an edit of the rows of one operator, by what tells them apart; its uses are left, since the owner of a granted tag
-- is another
abbrev pub own_edit : List ℕ → Edit → Rows → Rows
own_edit a (Stations (StationAdded station policy interval)) rows = record rows { stations = put (by_key station_rest) (record { op = a; station = station; policy = policy; interval = interval; state = Fresh; boot = None }) rows.stations }
own_edit a (Stations (BootSeen station boot state)) rows = record rows { stations = map (λ (r : StationRow). if bytes_eq r.station station then record r { boot = Some boot; state = state } else r) rows.stations }
own_edit a (Stations (PolicySet station policy interval)) rows = record rows { stations = map (λ (r : StationRow). if bytes_eq r.station station then record r { policy = policy; interval = interval } else r) rows.stations }
own_edit a (Stations (StationDropped station)) rows = record rows {
  stations = filter (λ r. not (bytes_eq r.station station)) rows.stations;
  connectors = filter (λ r. not (bytes_eq r.station station)) rows.connectors;
  reservations = filter (λ r. not (bytes_eq r.station station)) rows.reservations;
  local_lists = filter (λ r. not (bytes_eq r.station station)) rows.local_lists;
  reports = filter (λ r. not (bytes_eq r.station station)) rows.reports;
  readers = filter (λ r. not (bytes_eq r.station station)) rows.readers;
}
own_edit a (Stations (ConnectorSeen station connector report)) rows = record rows { connectors = put (by_key connector_rest) (record { op = a; station = station; connector = connector; report = report }) rows.connectors }
own_edit a (Tags (TagPut key tag)) rows = record rows { tags = put (by_key tag_rest) (record { op = a; key = key; tag = tag }) rows.tags }
own_edit a (Tags (TagDropped key)) rows = record rows { tags = filter (λ r. not (bytes_eq r.key key)) rows.tags; grants = filter (λ r. not (bytes_eq r.key key)) rows.grants }
own_edit a (Tags (GrantPut key to until)) rows = record rows { grants = put (by_key grant_rest) (record { op = a; key = key; to = to; until = until }) rows.grants }
own_edit a (Tags (GrantDropped key to)) rows = record rows { grants = filter (λ r. not (bytes_eq r.key key && bytes_eq r.to to)) rows.grants }
own_edit a (Transactions (TxStarted station number start owner)) rows = record rows { transactions = put (by_key tx_rest) (record { op = a; station = station; number = number; start = start; stop = None }) rows.transactions; reservations = filter (λ r. not (own_named station start.reservation r)) rows.reservations; tx_owners = own_with_owner a station number owner rows.tx_owners }
own_edit a (Transactions (TxStopped station number stop first values)) rows = record rows { transactions = map (λ (r : TxRow). if bytes_eq r.station station && r.number == number then record r { stop = Some stop } else r) rows.transactions; meter_values = put_all (by_key meter_value_rest) (own_meter_values a station first values) rows.meter_values }
own_edit a (Transactions (MeterValuesAdded station first values)) rows = record rows { meter_values = put_all (by_key meter_value_rest) (own_meter_values a station first values) rows.meter_values }
own_edit a (Transactions (Forgotten station gone)) rows = record rows {
  transactions = filter (λ (r : TxRow). not (bytes_eq r.station station && has_number gone.transactions r.number)) rows.transactions;
  meter_values = filter (λ (r : MeterValueRow). not (bytes_eq r.station station && has_number gone.meter_values r.first)) rows.meter_values;
  tx_owners = filter (λ (r : TxOwnerRow). not (bytes_eq r.station station && has_number gone.transactions r.number)) rows.tx_owners;
}
own_edit a (Holdings (ReservationPut station id reservation)) rows = record rows { reservations = put (by_key reservation_rest) (record { op = a; station = station; id = id; reservation = reservation }) rows.reservations }
own_edit a (Holdings (ReservationDropped station id)) rows = record rows { reservations = filter (λ r. not (bytes_eq r.station station && r.id == id)) rows.reservations }
own_edit a (Holdings (ListSet station list)) rows = record rows { local_lists = put (by_key list_rest) (record { op = a; station = station; list = list }) rows.local_lists }
own_edit a (Stations (ReportSeen station status moment)) rows = record rows { reports = put (by_key report_rest) (record { op = a; station = station; status = status; moment = moment }) rows.reports }
own_edit a (Stations (ReaderSet station reader)) rows = record rows { readers = put (by_key reader_rest) (record { op = a; station = station; reader = reader }) rows.readers }
