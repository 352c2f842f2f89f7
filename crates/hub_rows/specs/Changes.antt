-- What a change does to the rows of all operators.
use Rattle.std.specs.Prelude.{◌≡◌, ◌≢◌, ℕ, List, Option, Some, None, IsSome, IfSome, true, false}
use Rattle.std.specs.List.{AllByRecursion}
use Rattle.std.specs.Str.{bytes_eq}
use Rattle.ocpp_types.specs.TagKey.{key_of}
use Rattle.ocpp_types.specs.declared.authorization_status.AuthorizationStatus.TheVariants.{Accepted}
use Rattle.ocpp_types.specs.declared.policy.Policy.{Policy}
use Rattle.ocpp_types.specs.declared.state.State.{State}
use Rattle.ocpp_types.specs.declared.state.State.TheVariants.{Fresh}
use Rattle.hub_rows.specs.declared.station_row.Boot.{Boot}
use Rattle.hub_rows.specs.declared.station_row.StationRow.{StationRow}
use Rattle.hub_rows.specs.declared.connector_row.ConnectorReport.{ConnectorReport}
use Rattle.hub_rows.specs.declared.connector_row.ConnectorRow.{ConnectorRow}
use Rattle.hub_rows.specs.declared.tag_row.Tag.{Tag}
use Rattle.hub_rows.specs.declared.tag_row.TagRow.{TagRow}
use Rattle.hub_rows.specs.declared.grant_row.GrantRow.{GrantRow}
use Rattle.hub_rows.specs.declared.tx_row.TxRow.{TxRow}
use Rattle.hub_rows.specs.declared.tx_row.TxState.{TxState}
use Rattle.hub_rows.specs.declared.tx_row.Start.{Start}
use Rattle.hub_rows.specs.declared.tx_row.Stop.{Stop}
use Rattle.hub_rows.specs.declared.meter_value_row.MeterValue.{MeterValue}
use Rattle.hub_rows.specs.declared.meter_value_row.MeterValueRow.{MeterValueRow}
use Rattle.hub_rows.specs.declared.reservation_row.Reservation.{Reservation}
use Rattle.hub_rows.specs.declared.reservation_row.ReservationRow.{ReservationRow}
use Rattle.hub_rows.specs.declared.list_row.ListRow.{ListRow}
use Rattle.hub_rows.specs.declared.list_row.LocalList.{LocalList}
use Rattle.hub_rows.specs.declared.reader_row.Reader.{Reader}
use Rattle.hub_rows.specs.declared.reader_row.ReaderRow.{ReaderRow}
use Rattle.hub_rows.specs.declared.report_row.ReportRow.{ReportRow}
use Rattle.hub_rows.specs.declared.report_row.ReportedStatus.{ReportedStatus}
use Rattle.hub_rows.specs.declared.change.Edit.{Edit}
use Rattle.hub_rows.specs.declared.change.Edit.TheVariants.{Stations, Tags, Transactions, Holdings}
use Rattle.hub_rows.specs.declared.change.StationEdit.TheVariants.{StationAdded, BootSeen, PolicySet, ReaderSet, StationDropped, ConnectorSeen, ReportSeen}
use Rattle.hub_rows.specs.declared.change.TagEdit.TheVariants.{TagPut, TagDropped, GrantPut, GrantDropped}
use Rattle.hub_rows.specs.declared.change.TransactionEdit.TheVariants.{TxStarted, TxStopped, MeterValuesAdded, Forgotten}
use Rattle.hub_rows.specs.declared.change.HoldingEdit.TheVariants.{ReservationPut, ReservationDropped, ListSet}
use Rattle.hub_rows.specs.Keyed.{put, put_all, by_key, changed, without}
use Rattle.hub_rows.specs.Forgetting.{is_one_of}
use Rattle.hub_rows.specs.Grants.{is_grant}
use Rattle.hub_rows.specs.LocalLists.{AreEntries}
use Rattle.hub_rows.specs.MeterValues.{all_taken, last_reading_in, meter_value_rows}
use Rattle.hub_rows.specs.Reservations.{is_reservation, without_named}
use Rattle.hub_rows.specs.Rows.{Rows, station_key, connector_key, tag_key, grant_key, tx_key, meter_value_key, reservation_key, list_key, report_key, reader_key, registration_at}
use Rattle.hub_rows.specs.Tags.{own_tag_in}
use Rattle.hub_rows.specs.Transactions.{is_tx, tx_in, has_open_in, last_tx_in, AreNext}
use Rattle.hub_rows.specs.Uses.{with_owner, settled_use, with_use}

-- a station that is new
abbrev pub new_station : List ℕ → List ℕ → Policy → ℕ → StationRow
new_station b station policy interval = record { op = b; station = station; policy = policy; interval = interval; state = Fresh; boot = None }

-- a station that has booted
abbrev pub with_boot : Boot → State → StationRow → StationRow
with_boot boot state r = record r { state = state; boot = Some boot }

-- a station whose next boot is answered otherwise
abbrev pub with_policy : Policy → ℕ → StationRow → StationRow
with_policy policy interval r = record r { policy = policy; interval = interval }

-- a connector, as it was reported
abbrev pub connector_row : List ℕ → List ℕ → ℕ → ConnectorReport → ConnectorRow
connector_row b station connector report = record { op = b; station = station; connector = connector; report = report }

-- a tag of an operator
abbrev pub tag_row : List ℕ → List ℕ → Tag → TagRow
tag_row b key tag = record { op = b; key = key; tag = tag }

-- a grant of an operator's tag
abbrev pub grant_row : List ℕ → List ℕ → List ℕ → Option ℕ → GrantRow
grant_row b key to until = record { op = b; key = key; to = to; until = until }

-- a transaction that has begun
abbrev pub tx_row : List ℕ → List ℕ → ℕ → Start → TxRow
tx_row b station number start = record { op = b; station = station; number = number; start = start; stop = None }

-- a transaction that has ended
abbrev pub with_stop : Stop → TxRow → TxRow
with_stop stop r = record r { stop = Some stop }

-- meter values of a station after those of its rows
abbrev pub with_meter_values : List ℕ → List ℕ → ℕ → List MeterValue → List MeterValueRow → List MeterValueRow
with_meter_values b station first values rows = put_all (by_key meter_value_key) (meter_value_rows b station first values) rows

-- a reservation at a station
abbrev pub reservation_row : List ℕ → List ℕ → ℕ → Reservation → ReservationRow
reservation_row b station id reservation = record { op = b; station = station; id = id; reservation = reservation }

-- the local list of a station
abbrev pub list_row : List ℕ → List ℕ → LocalList → ListRow
list_row b station list = record { op = b; station = station; list = list }

-- the report of a station
abbrev pub report_row : List ℕ → List ℕ → ReportedStatus → ℕ → ReportRow
report_row b station status moment = record { op = b; station = station; status = status; moment = moment }

-- how a station is read
abbrev pub reader_row : List ℕ → List ℕ → Reader → ReaderRow
reader_row b station reader = record { op = b; station = station; reader = reader }

-- an edit of the rows of operator b; a station is dropped with all that it reported and holds and with its reader, but not its history,
-- a tag with its grants; a start ends the reservation that it names, a stop settles a use of the owner that granted the
-- tag, and forgotten transactions go with the owners of their tags
abbrev pub edit : List ℕ → Edit → Rows → Rows
edit b (Stations (StationAdded station policy interval)) rows = record rows { stations = put (by_key station_key) (new_station b station policy interval) rows.stations }
edit b (Stations (BootSeen station boot state)) rows = record rows { stations = changed (λ r. r.op) b (λ r. bytes_eq r.station station) (with_boot boot state) rows.stations }
edit b (Stations (PolicySet station policy interval)) rows = record rows { stations = changed (λ r. r.op) b (λ r. bytes_eq r.station station) (with_policy policy interval) rows.stations }
edit b (Stations (StationDropped station)) rows = record rows {
  stations = without (λ r. r.op) b (λ r. bytes_eq r.station station) rows.stations;
  connectors = without (λ r. r.op) b (λ r. bytes_eq r.station station) rows.connectors;
  reservations = without (λ r. r.op) b (λ r. bytes_eq r.station station) rows.reservations;
  local_lists = without (λ r. r.op) b (λ r. bytes_eq r.station station) rows.local_lists;
  reports = without (λ r. r.op) b (λ r. bytes_eq r.station station) rows.reports;
  readers = without (λ r. r.op) b (λ r. bytes_eq r.station station) rows.readers;
}
edit b (Stations (ConnectorSeen station connector report)) rows = record rows { connectors = put (by_key connector_key) (connector_row b station connector report) rows.connectors }
edit b (Tags (TagPut key tag)) rows = record rows { tags = put (by_key tag_key) (tag_row b key tag) rows.tags }
edit b (Tags (TagDropped key)) rows = record rows { tags = without (λ r. r.op) b (λ r. bytes_eq r.key key) rows.tags; grants = without (λ r. r.op) b (λ r. bytes_eq r.key key) rows.grants }
edit b (Tags (GrantPut key to until)) rows = record rows { grants = put (by_key grant_key) (grant_row b key to until) rows.grants }
edit b (Tags (GrantDropped key to)) rows = record rows { grants = without (λ r. r.op) b (is_grant key to) rows.grants }
edit b (Transactions (TxStarted station number start owner)) rows = record rows { transactions = put (by_key tx_key) (tx_row b station number start) rows.transactions; reservations = without_named b station start.reservation rows.reservations; tx_owners = with_owner b station number owner rows.tx_owners }
edit b (Transactions (TxStopped station number stop first values)) rows = record rows { transactions = changed (λ r. r.op) b (is_tx station number) (with_stop stop) rows.transactions; meter_values = with_meter_values b station first values rows.meter_values; uses = with_use (settled_use b station number stop rows) rows.uses }
edit b (Transactions (MeterValuesAdded station first values)) rows = record rows { meter_values = with_meter_values b station first values rows.meter_values }
edit b (Transactions (Forgotten station gone)) rows = record rows {
  transactions = without (λ r. r.op) b (is_one_of (λ r. r.station) (λ r. r.number) station gone.transactions) rows.transactions;
  meter_values = without (λ r. r.op) b (is_one_of (λ r. r.station) (λ r. r.first) station gone.meter_values) rows.meter_values;
  tx_owners = without (λ r. r.op) b (is_one_of (λ r. r.station) (λ r. r.number) station gone.transactions) rows.tx_owners;
}
edit b (Holdings (ReservationPut station id reservation)) rows = record rows { reservations = put (by_key reservation_key) (reservation_row b station id reservation) rows.reservations }
edit b (Holdings (ReservationDropped station id)) rows = record rows { reservations = without (λ r. r.op) b (is_reservation station id) rows.reservations }
edit b (Holdings (ListSet station list)) rows = record rows { local_lists = put (by_key list_key) (list_row b station list) rows.local_lists }
edit b (Stations (ReportSeen station status moment)) rows = record rows { reports = put (by_key report_key) (report_row b station status moment) rows.reports }
edit b (Stations (ReaderSet station reader)) rows = record rows { readers = put (by_key reader_key) (reader_row b station reader) rows.readers }

abbrev pub IsOpen : Option TxState → Type 0
IsOpen None = ⊥
IsOpen (Some t) = t.is_open ≡ true

abbrev pub IsStopped : Option TxState → Type 0
IsStopped None = ⊥
IsStopped (Some t) = t.is_open ≡ false

-- none, or another operator than b
abbrev pub IsAnother : List ℕ → Option (List ℕ) → Type 0
IsAnother b None = Unit {0}
IsAnother b (Some a) = a ≢ b

-- an edit that the rows allow: a new station isn't there, one that is edited or has the row is, one that is dropped has
-- no open transaction, a transaction that is stopped is open, those that are forgotten are stopped, new numbers follow the station's last, if it has one, the
-- key of a tag is the key of its text, a tag that is granted is the operator's own and is granted to
-- another, the owner of a granted tag is another and is kept for a start that is Accepted alone, and a local list has
-- its entries in the order of their keys
abbrev pub EditFits : List ℕ → Edit → Rows → Type 0
EditFits b (Stations (StationAdded station policy interval)) rows = registration_at b station rows ≡ None
EditFits b (Stations (BootSeen station boot state)) rows = IsSome (registration_at b station rows)
EditFits b (Stations (PolicySet station policy interval)) rows = IsSome (registration_at b station rows)
EditFits b (Stations (ReaderSet station reader)) rows = IsSome (registration_at b station rows)
EditFits b (Stations (StationDropped station)) rows = has_open_in b station rows.transactions ≡ false
EditFits b (Stations (ConnectorSeen station connector report)) rows = IsSome (registration_at b station rows)
EditFits b (Tags (TagPut key tag)) rows = key ≡ key_of tag.text
EditFits b (Tags (TagDropped key)) rows = Unit {0}
EditFits b (Tags (GrantPut key to until)) rows = IsSome (own_tag_in b key rows.tags) × (to ≢ b)
EditFits b (Tags (GrantDropped key to)) rows = Unit {0}
EditFits b (Transactions (TxStarted station number start owner)) rows = IsSome (registration_at b station rows) × AreNext (last_tx_in b station rows.transactions) number 1 × (start.id.key ≡ key_of start.tag) × IsAnother b owner × IfSome owner (λ a. start.status ≡ Accepted)
EditFits b (Transactions (TxStopped station number stop first values)) rows = IsOpen (tx_in b station number rows.transactions) × AreNext (last_reading_in b station rows.meter_values) first (all_taken values)
EditFits b (Transactions (MeterValuesAdded station first values)) rows = IsSome (registration_at b station rows) × AreNext (last_reading_in b station rows.meter_values) first (all_taken values)
EditFits b (Transactions (Forgotten station gone)) rows = AllByRecursion (λ n. IsStopped (tx_in b station n rows.transactions)) gone.transactions
EditFits b (Holdings (ReservationPut station id reservation)) rows = IsSome (registration_at b station rows)
EditFits b (Holdings (ReservationDropped station id)) rows = Unit {0}
EditFits b (Holdings (ListSet station list)) rows = IsSome (registration_at b station rows) × AreEntries list.entries
EditFits b (Stations (ReportSeen station status moment)) rows = IsSome (registration_at b station rows)
