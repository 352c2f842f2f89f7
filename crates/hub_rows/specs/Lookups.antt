-- What rules may ask of one operator's records: over the rows of all operators, then over the rows of that
-- operator alone and the tags that are granted to it. The two parts share `Lookups`, `key_of`, and `forgettable` with
-- what it takes.
use Rattle.std.specs.Prelude.{ℕ, ◌+◌, ◌-◌, max, nat_le, ℤ, pos, List, [], ◌∷◌, length, Bool, true, false, if◌then◌else◌, not, ◌&&◌, ◌||◌, ◌==◌, is_none, Option, Some, None, map, filter, find}
use Rattle.std.specs.List.{list_any}
use Rattle.std.specs.Option.{option_map}
use Rattle.std.specs.Ordering.{int_eq}
use Rattle.std.specs.Str.{bytes_eq}
use Rattle.ocpp_types.specs.TagKey.{key_of}
use Rattle.ocpp_types.specs.declared.authorization_status.AuthorizationStatus.{AuthorizationStatus}
use Rattle.ocpp_types.specs.declared.authorization_status.AuthorizationStatus.TheVariants.{Accepted, Blocked, Expired, Invalid, ConcurrentTx}
use Rattle.hub_rows.specs.declared.station_row.StationRow.{StationRow}
use Rattle.hub_rows.specs.declared.station_row.Registration.{Registration}
use Rattle.hub_rows.specs.declared.connector_row.ConnectorRow.{ConnectorRow}
use Rattle.hub_rows.specs.declared.grant_row.GrantRow.{GrantRow}
use Rattle.hub_rows.specs.declared.info.GrantedTag.{GrantedTag}
use Rattle.hub_rows.specs.declared.info.Info.{Info}
use Rattle.hub_rows.specs.declared.tag_row.TagRow.{TagRow}
use Rattle.hub_rows.specs.declared.tx_row.TxRow.{TxRow}
use Rattle.hub_rows.specs.declared.tx_row.TxKey.{TxKey}
use Rattle.hub_rows.specs.declared.tx_row.TxState.{TxState}
use Rattle.hub_rows.specs.declared.tx_row.StartKey.{StartKey}
use Rattle.hub_rows.specs.declared.meter_value_row.MeterValueRow.{MeterValueRow}
use Rattle.hub_rows.specs.declared.reservation_row.ReservationRow.{ReservationRow}
use Rattle.hub_rows.specs.declared.list_row.ListRow.{ListRow}
use Rattle.hub_rows.specs.declared.list_row.LocalList.{LocalList}
use Rattle.hub_rows.specs.declared.reader_row.Reader.{Reader}
use Rattle.hub_rows.specs.declared.reader_row.ReaderRow.{ReaderRow}
use Rattle.hub_rows.specs.declared.report_row.ReportRow.{ReportRow}
use Rattle.hub_rows.specs.declared.use_row.UseRow.{UseRow}
use Rattle.hub_rows.specs.Keyed.{found, those}
use Rattle.hub_rows.specs.Grants.{granted_in, granted_tag_in, grants_in, has_grant_in}
use Rattle.hub_rows.specs.Readers.{chosen, reader_in, readers_in}
use Rattle.hub_rows.specs.Reservations.{reservations_in, reserved_until_in}
use Rattle.hub_rows.specs.Rows.{Rows, registration_at}
use Rattle.hub_rows.specs.Tags.{own_tag_in}
use Rattle.hub_rows.specs.Forgetting.{forgettable}
use Rattle.hub_rows.specs.MeterValues.{last_reading_in, meter_values_in}
use Rattle.hub_rows.specs.declared.forgettable.History.{History}
use Rattle.hub_rows.specs.Transactions.{is_used_in, same_start_in, tx_in, txs_in, has_open_in, open_txs_in, txs_from_in, last_tx_in}
use Rattle.hub_rows.specs.Uses.{uses_in}

pub record Lookups : Type 0 where
  -- the operator
  pub op : List ℕ
  -- how a station is registered
  pub registration : List ℕ → Option Registration
  -- its tag of a key as it counts
  pub own_tag : List ℕ → Option Info
  -- the tag of a key that is granted to it, of the first owner
  pub granted_tag : List ℕ → Option Info
  -- whether it granted its tag of a key to that operator
  pub has_grant : List ℕ → List ℕ → Bool
  -- whether the tag of a key is in use by another transaction than the one left out
  pub is_used : List ℕ → Option TxKey → Bool
  -- the number of the first transaction of a station with that start
  pub same_start : List ℕ → StartKey → Option ℕ
  -- a transaction of a station, by its number
  pub tx : List ℕ → ℕ → Option TxState
  -- whether a transaction of a station is open
  pub has_open : List ℕ → Bool
  -- the last numbers of a station's transactions and of its readings, 0 where it has none
  pub last_tx : List ℕ → ℕ
  pub last_reading : List ℕ → ℕ
  -- when the reservation of an id at a station expires
  pub reserved_until : List ℕ → ℕ → Option ℕ
  -- the local list of a station
  pub local_list : List ℕ → Option LocalList
  -- lists of rows, in the order of their keys
  pub stations : List StationRow
  pub tags : List TagRow
  pub grants : List GrantRow
  -- the tags that are granted to it, in the order of key, then owner
  pub granted : List GrantedTag
  pub connectors : List ℕ → List ConnectorRow
  -- those of a station from a number on
  pub txs : List ℕ → ℕ → List TxRow
  -- the open ones of all stations
  pub open_txs : List TxRow
  -- of all transactions, or of those sent with a number
  pub meter_values : List ℕ → Option ℕ → List MeterValueRow
  pub reservations : List ℕ → List ReservationRow
  -- what of a station's history may go before a moment
  pub forgettable : List ℕ → ℕ → History
  pub reports : List ℕ → List ReportRow
  pub uses : List UseRow
  -- how the requests of a station are read, and what was chosen
  pub reader : List ℕ → Reader
  pub readers : List ReaderRow

-- ---- over the rows of all operators

-- the stations of operator b, among those of all
abbrev pub stations_in : List ℕ → List StationRow → List StationRow
stations_in b stations = those (λ r. r.op) b (λ r. true) stations

-- its tags
abbrev pub tags_in : List ℕ → List TagRow → List TagRow
tags_in b tags = those (λ r. r.op) b (λ r. true) tags

-- the connectors of a station of operator b, among those of all
abbrev pub connectors_in : List ℕ → List ℕ → List ConnectorRow → List ConnectorRow
connectors_in b station connectors = those (λ r. r.op) b (λ r. bytes_eq r.station station) connectors

-- the list of a station of operator b, among those of all
abbrev pub local_list_in : List ℕ → List ℕ → List ListRow → Option LocalList
local_list_in b station rows = option_map (λ r. r.list) (found (λ r. r.op) b (λ r. bytes_eq r.station station) rows)

-- the last reports of a station of operator b, among those of all
abbrev pub reports_in : List ℕ → List ℕ → List ReportRow → List ReportRow
reports_in b station rows = those (λ r. r.op) b (λ r. bytes_eq r.station station) rows

-- what of the history of a station of operator b may go, among the rows of all
abbrev pub forgettable_in : List ℕ → List ℕ → ℕ → Rows → History
forgettable_in b station until rows = forgettable until (txs_in b station rows.transactions) (meter_values_in b station None rows.meter_values)

-- over the rows of all operators, with the operator in each condition
abbrev pub lookups_at : List ℕ → Rows → Lookups
lookups_at b rows = record {
  op = b;
  registration = λ station. registration_at b station rows;
  own_tag = λ key. own_tag_in b key rows.tags;
  granted_tag = λ key. granted_tag_in b key rows.tags rows.grants;
  has_grant = λ key to. has_grant_in b key to rows.grants;
  is_used = λ key except. is_used_in b key except rows.transactions;
  same_start = λ station k. same_start_in b station k rows.transactions;
  tx = λ station number. tx_in b station number rows.transactions;
  has_open = λ station. has_open_in b station rows.transactions;
  last_tx = λ station. last_tx_in b station rows.transactions;
  last_reading = λ station. last_reading_in b station rows.meter_values;
  reserved_until = λ station id. reserved_until_in b station id rows.reservations;
  local_list = λ station. local_list_in b station rows.local_lists;
  stations = stations_in b rows.stations;
  tags = tags_in b rows.tags;
  grants = grants_in b rows.grants;
  granted = granted_in b rows.tags rows.grants;
  connectors = λ station. connectors_in b station rows.connectors;
  txs = λ station first. txs_from_in b station first rows.transactions;
  open_txs = open_txs_in b rows.transactions;
  meter_values = λ station n. meter_values_in b station n rows.meter_values;
  reservations = λ station. reservations_in b station rows.reservations;
  forgettable = λ station until. forgettable_in b station until rows;
  reports = λ station. reports_in b station rows.reports;
  uses = uses_in b rows.uses;
  reader = λ station. reader_in b station rows.readers;
  readers = readers_in b rows.readers;
}

-- ---- over the rows of one operator alone

-- Each question is answered once more here, except three parts, which are shared with the rows of all operators: the key
-- of a parent's text (`key_of`), what may go of the rows of one station (`forgettable`), and the reader by its row
-- (`chosen`).

-- how a station is registered
abbrev pub own_registration : StationRow → Registration
own_registration r = record { policy = r.policy; interval = r.interval; state = r.state }

-- the last of some numbers, 0 where there are none
abbrev pub own_last : List ℕ → ℕ
own_last [] = 0
own_last (n ∷ ns) = if nat_le (own_last ns) n then n else own_last ns

-- whether the row, if there is one, is of a blocked tag
abbrev pub own_is_blocked : Option TagRow → Bool
own_is_blocked None = false
own_is_blocked (Some r) = r.tag.blocked

-- whether the tag of the key of a parent's text is blocked
abbrev pub own_is_parent_blocked : List TagRow → Option (List ℕ) → Bool
own_is_parent_blocked tags None = false
own_is_parent_blocked tags (Some parent) = own_is_blocked (find (λ r. bytes_eq r.key (key_of parent)) tags)

-- the tag of a key as it counts: blocked by itself, or by the parent that it names
abbrev pub own_tag : List ℕ → List TagRow → Option Info
own_tag key tags = option_map (λ r. record { text = r.tag.text; parent = r.tag.parent; blocked = r.tag.blocked || own_is_parent_blocked tags r.tag.parent; expiry = r.tag.expiry; owner = None }) (find (λ r. bytes_eq r.key key) tags)

-- the first of a key among the tags that are granted to the operator
abbrev pub own_granted_tag : List ℕ → List GrantedTag → Option Info
own_granted_tag key granted = option_map (λ e. e.info) (find (λ e. bytes_eq e.key key) granted)

abbrev pub own_is_accepted : AuthorizationStatus → Bool
own_is_accepted Accepted = true
own_is_accepted Blocked = false
own_is_accepted Expired = false
own_is_accepted Invalid = false
own_is_accepted ConcurrentTx = false

-- the transaction of that number of a station
abbrev pub own_tx : List ℕ → ℕ → TxRow → Bool
own_tx station number r = bytes_eq r.station station && r.number == number

abbrev pub own_is_left_out : Option TxKey → TxRow → Bool
own_is_left_out None r = false
own_is_left_out (Some k) r = own_tx k.station k.number r

-- open and begun Accepted with the tag of that key, and not the one left out
abbrev pub own_use : List ℕ → Option TxKey → TxRow → Bool
own_use key except r = (is_none r.stop && own_is_accepted r.start.status) && (bytes_eq r.start.id.key key && not (own_is_left_out except r))

-- begun at that station, with that connector, tag key, meter and time
abbrev pub own_start : List ℕ → StartKey → TxRow → Bool
own_start station k r = bytes_eq r.station station && (r.start.id.connector == k.connector && (bytes_eq r.start.id.key k.key && (int_eq r.start.id.meter_start k.meter_start && int_eq r.start.id.at k.at)))

abbrev pub own_state : TxRow → TxState
own_state r = record { connector = r.start.id.connector; meter_start = r.start.id.meter_start; is_open = is_none r.stop }

-- any, or one that was sent with the number of a transaction
abbrev pub own_is_sent_with : Option ℕ → Option ℤ → Bool
own_is_sent_with None transaction = true
own_is_sent_with (Some n) None = false
own_is_sent_with (Some n) (Some transaction) = int_eq transaction (pos n)

abbrev pub own_meter_value : List ℕ → Option ℕ → MeterValueRow → Bool
own_meter_value station n r = bytes_eq r.station station && own_is_sent_with n r.value.transaction

-- the number of the last reading of some meter values, 0 where there are none
abbrev pub own_last_reading : List MeterValueRow → ℕ
own_last_reading [] = 0
own_last_reading (r ∷ []) = (r.first - 1) + max 1 (length r.value.sampled)
own_last_reading (r ∷ s ∷ rs) = own_last_reading (s ∷ rs)

-- over the rows of one operator alone, and the tags that are granted to it
abbrev pub own_lookups : List ℕ → Rows → List GrantedTag → Lookups
own_lookups a rows granted = record {
  op = a;
  registration = λ station. option_map own_registration (find (λ r. bytes_eq r.station station) rows.stations);
  own_tag = λ key. own_tag key rows.tags;
  granted_tag = λ key. own_granted_tag key granted;
  has_grant = λ key to. list_any (λ r. bytes_eq r.key key && bytes_eq r.to to) rows.grants;
  is_used = λ key except. list_any (own_use key except) rows.transactions;
  same_start = λ station k. option_map (λ r. r.number) (find (own_start station k) rows.transactions);
  tx = λ station number. option_map own_state (find (own_tx station number) rows.transactions);
  has_open = λ station. list_any (λ r. bytes_eq r.station station && is_none r.stop) rows.transactions;
  last_tx = λ station. own_last (map (λ r. r.number) (filter (λ r. bytes_eq r.station station) rows.transactions));
  last_reading = λ station. own_last_reading (filter (λ r. bytes_eq r.station station) rows.meter_values);
  reserved_until = λ station id. option_map (λ r. r.reservation.expiry) (find (λ r. bytes_eq r.station station && r.id == id) rows.reservations);
  local_list = λ station. option_map (λ r. r.list) (find (λ r. bytes_eq r.station station) rows.local_lists);
  stations = rows.stations;
  tags = rows.tags;
  grants = rows.grants;
  granted = granted;
  connectors = λ station. filter (λ r. bytes_eq r.station station) rows.connectors;
  txs = λ station first. filter (λ r. bytes_eq r.station station && nat_le first r.number) rows.transactions;
  open_txs = filter (λ r. is_none r.stop) rows.transactions;
  meter_values = λ station n. filter (own_meter_value station n) rows.meter_values;
  reservations = λ station. filter (λ r. bytes_eq r.station station) rows.reservations;
  forgettable = λ station until. forgettable until (filter (λ r. bytes_eq r.station station) rows.transactions) (filter (λ r. bytes_eq r.station station) rows.meter_values);
  reports = λ station. filter (λ r. bytes_eq r.station station) rows.reports;
  uses = rows.uses;
  reader = λ station. chosen (find (λ r. bytes_eq r.station station) rows.readers);
  readers = rows.readers;
}
