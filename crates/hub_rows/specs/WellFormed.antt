-- What holds of the rows of all operators.
use Rattle.std.specs.Prelude.{◌≡◌, ◌≢◌, ℕ, ◌≤◌, ◌==◌, List, [], ◌∷◌, Bool, true, false, Option, None, Some, IsSome}
use Rattle.std.specs.List.{AllByRecursion}
use Rattle.std.specs.List.Sorted.{IsStrictlySortedBy}
use Rattle.std.specs.declared.cmp.Ordering.{Ordering}
use Rattle.ocpp_types.specs.TagKey.{key_of}
use Rattle.hub_rows.specs.declared.station_row.StationRow.{StationRow}
use Rattle.hub_rows.specs.declared.connector_row.ConnectorRow.{ConnectorRow}
use Rattle.hub_rows.specs.declared.tag_row.TagRow.{TagRow}
use Rattle.hub_rows.specs.declared.grant_row.GrantRow.{GrantRow}
use Rattle.hub_rows.specs.declared.tx_row.TxRow.{TxRow}
use Rattle.hub_rows.specs.declared.meter_value_row.MeterValueRow.{MeterValueRow}
use Rattle.hub_rows.specs.declared.reservation_row.ReservationRow.{ReservationRow}
use Rattle.hub_rows.specs.declared.list_row.ListRow.{ListRow}
use Rattle.hub_rows.specs.declared.reader_row.ReaderRow.{ReaderRow}
use Rattle.hub_rows.specs.declared.report_row.ReportRow.{ReportRow}
use Rattle.hub_rows.specs.declared.tx_row.TxOwnerRow.{TxOwnerRow}
use Rattle.hub_rows.specs.declared.use_row.UseRow.{UseRow}
use Rattle.hub_rows.specs.Keyed.{by_key, found, key_cmp}
use Rattle.hub_rows.specs.LocalLists.{AreEntries}
use Rattle.hub_rows.specs.MeterValues.{last_number}
use Rattle.hub_rows.specs.Rows.{Rows, station_in, station_key, connector_key, tag_key, grant_key, tx_key, meter_value_key, reservation_key, list_key, report_key, reader_key, tx_owner_key, use_key}
use Rattle.hub_rows.specs.Tags.{tag_in}
use Rattle.hub_rows.specs.Transactions.{is_accepted, is_open, is_tx, last_of_all}

-- a station of operator b is among those of all
abbrev pub IsOnRecord : List ℕ → List ℕ → List StationRow → Type 0
IsOnRecord b station stations = IsSome (station_in b station stations)

-- the number of a transaction or reading
abbrev pub IsNumber : ℕ → Type 0
IsNumber n = (1 ≤ n) × (n ≤ last_of_all)

-- ---- one row

-- of a station that is on record
abbrev pub IsGoodConnector : List StationRow → ConnectorRow → Type 0
IsGoodConnector stations r = IsOnRecord r.op r.station stations

pub record IsGoodTag (r : TagRow) : Type 0 where
  -- its key is that of its text
  pub key : r.key ≡ key_of r.tag.text

-- of a tag that its operator has, to another operator
pub record IsGoodGrant (tags : List TagRow) (r : GrantRow) : Type 0 where
  pub tag : IsSome (tag_in r.op r.key tags)
  pub receiver : r.to ≢ r.op

-- with a number in range; of a station that is on record, while it is open
pub record IsGoodTx (stations : List StationRow) (r : TxRow) : Type 0 where
  pub station : is_open r ≡ true → IsOnRecord r.op r.station stations
  pub number : IsNumber r.number
  -- its tag's key is that of the tag as it was sent
  pub key : r.start.id.key ≡ key_of r.start.tag

-- its readings have numbers in range
abbrev pub IsGoodMeterValue : MeterValueRow → Type 0
IsGoodMeterValue r = (1 ≤ r.first) × (last_number r ≤ last_of_all)

abbrev pub IsGoodReservation : List StationRow → ReservationRow → Type 0
IsGoodReservation stations r = IsOnRecord r.op r.station stations

-- of a station that is on record, its entries in the order of their keys, each key once
pub record IsGoodList (stations : List StationRow) (r : ListRow) : Type 0 where
  pub station : IsOnRecord r.op r.station stations
  pub entries : AreEntries r.list.entries

abbrev pub IsGoodReport : List StationRow → ReportRow → Type 0
IsGoodReport stations r = IsOnRecord r.op r.station stations

abbrev pub IsGoodReader : List StationRow → ReaderRow → Type 0
IsGoodReader stations r = IsOnRecord r.op r.station stations

-- whether it is there, and began Accepted
abbrev pub began_accepted : Option TxRow → Bool
began_accepted None = false
began_accepted (Some t) = is_accepted t.start.status

-- of a transaction that is on record and began Accepted, whose tag another operator granted
pub record IsGoodTxOwner (txs : List TxRow) (r : TxOwnerRow) : Type 0 where
  pub tx : began_accepted (found (λ t. t.op) r.op (is_tx r.station r.number) txs) ≡ true
  pub owner : r.owner ≢ r.op

-- with a number in range, at a station of another operator; and each number from 1 to its own is that of a use of its owner
pub record IsGoodUse (uses : List UseRow) (r : UseRow) : Type 0 where
  pub number : IsNumber r.number
  pub host : r.host ≢ r.op
  pub earlier : (n : ℕ) → 1 ≤ n → n ≤ r.number → IsSome (found (λ u. u.op) r.op (λ u. u.number == n) uses)

-- the key that the number of its last reading makes
abbrev pub end_key : MeterValueRow → List (List ℕ)
end_key r = r.op ∷ r.station ∷ (last_number r ∷ []) ∷ []

-- how the end of a meter value compares with where another begins
abbrev pub end_cmp : MeterValueRow → MeterValueRow → Ordering
end_cmp r s = key_cmp (end_key r) (meter_value_key s)

-- ---- the lists

-- rows in the order of their keys, each key once, and each row good
pub record AreGood {R : Type 0} (key : R → List (List ℕ)) (IsGood : R → Type 0) (rows : List R) : Type 0 where
  pub sorted : IsStrictlySortedBy (by_key key) rows
  pub each : AllByRecursion IsGood rows

-- the rows of all operators: each list is in order, and each of its rows is good
pub record WellFormedRows (rows : Rows) : Type 0 where
  pub stations : IsStrictlySortedBy (by_key station_key) rows.stations
  pub connectors : AreGood connector_key (IsGoodConnector rows.stations) rows.connectors
  pub tags : AreGood tag_key IsGoodTag rows.tags
  pub grants : AreGood grant_key (IsGoodGrant rows.tags) rows.grants
  pub transactions : AreGood tx_key (IsGoodTx rows.stations) rows.transactions
  pub meter_values : AreGood meter_value_key IsGoodMeterValue rows.meter_values
  -- each ends before the next begins, so that no two readings of a station have one number
  pub apart : IsStrictlySortedBy end_cmp rows.meter_values
  pub reservations : AreGood reservation_key (IsGoodReservation rows.stations) rows.reservations
  pub local_lists : AreGood list_key (IsGoodList rows.stations) rows.local_lists
  pub reports : AreGood report_key (IsGoodReport rows.stations) rows.reports
  pub tx_owners : AreGood tx_owner_key (IsGoodTxOwner rows.transactions) rows.tx_owners
  pub uses : AreGood use_key (IsGoodUse rows.uses) rows.uses
  pub readers : AreGood reader_key (IsGoodReader rows.stations) rows.readers
