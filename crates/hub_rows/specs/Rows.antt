-- The rows of all operators, and how they are looked up.
use Rattle.std.specs.Prelude.{ℕ, List, [], ◌∷◌, Option}
use Rattle.std.specs.Option.{option_map}
use Rattle.std.specs.Str.{bytes_eq}
use Rattle.hub_rows.specs.declared.station_row.StationRow.{StationRow}
use Rattle.hub_rows.specs.declared.station_row.Registration.{Registration}
use Rattle.hub_rows.specs.declared.connector_row.ConnectorRow.{ConnectorRow}
use Rattle.hub_rows.specs.declared.tag_row.TagRow.{TagRow}
use Rattle.hub_rows.specs.declared.grant_row.GrantRow.{GrantRow}
use Rattle.hub_rows.specs.declared.tx_row.TxRow.{TxRow}
use Rattle.hub_rows.specs.declared.meter_value_row.MeterValueRow.{MeterValueRow}
use Rattle.hub_rows.specs.declared.reservation_row.ReservationRow.{ReservationRow}
use Rattle.hub_rows.specs.declared.list_row.ListRow.{ListRow}
use Rattle.hub_rows.specs.declared.reader_row.ReaderRow.{ReaderRow}
use Rattle.hub_rows.specs.declared.report_row.ReportRow.{ReportRow}
use Rattle.hub_rows.specs.declared.tx_row.TxOwnerRow.{TxOwnerRow}
use Rattle.hub_rows.specs.declared.use_row.UseRow.{UseRow}
use Rattle.hub_rows.specs.Keyed.{found}
use Rattle.hub_rows.specs.Reports.{kind_of}

-- the lists of rows
pub record Rows : Type 0 where
  pub stations : List StationRow
  pub connectors : List ConnectorRow
  pub tags : List TagRow
  pub grants : List GrantRow
  pub transactions : List TxRow
  pub meter_values : List MeterValueRow
  pub reservations : List ReservationRow
  pub local_lists : List ListRow
  pub reports : List ReportRow
  pub tx_owners : List TxOwnerRow
  pub uses : List UseRow
  pub readers : List ReaderRow

-- no rows
abbrev pub no_rows : Rows
no_rows = record { stations = []; connectors = []; tags = []; grants = []; transactions = []; meter_values = []; reservations = []; local_lists = []; reports = []; tx_owners = []; uses = []; readers = [] }

-- what tells an operator's rows of a kind apart, and the key
abbrev pub station_rest : StationRow → List (List ℕ)
station_rest r = r.station ∷ []

abbrev pub station_key : StationRow → List (List ℕ)
station_key r = r.op ∷ station_rest r

abbrev pub connector_rest : ConnectorRow → List (List ℕ)
connector_rest r = r.station ∷ (r.connector ∷ []) ∷ []

abbrev pub connector_key : ConnectorRow → List (List ℕ)
connector_key r = r.op ∷ connector_rest r

abbrev pub tag_rest : TagRow → List (List ℕ)
tag_rest r = r.key ∷ []

abbrev pub tag_key : TagRow → List (List ℕ)
tag_key r = r.op ∷ tag_rest r

abbrev pub grant_rest : GrantRow → List (List ℕ)
grant_rest r = r.key ∷ r.to ∷ []

abbrev pub grant_key : GrantRow → List (List ℕ)
grant_key r = r.op ∷ grant_rest r

abbrev pub tx_rest : TxRow → List (List ℕ)
tx_rest r = r.station ∷ (r.number ∷ []) ∷ []

abbrev pub tx_key : TxRow → List (List ℕ)
tx_key r = r.op ∷ tx_rest r

abbrev pub meter_value_rest : MeterValueRow → List (List ℕ)
meter_value_rest r = r.station ∷ (r.first ∷ []) ∷ []

abbrev pub meter_value_key : MeterValueRow → List (List ℕ)
meter_value_key r = r.op ∷ meter_value_rest r

abbrev pub reservation_rest : ReservationRow → List (List ℕ)
reservation_rest r = r.station ∷ (r.id ∷ []) ∷ []

abbrev pub reservation_key : ReservationRow → List (List ℕ)
reservation_key r = r.op ∷ reservation_rest r

abbrev pub list_rest : ListRow → List (List ℕ)
list_rest r = r.station ∷ []

abbrev pub list_key : ListRow → List (List ℕ)
list_key r = r.op ∷ list_rest r

abbrev pub report_rest : ReportRow → List (List ℕ)
report_rest r = r.station ∷ kind_of r.status ∷ []

abbrev pub report_key : ReportRow → List (List ℕ)
report_key r = r.op ∷ report_rest r

abbrev pub tx_owner_rest : TxOwnerRow → List (List ℕ)
tx_owner_rest r = r.station ∷ (r.number ∷ []) ∷ []

abbrev pub tx_owner_key : TxOwnerRow → List (List ℕ)
tx_owner_key r = r.op ∷ tx_owner_rest r

abbrev pub use_rest : UseRow → List (List ℕ)
use_rest r = (r.number ∷ []) ∷ []

abbrev pub use_key : UseRow → List (List ℕ)
use_key r = r.op ∷ use_rest r

abbrev pub reader_rest : ReaderRow → List (List ℕ)
reader_rest r = r.station ∷ []

abbrev pub reader_key : ReaderRow → List (List ℕ)
reader_key r = r.op ∷ reader_rest r

abbrev pub registration_of : StationRow → Registration
registration_of r = record { policy = r.policy; interval = r.interval; state = r.state }

-- the station of an operator, among stations of all
abbrev pub station_in : List ℕ → List ℕ → List StationRow → Option StationRow
station_in b station stations = found (λ r. r.op) b (λ r. bytes_eq r.station station) stations

-- how it is registered
abbrev pub registration_in : List ℕ → List ℕ → List StationRow → Option Registration
registration_in b station stations = option_map registration_of (station_in b station stations)

abbrev pub registration_at : List ℕ → List ℕ → Rows → Option Registration
registration_at b station rows = registration_in b station rows.stations
