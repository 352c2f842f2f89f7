-- Stations, connectors, reports and readers: their typed tables, and what the texts that write, drop and show them mean.
use Rattle.std.proofs.Common.{codes, ◌&&◌, ◌++◌, ◌∷◌, ◌≡◌, ℕ, pos, List, [], Option, Some, None, option_map, refl, inl, inr, true}
use Rattle.sqlite_value.specs.Order.{Row}
use Rattle.sqlite_value.specs.Keys.{joined}
use Rattle.sqlite_schema.specs.declared.schema.Keys.TheVariants.{Enforced}
use Rattle.sqlite_schema.specs.Names.{same_name}
use Rattle.sqlite_rules.specs.Action.{works}
use Rattle.sql_tables.specs.Tables.{hub_schema, hub_station, names_of, hub_connector, hub_report, hub_reader}
use Rattle.sql_tables.specs.Forms.{above_is, cols, where_is, range_is, by_column}
use Rattle.sql_rows.specs.TypedTables.{hub_good, stations, connectors, reports, readers, boot_option, rows_of}
use Rattle.sql_rows.proofs.TableLemmas.{cast_int}
use Rattle.sql_rows.proofs.ValueLaws.{text_cast, count_cast, text_back}
use Rattle.sql_rows.proofs.TypedTableLemmas.{IsTypedTable}
use Rattle.sql_rows.proofs.PutLemmas.{IsPutForm}
use Rattle.sql_rows.proofs.ReadLaws.{IsWhole}
use Rattle.hub_rows.specs.declared.station_row.StationRow.{StationRow}
use Rattle.hub_rows.specs.declared.station_row.Boot.{Boot}
use Rattle.ocpp_types.specs.declared.boot_notification.BootNotification.{BootNotification}
use Rattle.sqlite_schema.specs.declared.schema.Kind.TheVariants as kind
use Rattle.sqlite_rules.specs.Cast.{cast, cast_all}
use Rattle.sql_rows.proofs.NameLaws.{status_back, policy_back, reader_back, state_back, error_back, diagnostics_back, firmware_back}
use Rattle.hub_rows.specs.declared.reader_row.ReaderRow.{ReaderRow}
use Rattle.hub_rows.specs.declared.report_row.ReportRow.{ReportRow}
use Rattle.hub_rows.specs.declared.report_row.ReportedStatus.{ReportedStatus}
use Rattle.hub_rows.specs.declared.report_row.ReportedStatus.TheVariants.{Diagnostics, Firmware}
use Rattle.std.specs.Ordering.{is_gt}
use Rattle.std.specs.Str.{bytes_eq}
use Rattle.sqlite_value.specs.declared.value.Value.TheVariants.{Text, Blob}
use Rattle.sqlite_trees.specs.Tree.{Trees}
use Rattle.hub_rows.specs.declared.connector_row.ConnectorRow.{ConnectorRow}
use Rattle.hub_rows.specs.Keyed.{by_key, put, text_cmp, without}
use Rattle.hub_rows.specs.Rows.{station_key, connector_key, report_key, reader_key}
use Rattle.sql_tables.specs.declared.connectors.TheConstants as sql_connectors
use Rattle.sql_tables.specs.declared.readers.TheConstants as sql_readers
use Rattle.sql_tables.specs.declared.reports.TheConstants as sql_reports
use Rattle.sql_tables.specs.declared.stations.TheConstants as sql_stations
use Rattle.sql_tables.proofs.Texts as texts
use Rattle.sql_rows.specs.TypedTable.{rows_in, Spares}
use Rattle.sql_rows.specs.Kept.{IsMade}
use Rattle.sql_rows.proofs.StoreLemmas.{Means, means_as}
use Rattle.sql_rows.proofs.Writes.{puts, drops}
use Rattle.sql_rows.proofs.FirstLaws.{IsLed, led_by}
use Rattle.sql_rows.proofs.Selects.{ReadsRows, ReadsText}
use Rattle.sql_rows.proofs.Tests as tests
use Rattle.sql_rows.proofs.HubTables.{all_plain, rest_is, spared}

-- ---- stations

station_round : (s : StationRow) → stations.read (stations.row s) ≡ s
station_round s = go s.boot
  where
    go : (o : Option Boot) → stations.read (stations.row (record s { boot = o })) ≡ record s { boot = o }
    go None = rw (policy_back s.policy, state_back s.state) refl
    go (Some b) = rw (policy_back s.policy, state_back s.state, text_back b.texts.charge_box_serial_number, text_back b.texts.charge_point_serial_number, text_back b.texts.firmware_version, text_back b.texts.iccid, text_back b.texts.imsi, text_back b.texts.meter_serial_number, text_back b.texts.meter_type) refl

option_casts : (f : BootNotification → Option (List ℕ)) (o : Option Boot) → cast kind.Text (boot_option f o) ≡ boot_option f o
option_casts f None = refl
option_casts f (Some b) = text_cast (f b.texts)

station_casts : (s : StationRow) → cast_all hub_station.columns (stations.row s) ≡ stations.row s
station_casts s = rw (
  cast_int (pos s.interval),
  count_cast (option_map (λ b. b.moment) s.boot),
  text_cast (option_map (λ b. b.texts.charge_point_model) s.boot),
  text_cast (option_map (λ b. b.texts.charge_point_vendor) s.boot),
  option_casts (λ b. b.charge_box_serial_number) s.boot,
  option_casts (λ b. b.charge_point_serial_number) s.boot,
  option_casts (λ b. b.firmware_version) s.boot,
  option_casts (λ b. b.iccid) s.boot,
  option_casts (λ b. b.imsi) s.boot,
  option_casts (λ b. b.meter_serial_number) s.boot,
  option_casts (λ b. b.meter_type) s.boot,
) refl

pub on_stations : IsTypedTable hub_schema hub_good 1 stations
on_stations = record {
  key_row = λ s. refl;
  row_key = λ s. refl;
  long = λ s. refl;
  round = λ s. station_round s;
  casts = λ s. station_casts s;
  good_is = refl;
  here = refl;
  listed = inr (inl refl);
  index = _;
  guarded = inr (inl refl);
  guards_it = refl;
  columns = refl;
  order = refl;
  orders = all_plain;
  base = λ db. refl;
  counted = refl;
  still = λ olds news some. rw some refl;
}

pub put_stations : IsPutForm stations 13
put_stations = record { source = λ s. refl; filter = λ s v i r. refl; project = λ s u v i j. refl }

pub whole_stations : IsWhole stations (cols 1 1 15)
whole_stations s v params = refl

-- a delete in this table sets off nothing
frees_stations : (olds : List Row) → works hub_schema Enforced 0 2 olds [] ≡ []
unfolding same_name joined
frees_stations olds = refl

pub stations_made : (old new : Trees) (made : List StationRow) → rows_in stations new ≡ made → Spares hub_schema 2 old new → rows_of new ≡ record (rows_of old) { stations = made }
stations_made old new made rows frame = λ i. record (rows_of (rest_is (2 ∷ []) old new (spared 2 old new frame) i)) { stations = rows i }

pub puts_station : (r : StationRow) → Means sql_stations.PUT.now (stations.row r) (IsMade (λ rows. record rows { stations = put (by_key station_key) r rows.stations }))
puts_station r = means_as (puts 1 stations on_stations sql_stations.PUT.now (λ e. cc) 13 put_stations texts.put_station_is r) (λ old new h. stations_made old new _ h.rows h.frame)

pub drops_station : (op station : List ℕ) → Means sql_stations.DROP.now (Text op ∷ Text station ∷ []) (IsMade (λ rows. record rows { stations = without (λ r. r.op) op (λ r. bytes_eq r.station station) rows.stations }))
drops_station op station =
    means_as (drops 1 stations on_stations sql_stations.DROP.now (λ e. cc) (where_is 0 (1 ∷ 2 ∷ [])) (Text op ∷ Text station ∷ []) (λ r. bytes_eq r.op op && bytes_eq r.station station) (tests.of_station op station) frees_stations texts.drop_station_is)
    (λ old new h. stations_made old new _ h.rows h.frame)

pub reads_station : (op station : List ℕ) → ReadsRows sql_stations.FIND.now (Text op ∷ Text station ∷ Text station ∷ []) stations (λ r. bytes_eq r.op op && bytes_eq r.station station)
reads_station op station = record { at = 1; is = on_stations; wanted = where_is 0 (1 ∷ []) ++ range_is 1 2; project = cols 1 1 15; whole = whole_stations; order = by_column 2 ∷ []; names = names_of hub_station; text = texts.find_stations_is; test = tests.one_station op station }

pub reads_stations : (op : List ℕ) → ReadsRows sql_stations.FIND.now (Text op ∷ Text [] ∷ Blob [] ∷ []) stations (λ r. bytes_eq r.op op && true)
reads_stations op = record { at = 1; is = on_stations; wanted = where_is 0 (1 ∷ []) ++ range_is 1 2; project = cols 1 1 15; whole = whole_stations; order = by_column 2 ∷ []; names = names_of hub_station; text = texts.find_stations_is; test = tests.all_stations op }

operators_led : IsLed stations (λ r. r.op)
operators_led a b = led_by a.op b.op _

pub reads_next_operator : (op : List ℕ) → ReadsText sql_stations.NEXT_OPERATOR.now (Text op ∷ []) stations (λ r. r.op) (λ r. is_gt (text_cmp r.op op))
reads_next_operator op = record { at = 1; is = on_stations; wanted = above_is 0 1; project = cols 1 1 1; shown = λ t v params. refl; place = 1; texted = λ id t. refl; led = operators_led; names = codes "op" ∷ []; means = texts.next_operator_is; test = tests.after_operator op }

-- ---- connectors

pub on_connectors : IsTypedTable hub_schema hub_good 2 connectors
on_connectors = record {
  key_row = λ s. refl;
  row_key = λ s. refl;
  long = λ s. refl;
  round = λ s. rw (status_back s.report.status, error_back s.report.error_code, text_back s.report.info, text_back s.report.vendor_id, text_back s.report.vendor_error_code) refl;
  casts = λ s. rw (cast_int (pos s.connector), cast_int s.report.at, text_cast s.report.info, text_cast s.report.vendor_id, text_cast s.report.vendor_error_code) refl;
  good_is = refl;
  here = refl;
  listed = inr (inr (inl refl));
  index = _;
  guarded = inr (inr (inl refl));
  guards_it = refl;
  columns = refl;
  order = refl;
  orders = all_plain;
  base = λ db. refl;
  counted = refl;
  still = λ olds news some. rw some refl;
}

pub put_connectors : IsPutForm connectors 6
put_connectors = record { source = λ s. refl; filter = λ s v i r. refl; project = λ s u v i j. refl }

pub whole_connectors : IsWhole connectors (cols 1 1 9)
whole_connectors s v params = refl

-- a delete in this table sets off nothing
frees_connectors : (olds : List Row) → works hub_schema Enforced 0 4 olds [] ≡ []
unfolding same_name joined
frees_connectors olds = refl

pub connectors_made : (old new : Trees) (made : List ConnectorRow) → rows_in connectors new ≡ made → Spares hub_schema 4 old new → rows_of new ≡ record (rows_of old) { connectors = made }
connectors_made old new made rows frame = λ i. record (rows_of (rest_is (4 ∷ []) old new (spared 4 old new frame) i)) { connectors = rows i }

pub puts_connector : (r : ConnectorRow) → Means sql_connectors.PUT.now (connectors.row r) (IsMade (λ rows. record rows { connectors = put (by_key connector_key) r rows.connectors }))
puts_connector r = means_as (puts 2 connectors on_connectors sql_connectors.PUT.now (λ e. cc) 6 put_connectors texts.put_connector_is r) (λ old new h. connectors_made old new _ h.rows h.frame)

pub drops_connectors : (op station : List ℕ) → Means sql_connectors.DROP.now (Text op ∷ Text station ∷ []) (IsMade (λ rows. record rows { connectors = without (λ r. r.op) op (λ r. bytes_eq r.station station) rows.connectors }))
drops_connectors op station =
    means_as (drops 2 connectors on_connectors sql_connectors.DROP.now (λ e. cc) (where_is 0 (1 ∷ 2 ∷ [])) (Text op ∷ Text station ∷ []) (λ r. bytes_eq r.op op && bytes_eq r.station station) (tests.of_connectors op station) frees_connectors texts.drop_connectors_is)
    (λ old new h. connectors_made old new _ h.rows h.frame)

pub reads_connectors : (op station : List ℕ) → ReadsRows sql_connectors.LIST.now (Text op ∷ Text station ∷ []) connectors (λ r. bytes_eq r.op op && bytes_eq r.station station)
reads_connectors op station = record { at = 2; is = on_connectors; wanted = where_is 0 (1 ∷ 2 ∷ []); project = cols 1 1 9; whole = whole_connectors; order = by_column 3 ∷ []; names = names_of hub_connector; text = texts.list_connectors_is; test = tests.of_connectors op station }

-- ---- reports

report_round : (s : ReportRow) → reports.read (reports.row s) ≡ s
report_round s = go s.status
  where
    go : (status : ReportedStatus) → reports.read (reports.row (record s { status = status })) ≡ record s { status = status }
    go (Diagnostics status) = rw (diagnostics_back status) refl
    go (Firmware status) = rw (firmware_back status) refl

pub on_reports : IsTypedTable hub_schema hub_good 10 reports
on_reports = record {
  key_row = λ s. refl;
  row_key = λ s. refl;
  long = λ s. refl;
  round = λ s. report_round s;
  casts = λ s. rw (cast_int (pos s.moment)) refl;
  good_is = refl;
  here = refl;
  listed = inr (inr (inr (inr (inr (inr (inr (inr (inr (inr (inl refl))))))))));
  index = _;
  guarded = inr (inr (inr (inr (inr (inr (inr (inr (inr (inr (inl refl))))))))));
  guards_it = refl;
  columns = refl;
  order = refl;
  orders = all_plain;
  base = λ db. refl;
  counted = refl;
  still = λ olds news some. rw some refl;
}

pub put_reports : IsPutForm reports 2
put_reports = record { source = λ s. refl; filter = λ s v i r. refl; project = λ s u v i j. refl }

pub whole_reports : IsWhole reports (cols 1 1 5)
whole_reports s v params = refl

-- a delete in this table sets off nothing
frees_reports : (olds : List Row) → works hub_schema Enforced 0 20 olds [] ≡ []
unfolding same_name joined
frees_reports olds = refl

pub reports_made : (old new : Trees) (made : List ReportRow) → rows_in reports new ≡ made → Spares hub_schema 20 old new → rows_of new ≡ record (rows_of old) { reports = made }
reports_made old new made rows frame = λ i. record (rows_of (rest_is (20 ∷ []) old new (spared 20 old new frame) i)) { reports = rows i }

pub puts_report : (r : ReportRow) → Means sql_reports.PUT.now (reports.row r) (IsMade (λ rows. record rows { reports = put (by_key report_key) r rows.reports }))
puts_report r = means_as (puts 10 reports on_reports sql_reports.PUT.now (λ e. cc) 2 put_reports texts.put_report_is r) (λ old new h. reports_made old new _ h.rows h.frame)

pub drops_reports : (op station : List ℕ) → Means sql_reports.DROP.now (Text op ∷ Text station ∷ []) (IsMade (λ rows. record rows { reports = without (λ r. r.op) op (λ r. bytes_eq r.station station) rows.reports }))
drops_reports op station =
    means_as (drops 10 reports on_reports sql_reports.DROP.now (λ e. cc) (where_is 0 (1 ∷ 2 ∷ [])) (Text op ∷ Text station ∷ []) (λ r. bytes_eq r.op op && bytes_eq r.station station) (tests.of_reports op station) frees_reports texts.drop_reports_is)
    (λ old new h. reports_made old new _ h.rows h.frame)

pub reads_reports : (op station : List ℕ) → ReadsRows sql_reports.LIST.now (Text op ∷ Text station ∷ []) reports (λ r. bytes_eq r.op op && bytes_eq r.station station)
reads_reports op station = record { at = 10; is = on_reports; wanted = where_is 0 (1 ∷ 2 ∷ []); project = cols 1 1 5; whole = whole_reports; order = by_column 3 ∷ []; names = names_of hub_report; text = texts.list_reports_is; test = tests.of_reports op station }

-- ---- readers

pub on_readers : IsTypedTable hub_schema hub_good 14 readers
on_readers = record {
  key_row = λ s. refl;
  row_key = λ s. refl;
  long = λ s. refl;
  round = λ s. rw (reader_back s.reader) refl;
  casts = λ s. refl;
  good_is = refl;
  here = refl;
  listed = inr (inr (inr (inr (inr (inr (inr (inr (inr (inr (inr (inr (inr (inr (inl refl))))))))))))));
  index = _;
  guarded = inr (inr (inr (inr (inr (inr (inr (inr (inr (inr (inr (inr (inr (inr (inl refl))))))))))))));
  guards_it = refl;
  columns = refl;
  order = refl;
  orders = all_plain;
  base = λ db. refl;
  counted = refl;
  still = λ olds news some. rw some refl;
}

pub put_readers : IsPutForm readers 1
put_readers = record { source = λ s. refl; filter = λ s v i r. refl; project = λ s u v i j. refl }

pub whole_readers : IsWhole readers (cols 1 1 3)
whole_readers s v params = refl

-- a delete in this table sets off nothing
frees_readers : (olds : List Row) → works hub_schema Enforced 0 28 olds [] ≡ []
unfolding same_name joined
frees_readers olds = refl

pub readers_made : (old new : Trees) (made : List ReaderRow) → rows_in readers new ≡ made → Spares hub_schema 28 old new → rows_of new ≡ record (rows_of old) { readers = made }
readers_made old new made rows frame = λ i. record (rows_of (rest_is (28 ∷ []) old new (spared 28 old new frame) i)) { readers = rows i }

pub puts_reader : (r : ReaderRow) → Means sql_readers.PUT.now (readers.row r) (IsMade (λ rows. record rows { readers = put (by_key reader_key) r rows.readers }))
puts_reader r = means_as (puts 14 readers on_readers sql_readers.PUT.now (λ e. cc) 1 put_readers texts.put_reader_is r) (λ old new h. readers_made old new _ h.rows h.frame)

pub drops_reader : (op station : List ℕ) → Means sql_readers.DROP.now (Text op ∷ Text station ∷ []) (IsMade (λ rows. record rows { readers = without (λ r. r.op) op (λ r. bytes_eq r.station station) rows.readers }))
drops_reader op station =
    means_as (drops 14 readers on_readers sql_readers.DROP.now (λ e. cc) (where_is 0 (1 ∷ 2 ∷ [])) (Text op ∷ Text station ∷ []) (λ r. bytes_eq r.op op && bytes_eq r.station station) (tests.of_reader op station) frees_readers texts.drop_reader_is)
    (λ old new h. readers_made old new _ h.rows h.frame)

pub reads_reader : (op station : List ℕ) → ReadsRows sql_readers.FIND.now (Text op ∷ Text station ∷ Text station ∷ []) readers (λ r. bytes_eq r.op op && bytes_eq r.station station)
reads_reader op station = record { at = 14; is = on_readers; wanted = where_is 0 (1 ∷ []) ++ range_is 1 2; project = cols 1 1 3; whole = whole_readers; order = by_column 2 ∷ []; names = names_of hub_reader; text = texts.find_readers_is; test = tests.one_reader op station }

pub reads_readers : (op : List ℕ) → ReadsRows sql_readers.FIND.now (Text op ∷ Text [] ∷ Blob [] ∷ []) readers (λ r. bytes_eq r.op op && true)
reads_readers op = record { at = 14; is = on_readers; wanted = where_is 0 (1 ∷ []) ++ range_is 1 2; project = cols 1 1 3; whole = whole_readers; order = by_column 2 ∷ []; names = names_of hub_reader; text = texts.find_readers_is; test = tests.all_readers op }
