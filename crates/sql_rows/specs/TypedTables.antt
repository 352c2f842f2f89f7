-- The rows of the hub, and how each is kept.
use Rattle.std.specs.Prelude.{ℕ, zero, suc, pos, Bool, ◌&&◌, if◌then◌else◌, List, [], ◌∷◌, Option, Some, None, option_map, unwrap_or, map, filter, length, codes, ⊤}
use Rattle.std.specs.Str.{bytes_eq}
use Rattle.sqlite_value.specs.declared.value.Value.{Value}
use Rattle.sqlite_value.specs.declared.value.Value.TheVariants.{Int, Text}
use Rattle.sqlite_value.specs.Order.{Row, column}
use Rattle.sqlite_trees.specs.Tree.{Trees}
use Rattle.sql_tables.specs.Tables.{hub_meta, hub_station, hub_connector, hub_tag, hub_grant, hub_tx, hub_reading, hub_reservation, hub_list, hub_list_entry, hub_report, hub_tx_owner, hub_use, hub_meter_value, hub_reader}
use Rattle.ocpp_types.specs.TagKey.{key_of}
use Rattle.ocpp_types.specs.Policy.{policy_name, policies}
use Rattle.ocpp_types.specs.State.{state_name, states}
use Rattle.ocpp_types.specs.ChargePointStatus.{charge_point_status_name, charge_point_statuses}
use Rattle.ocpp_types.specs.ChargePointErrorCode.{charge_point_error_code_name, charge_point_error_codes}
use Rattle.ocpp_types.specs.AuthorizationStatus.{authorization_status_name, authorization_statuses}
use Rattle.ocpp_types.specs.Reason.{reason_name, reasons}
use Rattle.ocpp_types.specs.ReadingContext.{reading_context_name, reading_contexts}
use Rattle.ocpp_types.specs.ValueFormat.{value_format_name, value_formats}
use Rattle.ocpp_types.specs.Measurand.{measurand_name, measurands}
use Rattle.ocpp_types.specs.Phase.{phase_name, phases}
use Rattle.ocpp_types.specs.Location.{location_name, locations}
use Rattle.ocpp_types.specs.UnitOfMeasure.{unit_of_measure_name, units_of_measure}
use Rattle.ocpp_types.specs.DiagnosticsStatus.{diagnostics_statuses}
use Rattle.ocpp_types.specs.FirmwareStatus.{firmware_statuses}
use Rattle.ocpp_types.specs.declared.boot_notification.BootNotification.{BootNotification}
use Rattle.ocpp_types.specs.declared.sampled_value.SampledValue.{SampledValue}
use Rattle.ocpp_types.specs.declared.policy.Policy.TheVariants as policy
use Rattle.ocpp_types.specs.declared.state.State.TheVariants as state
use Rattle.ocpp_types.specs.declared.charge_point_status.ChargePointStatus.TheVariants as status
use Rattle.ocpp_types.specs.declared.charge_point_error_code.ChargePointErrorCode.TheVariants as error
use Rattle.ocpp_types.specs.declared.authorization_status.AuthorizationStatus.TheVariants as judged
use Rattle.ocpp_types.specs.declared.reason.Reason.TheVariants as reason
use Rattle.ocpp_types.specs.declared.reading_context.ReadingContext.TheVariants as context
use Rattle.ocpp_types.specs.declared.value_format.ValueFormat.TheVariants as format
use Rattle.ocpp_types.specs.declared.measurand.Measurand.TheVariants as measurand
use Rattle.ocpp_types.specs.declared.location.Location.TheVariants as location
use Rattle.ocpp_types.specs.declared.diagnostics_status.DiagnosticsStatus.TheVariants as diagnostics
use Rattle.ocpp_types.specs.declared.firmware_status.FirmwareStatus.TheVariants as firmware
use Rattle.hub_rows.specs.declared.station_row.StationRow.{StationRow}
use Rattle.hub_rows.specs.declared.station_row.Boot.{Boot}
use Rattle.hub_rows.specs.declared.connector_row.ConnectorRow.{ConnectorRow}
use Rattle.hub_rows.specs.declared.tag_row.TagRow.{TagRow}
use Rattle.hub_rows.specs.declared.grant_row.GrantRow.{GrantRow}
use Rattle.hub_rows.specs.declared.tx_row.TxRow.{TxRow}
use Rattle.hub_rows.specs.declared.tx_row.Stop.{Stop}
use Rattle.hub_rows.specs.declared.meter_value_row.MeterValueRow.{MeterValueRow}
use Rattle.hub_rows.specs.declared.reservation_row.ReservationRow.{ReservationRow}
use Rattle.hub_rows.specs.declared.list_row.ListRow.{ListRow}
use Rattle.hub_rows.specs.declared.list_row.LocalTag.{LocalTag}
use Rattle.hub_rows.specs.declared.report_row.ReportRow.{ReportRow}
use Rattle.hub_rows.specs.declared.reader_row.ReaderRow.{ReaderRow}
use Rattle.hub_rows.specs.declared.reader_row.Reader.TheVariants as reader
use Rattle.hub_rows.specs.declared.tx_row.TxOwnerRow.{TxOwnerRow}
use Rattle.hub_rows.specs.declared.use_row.UseRow.{UseRow}
use Rattle.hub_rows.specs.declared.report_row.ReportedStatus.{ReportedStatus}
use Rattle.hub_rows.specs.declared.report_row.ReportedStatus.TheVariants.{Diagnostics, Firmware}
use Rattle.meter_values.specs.Read.{sampled_in}
use Rattle.meter_values.specs.Written.{text_of}
use Rattle.sql_rows.specs.declared.list_rows.ListHead.{ListHead}
use Rattle.sql_rows.specs.declared.list_rows.EntryRow.{EntryRow}
use Rattle.sql_rows.specs.declared.meta_rows.MetaRow.{MetaRow}
use Rattle.sql_rows.specs.declared.reading_rows.ReadingRow.{ReadingRow}
use Rattle.hub_rows.specs.Rows.{Rows, station_key, connector_key, tag_key, grant_key, tx_key, meter_value_key, reservation_key, report_key, reader_key, tx_owner_key, use_key}
use Rattle.hub_rows.specs.Readers.{reader_name, readers as reader_names}
use Rattle.hub_rows.specs.Reports.{kind_of, reported_name}
use Rattle.hub_rows.specs.Transactions.{is_open, counts}
use Rattle.hub_rows.specs.Reservations.{shifted, unshifted}
use Rattle.sql_rows.specs.TypedTable.{TypedTable, text_part, count_part, signed_part, IsRowOf, rows_in}
use Rattle.sql_rows.specs.Values.{text_in, text_if_any, flag_in, count_if_any, count_in, number_in, number_if_any, name_in, name_if_any, text_or_null, number_or_null, count_or_null, flag}

-- the texts of a boot, if there was one
abbrev pub boot_text : (BootNotification → List ℕ) → Option Boot → Value
boot_text f boot = text_or_null (option_map (λ b. f b.texts) boot)

abbrev pub boot_option : (BootNotification → Option (List ℕ)) → Option Boot → Value
boot_option f None = text_or_null None
boot_option f (Some b) = text_or_null (f b.texts)

-- what is written of a boot, from column 6 on
abbrev pub boot_in : Row → Option Boot
boot_in r = option_map (λ moment. record {
  texts = record {
    charge_box_serial_number = text_if_any (column r 8);
    charge_point_model = text_in (column r 6);
    charge_point_serial_number = text_if_any (column r 9);
    charge_point_vendor = text_in (column r 7);
    firmware_version = text_if_any (column r 10);
    iccid = text_if_any (column r 11);
    imsi = text_if_any (column r 12);
    meter_serial_number = text_if_any (column r 13);
    meter_type = text_if_any (column r 14);
  };
  moment = moment;
}) (count_if_any (column r 5))

abbrev pub stations : TypedTable StationRow
stations = record {
  table = hub_station;
  parts = text_part ∷ text_part ∷ [];
  key = station_key;
  row = λ s. Text s.op ∷ Text s.station ∷ Text (policy_name s.policy) ∷ Int (pos s.interval) ∷ Text (state_name s.state) ∷ count_or_null (option_map (λ b. b.moment) s.boot)
      ∷ boot_text (λ b. b.charge_point_model) s.boot ∷ boot_text (λ b. b.charge_point_vendor) s.boot ∷ boot_option (λ b. b.charge_box_serial_number) s.boot ∷ boot_option (λ b. b.charge_point_serial_number) s.boot
      ∷ boot_option (λ b. b.firmware_version) s.boot ∷ boot_option (λ b. b.iccid) s.boot ∷ boot_option (λ b. b.imsi) s.boot ∷ boot_option (λ b. b.meter_serial_number) s.boot ∷ boot_option (λ b. b.meter_type) s.boot ∷ [];
  read = λ r. record {
    op = text_in (column r 0);
    station = text_in (column r 1);
    policy = name_in policies policy.Accepted (column r 2);
    interval = count_in (column r 3);
    state = name_in states state.Fresh (column r 4);
    boot = boot_in r;
  };
}

abbrev pub connectors : TypedTable ConnectorRow
connectors = record {
  table = hub_connector;
  parts = text_part ∷ text_part ∷ count_part ∷ [];
  key = connector_key;
  row = λ c. Text c.op ∷ Text c.station ∷ Int (pos c.connector) ∷ Text (charge_point_status_name c.report.status) ∷ Text (charge_point_error_code_name c.report.error_code) ∷ Int c.report.at
      ∷ text_or_null c.report.info ∷ text_or_null c.report.vendor_id ∷ text_or_null c.report.vendor_error_code ∷ [];
  read = λ r. record {
    op = text_in (column r 0);
    station = text_in (column r 1);
    connector = count_in (column r 2);
    report = record {
      status = name_in charge_point_statuses status.Available (column r 3);
      error_code = name_in charge_point_error_codes error.NoError (column r 4);
      at = number_in (column r 5);
      info = text_if_any (column r 6);
      vendor_id = text_if_any (column r 7);
      vendor_error_code = text_if_any (column r 8);
    };
  };
}

-- the key of the parent is written too, by which the parent's row is joined
abbrev pub tags : TypedTable TagRow
tags = record {
  table = hub_tag;
  parts = text_part ∷ text_part ∷ [];
  key = tag_key;
  row = λ t. Text t.op ∷ Text t.key ∷ Text t.tag.text ∷ text_or_null t.tag.parent ∷ text_or_null (option_map key_of t.tag.parent) ∷ flag t.tag.blocked ∷ count_or_null t.tag.expiry ∷ [];
  read = λ r. record {
    op = text_in (column r 0);
    key = text_in (column r 1);
    tag = record { text = text_in (column r 2); parent = text_if_any (column r 3); blocked = flag_in (column r 5); expiry = count_if_any (column r 6) };
  };
}

abbrev pub grants : TypedTable GrantRow
grants = record {
  table = hub_grant;
  parts = text_part ∷ text_part ∷ text_part ∷ [];
  key = grant_key;
  row = λ g. Text g.op ∷ Text g.key ∷ Text g.to ∷ count_or_null g.until ∷ [];
  read = λ r. record { op = text_in (column r 0); key = text_in (column r 1); to = text_in (column r 2); until = count_if_any (column r 3) };
}

-- what is written of a stop, from column 14 on
abbrev pub stop_in : Row → Option Stop
stop_in r = option_map (λ moment. record { meter_stop = number_in (column r 13); at = number_in (column r 14); reason = name_in reasons reason.Local (column r 15); tag = text_if_any (column r 16); moment = moment }) (count_if_any (column r 17))

abbrev pub stop_tag : Option Stop → Option (List ℕ)
stop_tag None = None
stop_tag (Some s) = s.tag

-- whether it is open and whether its tag is in use are written too, by which such transactions are found
abbrev pub txs : TypedTable TxRow
txs = record {
  table = hub_tx;
  parts = text_part ∷ text_part ∷ count_part ∷ [];
  key = tx_key;
  row = λ t. Text t.op ∷ Text t.station ∷ Int (pos t.number) ∷ Int (pos t.start.id.connector) ∷ Text t.start.id.key ∷ Int t.start.id.meter_start ∷ Int t.start.id.at ∷ Text t.start.tag
      ∷ number_or_null t.start.reservation ∷ Text (authorization_status_name t.start.status) ∷ Int (pos t.start.begun) ∷ flag (is_open t) ∷ flag (counts t)
      ∷ number_or_null (option_map (λ s. s.meter_stop) t.stop) ∷ number_or_null (option_map (λ s. s.at) t.stop) ∷ text_or_null (option_map (λ s. reason_name s.reason) t.stop) ∷ text_or_null (stop_tag t.stop)
      ∷ count_or_null (option_map (λ s. s.moment) t.stop) ∷ [];
  read = λ r. record {
    op = text_in (column r 0);
    station = text_in (column r 1);
    number = count_in (column r 2);
    start = record {
      id = record { connector = count_in (column r 3); key = text_in (column r 4); meter_start = number_in (column r 5); at = number_in (column r 6) };
      tag = text_in (column r 7);
      reservation = number_if_any (column r 8);
      status = name_in authorization_statuses judged.Accepted (column r 9);
      begun = count_in (column r 10);
    };
    stop = stop_in r;
  };
}

-- readings as they are kept up to schema 3
abbrev pub readings : TypedTable ReadingRow
readings = record {
  table = hub_reading;
  parts = text_part ∷ text_part ∷ count_part ∷ [];
  key = λ r. r.op ∷ r.station ∷ (r.number ∷ []) ∷ [];
  row = λ m. Text m.op ∷ Text m.station ∷ Int (pos m.number) ∷ Int (pos m.connector) ∷ number_or_null m.transaction ∷ Int m.at ∷ Text (reading_context_name m.sampled.context)
      ∷ Text (value_format_name m.sampled.format) ∷ Text (measurand_name m.sampled.measurand) ∷ text_or_null (option_map phase_name m.sampled.phase) ∷ Text (location_name m.sampled.location)
      ∷ text_or_null (option_map unit_of_measure_name m.sampled.unit) ∷ Text m.sampled.value ∷ [];
  read = λ r. record {
    op = text_in (column r 0);
    station = text_in (column r 1);
    number = count_in (column r 2);
    connector = count_in (column r 3);
    transaction = number_if_any (column r 4);
    at = number_in (column r 5);
    sampled = record {
      value = text_in (column r 12);
      context = name_in reading_contexts context.Other (column r 6);
      format = name_in value_formats format.Raw (column r 7);
      measurand = name_in measurands measurand.Voltage (column r 8);
      phase = name_if_any phases (column r 9);
      location = name_in locations location.Outlet (column r 10);
      unit = name_if_any units_of_measure (column r 11);
    };
  };
}

-- ---- meter values

-- the sampled values that a text is; none where it isn't a list of them, and such a row is refused when it is read
abbrev pub sampled_of : Value → List SampledValue
sampled_of v = unwrap_or (sampled_in (text_in v)) []

-- how many they are is written too
abbrev pub meter_values : TypedTable MeterValueRow
meter_values = record {
  table = hub_meter_value;
  parts = text_part ∷ text_part ∷ count_part ∷ [];
  key = meter_value_key;
  row = λ m. Text m.op ∷ Text m.station ∷ Int (pos m.first) ∷ Int (pos m.value.connector) ∷ number_or_null m.value.transaction ∷ Int m.value.at ∷ Int (pos (length m.value.sampled)) ∷ Text (text_of m.value.sampled) ∷ [];
  read = λ r. record {
    op = text_in (column r 0);
    station = text_in (column r 1);
    first = count_in (column r 2);
    value = record { connector = count_in (column r 3); transaction = number_if_any (column r 4); at = number_in (column r 5); sampled = sampled_of (column r 7) };
  };
}

-- the first number of a meter value, and how many readings it is
abbrev pub first_and_count : MeterValueRow → ℕ × ℕ
first_and_count m = (m.first, length m.value.sampled)

-- the same, in their columns
abbrev pub first_and_count_cells : MeterValueRow → Row
first_and_count_cells m = Int (pos m.first) ∷ Int (pos (length m.value.sampled)) ∷ []

abbrev pub reservations : TypedTable ReservationRow
reservations = record {
  table = hub_reservation;
  parts = text_part ∷ text_part ∷ signed_part ∷ [];
  key = reservation_key;
  row = λ s. Text s.op ∷ Text s.station ∷ Int (unshifted s.id) ∷ Int (pos s.reservation.connector) ∷ Text s.reservation.tag ∷ text_or_null s.reservation.parent ∷ Int (pos s.reservation.expiry) ∷ [];
  read = λ r. record {
    op = text_in (column r 0);
    station = text_in (column r 1);
    id = shifted (number_in (column r 2));
    reservation = record { connector = count_in (column r 3); tag = text_in (column r 4); parent = text_if_any (column r 5); expiry = count_in (column r 6) };
  };
}

-- ---- a local list is kept as its version, and its entries in another table

abbrev pub lists : TypedTable ListHead
lists = record {
  table = hub_list;
  parts = text_part ∷ text_part ∷ [];
  key = λ l. l.op ∷ l.station ∷ [];
  row = λ l. Text l.op ∷ Text l.station ∷ Int (pos l.version) ∷ [];
  read = λ r. record { op = text_in (column r 0); station = text_in (column r 1); version = count_in (column r 2) };
}

-- an entry of a local list, by the key of its tag
abbrev pub entry_row : List ℕ → List ℕ → LocalTag → EntryRow
entry_row op station entry = record { op = op; station = station; key = key_of entry.tag; entry = entry }

abbrev pub entries : TypedTable EntryRow
entries = record {
  table = hub_list_entry;
  parts = text_part ∷ text_part ∷ text_part ∷ [];
  key = λ e. e.op ∷ e.station ∷ e.key ∷ [];
  row = λ e. Text e.op ∷ Text e.station ∷ Text e.key ∷ Text e.entry.tag ∷ count_or_null e.entry.info.expiry_date ∷ text_or_null e.entry.info.parent_id_tag ∷ Text (authorization_status_name e.entry.info.status) ∷ [];
  read = λ r. record {
    op = text_in (column r 0);
    station = text_in (column r 1);
    key = text_in (column r 2);
    entry = record { tag = text_in (column r 3); info = record { expiry_date = count_if_any (column r 4); parent_id_tag = text_if_any (column r 5); status = name_in authorization_statuses judged.Accepted (column r 6) } };
  };
}

abbrev pub is_entry_of : ListHead → EntryRow → Bool
is_entry_of l e = bytes_eq e.op l.op && bytes_eq e.station l.station

abbrev pub list_of : List EntryRow → ListHead → ListRow
list_of all l = record { op = l.op; station = l.station; list = record { version = l.version; entries = map (λ e. e.entry) (filter (is_entry_of l) all) } }

-- ---- reports

-- a status by the names of its kind and of itself
abbrev pub status_in : Value → Value → ReportedStatus
status_in kind name =
    if bytes_eq (text_in kind) (codes "Diagnostics") then Diagnostics (name_in diagnostics_statuses diagnostics.Idle name) else Firmware (name_in firmware_statuses firmware.Downloaded name)

abbrev pub reports : TypedTable ReportRow
reports = record {
  table = hub_report;
  parts = text_part ∷ text_part ∷ text_part ∷ [];
  key = report_key;
  row = λ r. Text r.op ∷ Text r.station ∷ Text (kind_of r.status) ∷ Text (reported_name r.status) ∷ Int (pos r.moment) ∷ [];
  read = λ r. record { op = text_in (column r 0); station = text_in (column r 1); status = status_in (column r 2) (column r 3); moment = count_in (column r 4) };
}

-- ---- readers

abbrev pub readers : TypedTable ReaderRow
readers = record {
  table = hub_reader;
  parts = text_part ∷ text_part ∷ [];
  key = reader_key;
  row = λ r. Text r.op ∷ Text r.station ∷ Text (reader_name r.reader) ∷ [];
  read = λ r. record { op = text_in (column r 0); station = text_in (column r 1); reader = name_in reader_names reader.Strict (column r 2) };
}

-- ---- settled uses

abbrev pub tx_owners : TypedTable TxOwnerRow
tx_owners = record {
  table = hub_tx_owner;
  parts = text_part ∷ text_part ∷ count_part ∷ [];
  key = tx_owner_key;
  row = λ o. Text o.op ∷ Text o.station ∷ Int (pos o.number) ∷ Text o.owner ∷ [];
  read = λ r. record { op = text_in (column r 0); station = text_in (column r 1); number = count_in (column r 2); owner = text_in (column r 3) };
}

abbrev pub uses : TypedTable UseRow
uses = record {
  table = hub_use;
  parts = text_part ∷ count_part ∷ [];
  key = use_key;
  row = λ u. Text u.op ∷ Int (pos u.number) ∷ Text u.host ∷ Text u.key ∷ Int (pos u.moment) ∷ Int u.wh ∷ [];
  read = λ r. record { op = text_in (column r 0); number = count_in (column r 1); host = text_in (column r 2); key = text_in (column r 3); moment = count_in (column r 4); wh = number_in (column r 5) };
}

-- ---- numbers that are kept of the database

abbrev pub metas : TypedTable MetaRow
metas = record {
  table = hub_meta;
  parts = text_part ∷ [];
  key = λ m. m.name ∷ [];
  row = λ m. Text m.name ∷ Int (pos m.number) ∷ [];
  read = λ r. record { name = text_in (column r 0); number = count_in (column r 1) };
}

-- ---- all rows

abbrev pub rows_of : Trees → Rows
rows_of db = record {
  stations = rows_in stations db;
  connectors = rows_in connectors db;
  tags = rows_in tags db;
  grants = rows_in grants db;
  transactions = rows_in txs db;
  meter_values = rows_in meter_values db;
  reservations = rows_in reservations db;
  local_lists = map (list_of (rows_in entries db)) (rows_in lists db);
  reports = rows_in reports db;
  tx_owners = rows_in tx_owners db;
  uses = rows_in uses db;
  readers = rows_in readers db;
}

abbrev pub Good : Type 1
Good = Row → Type 0

-- of a list by numbers
abbrev pub good_at : List Good → ℕ → Row → Type 0
good_at [] n r = ⊤
good_at (p ∷ ps) zero r = p r
good_at (p ∷ ps) (suc n) r = good_at ps n r

abbrev pub any_row : Good
any_row r = ⊤

-- what the rows of each tree are
abbrev pub hub_good : ℕ → Row → Type 0
hub_good = good_at (IsRowOf metas ∷ any_row ∷ IsRowOf stations ∷ any_row ∷ IsRowOf connectors ∷ any_row ∷ IsRowOf tags ∷ any_row ∷ IsRowOf grants ∷ any_row ∷ IsRowOf txs ∷ any_row ∷ IsRowOf readings ∷ any_row
    ∷ IsRowOf reservations ∷ any_row ∷ IsRowOf lists ∷ any_row ∷ IsRowOf entries ∷ any_row ∷ IsRowOf reports ∷ any_row ∷ IsRowOf tx_owners ∷ any_row ∷ IsRowOf uses ∷ any_row ∷ IsRowOf meter_values ∷ any_row ∷ IsRowOf readers ∷ [])
