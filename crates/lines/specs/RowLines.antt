-- The line of each row of a listing.
use Rattle.std.specs.Prelude.{ℕ, ℤ, List, ◌++◌, codes, Bool, true, false, Option, Some, None, option_map}
use Rattle.std.specs.Fmt.{decimal, signed_decimal}
use Rattle.serde_json.specs.Data.{Data, object, put, no_members, string}
use Rattle.serde_json.specs.Written.{compact_text}
use Rattle.ocpp_types.specs.Micro.{micro}
use Rattle.ocpp_types.specs.AuthorizationStatus.{authorization_status_name}
use Rattle.ocpp_types.specs.ChargePointErrorCode.{charge_point_error_code_name}
use Rattle.ocpp_types.specs.ChargePointStatus.{charge_point_status_name}
use Rattle.ocpp_types.specs.Location.{location_name}
use Rattle.ocpp_types.specs.Measurand.{measurand_name}
use Rattle.ocpp_types.specs.Phase.{phase_name}
use Rattle.ocpp_types.specs.Policy.{policy_name}
use Rattle.ocpp_types.specs.ReadingContext.{reading_context_name}
use Rattle.ocpp_types.specs.Reason.{reason_name}
use Rattle.ocpp_types.specs.State.{state_name}
use Rattle.ocpp_types.specs.UnitOfMeasure.{unit_of_measure_name}
use Rattle.ocpp_types.specs.ValueFormat.{value_format_name}
use Rattle.ocpp_types.specs.declared.value_format.ValueFormat.{ValueFormat}
use Rattle.ocpp_types.specs.declared.value_format.ValueFormat.TheVariants.{Raw, SignedData}
use Rattle.ocpp_types.specs.declared.sampled_value.SampledValue.{SampledValue}
use Rattle.ocpp_types.specs.declared.unit_of_measure.UnitOfMeasure.{UnitOfMeasure}
use Rattle.ocpp_payload.specs.Boot.{boot_data}
use Rattle.ocpp_payload.specs.Table.{written}
use Rattle.ocpp_payload.specs.TagInfo.{id_tag_info}
use Rattle.hub_rows.specs.declared.station_row.Boot.{Boot}
use Rattle.hub_rows.specs.declared.station_row.StationRow.{StationRow}
use Rattle.hub_rows.specs.declared.connector_row.ConnectorReport.{ConnectorReport}
use Rattle.hub_rows.specs.declared.connector_row.ConnectorRow.{ConnectorRow}
use Rattle.hub_rows.specs.declared.tag_row.TagRow.{TagRow}
use Rattle.hub_rows.specs.declared.grant_row.GrantRow.{GrantRow}
use Rattle.hub_rows.specs.declared.info.GrantedTag.{GrantedTag}
use Rattle.hub_rows.specs.declared.tx_row.Start.{Start}
use Rattle.hub_rows.specs.declared.tx_row.Stop.{Stop}
use Rattle.hub_rows.specs.declared.tx_row.TxRow.{TxRow}
use Rattle.hub_rows.specs.declared.use_row.UseRow.{UseRow}
use Rattle.hub_rows.specs.Reports.{kind_of, reported_name}
use Rattle.hub_rows.specs.Reservations.{unshifted}
use Rattle.hub_rows.specs.declared.reader_row.ReaderRow.{ReaderRow}
use Rattle.hub_rows.specs.declared.report_row.ReportRow.{ReportRow}
use Rattle.hub_rows.specs.Readers.{reader_name}
use Rattle.hub_rows.specs.declared.list_row.LocalTag.{LocalTag}
use Rattle.hub_rows.specs.declared.reservation_row.Reservation.{Reservation}
use Rattle.hub_rows.specs.declared.reservation_row.ReservationRow.{ReservationRow}
use Rattle.hub_events.specs.declared.listing.Row.{Row}
use Rattle.hub_events.specs.declared.listing.Row.TheVariants as row
use Rattle.hub_events.specs.declared.reading_row.ReadingRow.{ReadingRow}

-- ---- fields: `-` stands for none, and a text of a peer is a JSON string

abbrev pub quoted : List ℕ → List ℕ
quoted text = compact_text (string text)

abbrev pub text_field : Option (List ℕ) → List ℕ
text_field None = codes "-"
text_field (Some text) = quoted text

abbrev pub signed_field : Option ℤ → List ℕ
signed_field None = codes "-"
signed_field (Some n) = signed_decimal n

abbrev pub moment_field : Option ℕ → List ℕ
moment_field None = codes "-"
moment_field (Some m) = decimal m

-- a name that may be missing
abbrev pub name_field : Option (List ℕ) → List ℕ
name_field None = codes "-"
name_field (Some name) = name

abbrev pub mark : Bool → List ℕ
mark true = codes "1"
mark false = codes "0"

-- the texts of the last boot, as a JSON object
abbrev pub boot_field : Option Boot → List ℕ
boot_field None = codes "-"
boot_field (Some boot) = compact_text (boot_data boot.texts)

-- the number of a reading, which signed data has none of
abbrev pub micro_of : ValueFormat → List ℕ → Option UnitOfMeasure → Option ℤ
micro_of Raw text unit = micro text unit
micro_of SignedData text unit = None

-- the fields of a stop
abbrev pub stop_fields : Option Stop → List ℕ
stop_fields None = codes "- - - -"
stop_fields (Some s) = signed_decimal s.meter_stop ++ (codes " " ++ (signed_decimal s.at ++ (codes " " ++ (reason_name s.reason ++ (codes " " ++ text_field s.tag)))))

-- ---- lines, without a line feed

-- `OP row station ST STATE POLICY INTERVAL BOOT`
abbrev pub station_line : List ℕ → StationRow → List ℕ
station_line op r = op ++ (codes " row station " ++ (r.station ++ (codes " " ++ (state_name r.state ++ (codes " " ++ (policy_name r.policy ++ (codes " " ++ (decimal r.interval ++ (codes " " ++ boot_field r.boot)))))))))

-- `OP row tag TAG PARENT 0|1 EXPIRY`
abbrev pub tag_line : List ℕ → TagRow → List ℕ
tag_line op r = op ++ (codes " row tag " ++ (quoted r.tag.text ++ (codes " " ++ (text_field r.tag.parent ++ (codes " " ++ (mark r.tag.blocked ++ (codes " " ++ moment_field r.tag.expiry)))))))

-- `OP row grant TAG OP2 UNTIL`
abbrev pub grant_line : List ℕ → GrantRow → List ℕ
grant_line op r = op ++ (codes " row grant " ++ (quoted r.key ++ (codes " " ++ (r.to ++ (codes " " ++ moment_field r.until)))))

-- `OP row granted OWNER TAG PARENT 0|1 EXPIRY`
abbrev pub granted_line : List ℕ → GrantedTag → List ℕ
granted_line op r = op ++ (codes " row granted " ++ (r.owner ++ (codes " " ++ (quoted r.info.text ++ (codes " " ++ (text_field r.info.parent ++ (codes " " ++ (mark r.info.blocked ++ (codes " " ++ moment_field r.info.expiry)))))))))

-- `OP row use NUMBER HOST TAG MOMENT WH`
abbrev pub use_line : List ℕ → UseRow → List ℕ
use_line op r = op ++ (codes " row use " ++ (decimal r.number ++ (codes " " ++ (r.host ++ (codes " " ++ (quoted r.key ++ (codes " " ++ (decimal r.moment ++ (codes " " ++ signed_decimal r.wh)))))))))

-- what was reported of a connector
abbrev pub report_fields : ConnectorReport → List ℕ
report_fields r = charge_point_status_name r.status ++ (codes " " ++ (charge_point_error_code_name r.error_code ++ (codes " " ++ (signed_decimal r.at ++ (codes " " ++ (text_field r.info ++ (codes " " ++ (text_field r.vendor_id ++ (codes " " ++ text_field r.vendor_error_code)))))))))

-- `OP row connector ST C STATUS ERROR AT INFO VENDORID VENDORERROR`
abbrev pub connector_line : List ℕ → ConnectorRow → List ℕ
connector_line op r = op ++ (codes " row connector " ++ (r.station ++ (codes " " ++ (decimal r.connector ++ (codes " " ++ report_fields r.report)))))

-- the fields of a start
abbrev pub start_fields : Start → List ℕ
start_fields s = decimal s.id.connector ++ (codes " " ++ (quoted s.tag ++ (codes " " ++ (authorization_status_name s.status ++ (codes " " ++ (signed_decimal s.id.meter_start ++ (codes " " ++ (signed_decimal s.id.at ++ (codes " " ++ signed_field s.reservation)))))))))

-- `OP row transaction ST N C TAG STATUS METERSTART AT RESERVATION METERSTOP STOPAT REASON STOPTAG`
abbrev pub tx_line : List ℕ → TxRow → List ℕ
tx_line op r = op ++ (codes " row transaction " ++ (r.station ++ (codes " " ++ (decimal r.number ++ (codes " " ++ (start_fields r.start ++ (codes " " ++ stop_fields r.stop)))))))

-- whose reading it is, and when
abbrev pub taken_fields : ReadingRow → List ℕ
taken_fields r = decimal r.connector ++ (codes " " ++ (signed_field r.transaction ++ (codes " " ++ signed_decimal r.at)))

-- what was sampled, and how
abbrev pub meaning_fields : SampledValue → List ℕ
meaning_fields s = reading_context_name s.context ++ (codes " " ++ (value_format_name s.format ++ (codes " " ++ (measurand_name s.measurand ++ (codes " " ++ (name_field (option_map phase_name s.phase) ++ (codes " " ++ (location_name s.location ++ (codes " " ++ name_field (option_map unit_of_measure_name s.unit))))))))))

-- what it shows
abbrev pub value_fields : SampledValue → List ℕ
value_fields s = signed_field (micro_of s.format s.value s.unit) ++ (codes " " ++ quoted s.value)

unfoldable pub sampled_fields : SampledValue → List ℕ
sampled_fields s = meaning_fields s ++ (codes " " ++ value_fields s)

-- `OP row reading ST NUMBER C TX AT CONTEXT FORMAT MEASURAND PHASE LOCATION UNIT MICRO TEXT`
abbrev pub reading_line : List ℕ → ReadingRow → List ℕ
reading_line op r = op ++ (codes " row reading " ++ (r.station ++ (codes " " ++ (decimal r.number ++ (codes " " ++ (taken_fields r ++ (codes " " ++ sampled_fields r.sampled)))))))

-- what is reserved, for whom and until when
abbrev pub reservation_fields : Reservation → List ℕ
reservation_fields r = decimal r.connector ++ (codes " " ++ (quoted r.tag ++ (codes " " ++ (text_field r.parent ++ (codes " " ++ decimal r.expiry)))))

-- `OP row reservation ST ID C TAG PARENT EXPIRY`
abbrev pub reservation_line : List ℕ → ReservationRow → List ℕ
reservation_line op r = op ++ (codes " row reservation " ++ (r.station ++ (codes " " ++ (signed_decimal (unshifted r.id) ++ (codes " " ++ reservation_fields r.reservation)))))

-- `OP row locallist ST VERSION`
abbrev pub local_list_line : List ℕ → List ℕ → ℕ → List ℕ
local_list_line op station version = op ++ (codes " row locallist " ++ (station ++ (codes " " ++ decimal version)))

-- an entry of a local list, as the object that it is sent as
abbrev pub entry_data : LocalTag → Data
entry_data e = object (put (codes "idTagInfo") (written id_tag_info e.info) (put (codes "idTag") (string e.tag) no_members))

-- `OP row localtag ST JSON`
abbrev pub local_tag_line : List ℕ → List ℕ → LocalTag → List ℕ
local_tag_line op station e = op ++ (codes " row localtag " ++ (station ++ (codes " " ++ compact_text (entry_data e))))

-- `OP row report ST KIND STATUS MOMENT`
abbrev pub report_line : List ℕ → ReportRow → List ℕ
report_line op r = op ++ (codes " row report " ++ (r.station ++ (codes " " ++ (kind_of r.status ++ (codes " " ++ (reported_name r.status ++ (codes " " ++ decimal r.moment)))))))

-- `OP row reader ST strict|tolerant`
abbrev pub reader_line : List ℕ → ReaderRow → List ℕ
reader_line op r = op ++ (codes " row reader " ++ (r.station ++ (codes " " ++ reader_name r.reader)))

-- `OP row connection ST CALLS`
abbrev pub connection_line : List ℕ → List ℕ → ℕ → List ℕ
connection_line op station calls = op ++ (codes " row connection " ++ (station ++ (codes " " ++ decimal calls)))

-- `OP row forgotten ST TRANSACTIONS READINGS`
abbrev pub forgotten_line : List ℕ → List ℕ → ℕ → ℕ → List ℕ
forgotten_line op station transactions readings = op ++ (codes " row forgotten " ++ (station ++ (codes " " ++ (decimal transactions ++ (codes " " ++ decimal readings)))))

abbrev pub row_line : List ℕ → Row → List ℕ
row_line op (row.Station r) = station_line op r
row_line op (row.Tag r) = tag_line op r
row_line op (row.Grant r) = grant_line op r
row_line op (row.Granted r) = granted_line op r
row_line op (row.Use r) = use_line op r
row_line op (row.Connector r) = connector_line op r
row_line op (row.Transaction r) = tx_line op r
row_line op (row.Reading r) = reading_line op r
row_line op (row.Reservation r) = reservation_line op r
row_line op (row.LocalList station version) = local_list_line op station version
row_line op (row.LocalTag station entry) = local_tag_line op station entry
row_line op (row.Report r) = report_line op r
row_line op (row.Reader r) = reader_line op r
row_line op (row.Connection station calls) = connection_line op station calls
row_line op (row.Forgotten station transactions readings) = forgotten_line op station transactions readings
