-- The tables. The columns of a key come first, in its order. A column is a whole number or a text.
use Rattle.std.specs.Prelude.{Bool, true, false, [], ◌∷◌, ◌++◌, None, codes, List, map, ℕ, zero, suc, ◌+◌}
use Rattle.sqlite_value.specs.declared.value.Value.TheVariants.{Null}
use Rattle.sqlite_value.specs.declared.keys.Collation.TheVariants.{Binary}
use Rattle.sqlite_value.specs.Keys.{plain}
use Rattle.sqlite_catalog.specs.Change.{next_tree}
use Rattle.sqlite_schema.specs.declared.schema.Table.{Table}
use Rattle.sqlite_schema.specs.declared.schema.Column.{Column}
use Rattle.sqlite_schema.specs.declared.schema.Index.{Index}
use Rattle.sqlite_schema.specs.declared.schema.Schema.{Schema}
use Rattle.sqlite_schema.specs.declared.schema.Reference.{Reference}
use Rattle.sqlite_schema.specs.declared.schema.Kind.{Kind}
use Rattle.sqlite_schema.specs.declared.schema.Kind.TheVariants.{Integer, Text}
use Rattle.sqlite_schema.specs.declared.schema.Action.TheVariants.{NoAction, Cascade}

abbrev pub column_of : Kind → Bool → List ℕ → Column
column_of kind not_null name = record { name = name; kind = kind; is_strict = true; not_null = not_null; default = Null; collation = Binary }

abbrev pub text : List ℕ → Column
text = column_of Text true

abbrev pub text_or_null : List ℕ → Column
text_or_null = column_of Text false

abbrev pub whole : List ℕ → Column
whole = column_of Integer true

abbrev pub whole_or_null : List ℕ → Column
whole_or_null = column_of Integer false

-- so many columns from that one on
abbrev pub places : ℕ → ℕ → List ℕ
places at zero = []
places at (suc n) = at ∷ places (suc at) n

-- a table whose first n columns are its PRIMARY KEY
abbrev pub keyed_table : List ℕ → ℕ → List Column → ℕ → List Reference → Table
keyed_table name tree columns n references = record {
  name = name;
  tree = tree;
  columns = columns;
  key = None;
  primary = places 1 n;
  uniques = places 1 n ∷ [];
  orders = plain ∷ [];
  checks = [];
  references = references;
  computed = [];
  stamps = record { places = []; terms = []; formats = [] };
  is_counted = false;
}

-- the names of its columns, in their order
abbrev pub names_of : Table → List (List ℕ)
names_of t = map (λ c. c.name) t.columns

-- the index of a table's key, which comes with the table
abbrev pub key_index : List ℕ → ℕ → ℕ → Index
key_index name tree n = record { name = name; tree = suc tree; table = tree; columns = places 1 n; order = plain; is_unique = true }

abbrev pub more_index : List ℕ → ℕ → ℕ → List ℕ → Index
more_index name tree table columns = record { name = name; tree = tree; table = table; columns = columns; order = plain; is_unique = false }

-- a FOREIGN KEY whose row goes with the row that it refers to
abbrev pub of_parent : List ℕ → List ℕ → List (List ℕ) → Reference
of_parent columns parent names = record { columns = columns; parent = parent; parent_columns = names; on_delete = Cascade; on_update = NoAction; is_deferred = false }

-- ---- the tables of the hub

-- what the program notes of the database itself
abbrev pub hub_meta : Table
hub_meta = keyed_table (codes "hub_meta") 0 (text (codes "name") ∷ whole (codes "number") ∷ []) 1 []

-- stations; `booted` is in seconds since 1970, and what follows it is of that boot
abbrev pub hub_station : Table
hub_station = keyed_table (codes "hub_station") 2 (text (codes "op") ∷ text (codes "station") ∷ text (codes "policy") ∷ whole (codes "interval") ∷ text (codes "state") ∷ whole_or_null (codes "booted") ∷ text_or_null (codes "charge_point_model") ∷ text_or_null (codes "charge_point_vendor") ∷ text_or_null (codes "charge_box_serial_number") ∷ text_or_null (codes "charge_point_serial_number") ∷ text_or_null (codes "firmware_version") ∷ text_or_null (codes "iccid") ∷ text_or_null (codes "imsi") ∷ text_or_null (codes "meter_serial_number") ∷ text_or_null (codes "meter_type") ∷ []) 2 []

-- connectors as they were reported last; `at` is in milliseconds since 1970
abbrev pub hub_connector : Table
hub_connector = keyed_table (codes "hub_connector") 4 (text (codes "op") ∷ text (codes "station") ∷ whole (codes "connector") ∷ text (codes "status") ∷ text (codes "error_code") ∷ whole (codes "at") ∷ text_or_null (codes "info") ∷ text_or_null (codes "vendor_id") ∷ text_or_null (codes "vendor_error_code") ∷ []) 3 []

-- id tags; `expiry_date` is in seconds since 1970, and `parent_key` is the key of `parent_id_tag`
abbrev pub hub_tag : Table
hub_tag = keyed_table (codes "hub_tag") 6 (text (codes "op") ∷ text (codes "tag_key") ∷ text (codes "id_tag") ∷ text_or_null (codes "parent_id_tag") ∷ text_or_null (codes "parent_key") ∷ whole (codes "blocked") ∷ whole_or_null (codes "expiry_date") ∷ []) 2 []

-- id tags that `op` granted to `to_op`; `until` is in seconds since 1970
abbrev pub hub_grant : Table
hub_grant = keyed_table (codes "hub_grant") 8 (text (codes "op") ∷ text (codes "tag_key") ∷ text (codes "to_op") ∷ whole_or_null (codes "until") ∷ []) 3 (of_parent (1 ∷ 2 ∷ []) (codes "hub_tag") (codes "op" ∷ codes "tag_key" ∷ []) ∷ [])

-- transactions; `start_at` and `stop_at` are the station's, in milliseconds since 1970, `begun` and `ended` the hub's, in seconds;
-- `is_open` is 1 without a stop, and `in_use` is 1 if it is open and its status is Accepted
abbrev pub hub_tx : Table
hub_tx = keyed_table (codes "hub_tx") 10 (text (codes "op") ∷ text (codes "station") ∷ whole (codes "number") ∷ whole (codes "connector") ∷ text (codes "tag_key") ∷ whole (codes "meter_start") ∷ whole (codes "start_at") ∷ text (codes "id_tag") ∷ whole_or_null (codes "reservation_id") ∷ text (codes "status") ∷ whole (codes "begun") ∷ whole (codes "is_open") ∷ whole (codes "in_use") ∷ whole_or_null (codes "meter_stop") ∷ whole_or_null (codes "stop_at") ∷ text_or_null (codes "stop_reason") ∷ text_or_null (codes "stop_id_tag") ∷ whole_or_null (codes "ended") ∷ []) 3 []

-- meter readings; `at` is in milliseconds since 1970, and `value` is as it was sent
abbrev pub hub_reading : Table
hub_reading = keyed_table (codes "hub_reading") 12 (text (codes "op") ∷ text (codes "station") ∷ whole (codes "number") ∷ whole (codes "connector") ∷ whole_or_null (codes "transaction_id") ∷ whole (codes "at") ∷ text (codes "context") ∷ text (codes "format") ∷ text (codes "measurand") ∷ text_or_null (codes "phase") ∷ text (codes "location") ∷ text_or_null (codes "unit") ∷ text (codes "value") ∷ []) 3 []

-- reservations; `expiry_date` is in seconds since 1970
abbrev pub hub_reservation : Table
hub_reservation = keyed_table (codes "hub_reservation") 14 (text (codes "op") ∷ text (codes "station") ∷ whole (codes "reservation_id") ∷ whole (codes "connector") ∷ text (codes "id_tag") ∷ text_or_null (codes "parent_id_tag") ∷ whole (codes "expiry_date") ∷ []) 3 []

-- the versions of local lists
abbrev pub hub_list : Table
hub_list = keyed_table (codes "hub_list") 16 (text (codes "op") ∷ text (codes "station") ∷ whole (codes "version") ∷ []) 2 []

-- the entries of local lists; `expiry_date` is in seconds since 1970
abbrev pub hub_list_entry : Table
hub_list_entry = keyed_table (codes "hub_list_entry") 18 (text (codes "op") ∷ text (codes "station") ∷ text (codes "tag_key") ∷ text (codes "id_tag") ∷ whole_or_null (codes "expiry_date") ∷ text_or_null (codes "parent_id_tag") ∷ text (codes "status") ∷ []) 3 (of_parent (1 ∷ 2 ∷ []) (codes "hub_list") (codes "op" ∷ codes "station" ∷ []) ∷ [])

-- the last report of each kind of each station: of an upload of diagnostics, or of a firmware update; `moment` is in
-- seconds since 1970
abbrev pub hub_report : Table
hub_report = keyed_table (codes "hub_report") 20 (text (codes "op") ∷ text (codes "station") ∷ text (codes "kind") ∷ text (codes "status") ∷ whole (codes "moment") ∷ []) 3 []

-- the owners of the id tags with which transactions began, where another operator granted the tag and the start was
-- Accepted
abbrev pub hub_tx_owner : Table
hub_tx_owner = keyed_table (codes "hub_tx_owner") 22 (text (codes "op") ∷ text (codes "station") ∷ whole (codes "number") ∷ text (codes "owner") ∷ []) 3 []

-- what drivers used by the id tags of `op` at the stations of `host`; `moment` is in seconds since 1970
abbrev pub hub_use : Table
hub_use = keyed_table (codes "hub_use") 24 (text (codes "op") ∷ whole (codes "number") ∷ text (codes "host") ∷ text (codes "tag_key") ∷ whole (codes "moment") ∷ whole (codes "wh") ∷ []) 2 []

-- meter values, each of `count` readings of a station, numbered from `first` on; `at` is in milliseconds since 1970, and
-- `sampled` is the JSON text of their sampled values
abbrev pub hub_meter_value : Table
hub_meter_value = keyed_table (codes "hub_meter_value") 26 (text (codes "op") ∷ text (codes "station") ∷ whole (codes "first") ∷ whole (codes "connector") ∷ whole_or_null (codes "transaction_id") ∷ whole (codes "at") ∷ whole (codes "count") ∷ text (codes "sampled") ∷ []) 3 []

-- how the requests of stations are read, where their operators chose
abbrev pub hub_reader : Table
hub_reader = keyed_table (codes "hub_reader") 28 (text (codes "op") ∷ text (codes "station") ∷ text (codes "reader") ∷ []) 2 []

-- ---- the further indexes, each by its tree

abbrev pub hub_grant_to : ℕ → Index
hub_grant_to tree = more_index (codes "hub_grant_to") tree 8 (3 ∷ 2 ∷ 1 ∷ [])

abbrev pub hub_tx_in_use : ℕ → Index
hub_tx_in_use tree = more_index (codes "hub_tx_in_use") tree 10 (1 ∷ 5 ∷ 13 ∷ [])

-- of these columns: op, station, is_open up to the earlier form of schema 3, and op, is_open, station since then
abbrev pub hub_tx_is_open : List ℕ → ℕ → Index
hub_tx_is_open columns tree = more_index (codes "hub_tx_is_open") tree 10 columns

abbrev pub hub_tx_start_at : List ℕ → ℕ → Index
hub_tx_start_at columns tree = more_index (codes "hub_tx_start_at") tree 10 columns

abbrev pub hub_reading_transaction : ℕ → Index
hub_reading_transaction tree = more_index (codes "hub_reading_transaction") tree 12 (1 ∷ 2 ∷ 5 ∷ 3 ∷ [])

abbrev pub hub_meter_value_transaction : ℕ → Index
hub_meter_value_transaction tree = more_index (codes "hub_meter_value_transaction") tree 26 (1 ∷ 2 ∷ 5 ∷ 3 ∷ [])

-- the five further indexes, from that tree on, where hub_tx_is_open and hub_tx_start_at are of these columns, and the
-- last is that of readings by their transaction
abbrev pub further_indexes : List ℕ → List ℕ → (ℕ → Index) → ℕ → List Index
further_indexes open_columns start_columns by_transaction tree = hub_grant_to tree ∷ hub_tx_in_use (tree + 1) ∷ hub_tx_is_open open_columns (tree + 2) ∷ hub_tx_start_at start_columns (tree + 3) ∷ by_transaction (tree + 4) ∷ []

-- ---- the schemas, by their numbers

-- the tables of schema 1 with the indexes of their keys
abbrev pub first_tables : Schema
first_tables = record {
  tables = hub_meta ∷ hub_station ∷ hub_connector ∷ hub_tag ∷ hub_grant ∷ hub_tx ∷ hub_reading ∷ hub_reservation ∷ hub_list ∷ hub_list_entry ∷ [];
  indexes = key_index (codes "sqlite_autoindex_hub_meta_1") 0 1 ∷ key_index (codes "sqlite_autoindex_hub_station_1") 2 2 ∷ key_index (codes "sqlite_autoindex_hub_connector_1") 4 3 ∷ key_index (codes "sqlite_autoindex_hub_tag_1") 6 2 ∷ key_index (codes "sqlite_autoindex_hub_grant_1") 8 3 ∷ key_index (codes "sqlite_autoindex_hub_tx_1") 10 3 ∷ key_index (codes "sqlite_autoindex_hub_reading_1") 12 3 ∷ key_index (codes "sqlite_autoindex_hub_reservation_1") 14 3 ∷ key_index (codes "sqlite_autoindex_hub_list_1") 16 2 ∷ key_index (codes "sqlite_autoindex_hub_list_entry_1") 18 3 ∷ [];
  views = [];
}

-- schema 2 has the table of reports beside them
abbrev pub second_tables : Schema
second_tables = record {
  tables = first_tables.tables ++ hub_report ∷ [];
  indexes = first_tables.indexes ++ key_index (codes "sqlite_autoindex_hub_report_1") 20 3 ∷ [];
  views = [];
}

-- schema 3 has those of settled uses beside them
abbrev pub third_tables : Schema
third_tables = record {
  tables = second_tables.tables ++ hub_tx_owner ∷ hub_use ∷ [];
  indexes = second_tables.indexes ++ key_index (codes "sqlite_autoindex_hub_tx_owner_1") 22 3 ∷ key_index (codes "sqlite_autoindex_hub_use_1") 24 2 ∷ [];
  views = [];
}

-- schema 4 has that of meter values beside them
abbrev pub fourth_tables : Schema
fourth_tables = record {
  tables = third_tables.tables ++ hub_meter_value ∷ [];
  indexes = third_tables.indexes ++ key_index (codes "sqlite_autoindex_hub_meter_value_1") 26 3 ∷ [];
  views = [];
}

-- schema 5 has that of readers beside them
abbrev pub fifth_tables : Schema
fifth_tables = record {
  tables = fourth_tables.tables ++ hub_reader ∷ [];
  indexes = fourth_tables.indexes ++ key_index (codes "sqlite_autoindex_hub_reader_1") 28 2 ∷ [];
  views = [];
}

-- tables, and after them the further indexes
abbrev pub with_indexes : List ℕ → List ℕ → (ℕ → Index) → Schema → Schema
with_indexes open_columns start_columns by_transaction schema = record schema { indexes = schema.indexes ++ further_indexes open_columns start_columns by_transaction (next_tree schema) }

-- schema 5, which is that of this program
abbrev pub hub_schema : Schema
hub_schema = with_indexes (1 ∷ 12 ∷ 2 ∷ []) (1 ∷ 2 ∷ 7 ∷ 4 ∷ 6 ∷ 5 ∷ []) hub_meter_value_transaction fifth_tables
