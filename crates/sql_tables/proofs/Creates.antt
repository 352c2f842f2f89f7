-- What the texts that make tables and indexes, and drop indexes, do one after the other.
use Rattle.std.proofs.Common.{◌≡◌, ◌<◌, ◌+◌, ℕ, zero, suc, arith, refl}
use Rattle.std.specs.Fmt.{digits}
use Rattle.sqlite_schema.specs.declared.schema.Schema.{Schema}
use Rattle.sqlite_catalog.specs.Change.{created, indexed, next_tree, without_index}
use Rattle.sqlite_tied.specs.Compute.{everything}
use Rattle.sqlite.specs.Listing.{understood}
use Rattle.sql_tables.specs.Tables.{first_tables, second_tables, third_tables, fourth_tables, fifth_tables, hub_meta, hub_station, hub_connector, hub_tag, hub_grant, hub_tx, hub_reading, hub_reservation, hub_list, hub_list_entry, hub_report, hub_tx_owner, hub_use, hub_meter_value, hub_reader, hub_grant_to, hub_tx_in_use, hub_tx_is_open, hub_tx_start_at}
use Rattle.sql_tables.specs.declared.connectors.TheConstants as connectors
use Rattle.sql_tables.specs.declared.grants.TheConstants as grants
use Rattle.sql_tables.specs.declared.list_entries.TheConstants as list_entries
use Rattle.sql_tables.specs.declared.lists.TheConstants as lists
use Rattle.sql_tables.specs.declared.meta.TheConstants as meta
use Rattle.sql_tables.specs.declared.meter_values.TheConstants as meter_values
use Rattle.sql_tables.specs.declared.readers.TheConstants as readers
use Rattle.sql_tables.specs.declared.readings.TheConstants as readings
use Rattle.sql_tables.specs.declared.reports.TheConstants as reports
use Rattle.sql_tables.specs.declared.reservations.TheConstants as reservations
use Rattle.sql_tables.specs.declared.stations.TheConstants as stations
use Rattle.sql_tables.specs.declared.tags.TheConstants as tags
use Rattle.sql_tables.specs.declared.tx_owners.TheConstants as tx_owners
use Rattle.sql_tables.specs.declared.txs.TheConstants as txs
use Rattle.sql_tables.specs.declared.uses.TheConstants as uses
use Rattle.sql_tables.specs.Opening.{no_schema, tables_at, open_columns_at, create_tx_is_open_at, start_columns_at, create_tx_start_at, by_transaction_at, readings_at, place_of_readings_at, create_by_transaction_at, drop_by_transaction_at, schema_at, IsCreate, IsIndexCreate, IsIndexDrop}

-- ---- the tables of schema 1

abbrev pub with_meta : Schema
with_meta = created no_schema (record hub_meta { tree = 0 })

pub meta_made : IsCreate meta.CREATE.now no_schema (record hub_meta { tree = 0 })
unfolding understood everything
meta_made = record { command = refl; plain = (refl, refl); text = refl; defined = refl; uncounted = refl }

abbrev pub with_station : Schema
with_station = created with_meta (record hub_station { tree = 0 })

pub station_made : IsCreate stations.CREATE.now with_meta (record hub_station { tree = 0 })
unfolding understood everything
station_made = record { command = refl; plain = (refl, refl); text = refl; defined = refl; uncounted = refl }

abbrev pub with_connector : Schema
with_connector = created with_station (record hub_connector { tree = 0 })

pub connector_made : IsCreate connectors.CREATE.now with_station (record hub_connector { tree = 0 })
unfolding understood everything
connector_made = record { command = refl; plain = (refl, refl); text = refl; defined = refl; uncounted = refl }

abbrev pub with_tag : Schema
with_tag = created with_connector (record hub_tag { tree = 0 })

pub tag_made : IsCreate tags.CREATE.now with_connector (record hub_tag { tree = 0 })
unfolding understood everything
tag_made = record { command = refl; plain = (refl, refl); text = refl; defined = refl; uncounted = refl }

abbrev pub with_grant : Schema
with_grant = created with_tag (record hub_grant { tree = 0 })

pub grant_made : IsCreate grants.CREATE.now with_tag (record hub_grant { tree = 0 })
unfolding understood everything
grant_made = record { command = refl; plain = (refl, refl); text = refl; defined = refl; uncounted = refl }

abbrev pub with_tx : Schema
with_tx = created with_grant (record hub_tx { tree = 0 })

pub tx_made : IsCreate txs.CREATE.now with_grant (record hub_tx { tree = 0 })
unfolding understood everything
tx_made = record { command = refl; plain = (refl, refl); text = refl; defined = refl; uncounted = refl }

abbrev pub with_reading : Schema
with_reading = created with_tx (record hub_reading { tree = 0 })

pub reading_made : IsCreate readings.CREATE.now with_tx (record hub_reading { tree = 0 })
unfolding understood everything
reading_made = record { command = refl; plain = (refl, refl); text = refl; defined = refl; uncounted = refl }

abbrev pub with_reservation : Schema
with_reservation = created with_reading (record hub_reservation { tree = 0 })

pub reservation_made : IsCreate reservations.CREATE.now with_reading (record hub_reservation { tree = 0 })
unfolding understood everything
reservation_made = record { command = refl; plain = (refl, refl); text = refl; defined = refl; uncounted = refl }

abbrev pub with_list : Schema
with_list = created with_reservation (record hub_list { tree = 0 })

pub list_made : IsCreate lists.CREATE.now with_reservation (record hub_list { tree = 0 })
unfolding understood everything
list_made = record { command = refl; plain = (refl, refl); text = refl; defined = refl; uncounted = refl }

abbrev pub with_list_entry : Schema
with_list_entry = created with_list (record hub_list_entry { tree = 0 })

pub list_entry_made : IsCreate list_entries.CREATE.now with_list (record hub_list_entry { tree = 0 })
unfolding understood everything
list_entry_made = record { command = refl; plain = (refl, refl); text = refl; defined = refl; uncounted = refl }

-- with all of them
pub first_made : with_list_entry ≡ first_tables
unfolding digits
first_made = refl

-- ---- the table that schema 2 has beside them

pub report_made : IsCreate reports.CREATE.now first_tables (record hub_report { tree = 0 })
unfolding understood everything
report_made = record { command = refl; plain = (refl, refl); text = refl; defined = refl; uncounted = refl }

pub second_made : created first_tables (record hub_report { tree = 0 }) ≡ second_tables
unfolding digits
second_made = refl

-- ---- the tables that schema 3 has beside them

abbrev pub with_tx_owner : Schema
with_tx_owner = created second_tables (record hub_tx_owner { tree = 0 })

pub tx_owner_made : IsCreate tx_owners.CREATE.now second_tables (record hub_tx_owner { tree = 0 })
unfolding understood everything
tx_owner_made = record { command = refl; plain = (refl, refl); text = refl; defined = refl; uncounted = refl }

pub use_made : IsCreate uses.CREATE.now with_tx_owner (record hub_use { tree = 0 })
unfolding understood everything
use_made = record { command = refl; plain = (refl, refl); text = refl; defined = refl; uncounted = refl }

pub third_made : created with_tx_owner (record hub_use { tree = 0 }) ≡ third_tables
unfolding digits
third_made = refl

-- ---- the table that schema 4 has beside them

pub meter_value_made : IsCreate meter_values.CREATE.now third_tables (record hub_meter_value { tree = 0 })
unfolding understood everything
meter_value_made = record { command = refl; plain = (refl, refl); text = refl; defined = refl; uncounted = refl }

pub fourth_made : created third_tables (record hub_meter_value { tree = 0 }) ≡ fourth_tables
unfolding digits
fourth_made = refl

-- ---- the table that schema 5 has beside them

pub reader_made : IsCreate readers.CREATE.now fourth_tables (record hub_reader { tree = 0 })
unfolding understood everything
reader_made = record { command = refl; plain = (refl, refl); text = refl; defined = refl; uncounted = refl }

pub fifth_made : created fourth_tables (record hub_reader { tree = 0 }) ≡ fifth_tables
unfolding digits
fifth_made = refl

-- ---- the further indexes, after the tables of each form

abbrev pub with_grant_to : ℕ → Schema
with_grant_to n = indexed (tables_at n) hub_grant (hub_grant_to 0)

pub grant_to_made : (n : ℕ) → 0 < n → IsIndexCreate grants.CREATE_TO.now (tables_at n) 4 hub_grant (hub_grant_to 0)
unfolding understood everything digits
grant_to_made zero made = absurd (omega (arith, made))
grant_to_made (suc zero) made = record { command = refl; plain = (refl, refl); text = refl; here = refl; defined = refl }
grant_to_made (suc (suc zero)) made = record { command = refl; plain = (refl, refl); text = refl; here = refl; defined = refl }
grant_to_made (suc (suc (suc zero))) made = record { command = refl; plain = (refl, refl); text = refl; here = refl; defined = refl }
grant_to_made (suc (suc (suc (suc zero)))) made = record { command = refl; plain = (refl, refl); text = refl; here = refl; defined = refl }
grant_to_made (suc (suc (suc (suc (suc zero))))) made = record { command = refl; plain = (refl, refl); text = refl; here = refl; defined = refl }
grant_to_made (suc (suc (suc (suc (suc (suc n)))))) made = record { command = refl; plain = (refl, refl); text = refl; here = refl; defined = refl }

abbrev pub with_tx_in_use : ℕ → Schema
with_tx_in_use n = indexed (with_grant_to n) hub_tx (hub_tx_in_use 0)

pub tx_in_use_made : (n : ℕ) → 0 < n → IsIndexCreate txs.CREATE_IN_USE.now (with_grant_to n) 5 hub_tx (hub_tx_in_use 0)
unfolding understood everything digits
tx_in_use_made zero made = absurd (omega (arith, made))
tx_in_use_made (suc zero) made = record { command = refl; plain = (refl, refl); text = refl; here = refl; defined = refl }
tx_in_use_made (suc (suc zero)) made = record { command = refl; plain = (refl, refl); text = refl; here = refl; defined = refl }
tx_in_use_made (suc (suc (suc zero))) made = record { command = refl; plain = (refl, refl); text = refl; here = refl; defined = refl }
tx_in_use_made (suc (suc (suc (suc zero)))) made = record { command = refl; plain = (refl, refl); text = refl; here = refl; defined = refl }
tx_in_use_made (suc (suc (suc (suc (suc zero))))) made = record { command = refl; plain = (refl, refl); text = refl; here = refl; defined = refl }
tx_in_use_made (suc (suc (suc (suc (suc (suc n)))))) made = record { command = refl; plain = (refl, refl); text = refl; here = refl; defined = refl }

abbrev pub with_tx_is_open : ℕ → Schema
with_tx_is_open n = indexed (with_tx_in_use n) hub_tx (hub_tx_is_open (open_columns_at n) 0)

pub tx_is_open_made : (n : ℕ) → 0 < n → IsIndexCreate (create_tx_is_open_at n) (with_tx_in_use n) 5 hub_tx (hub_tx_is_open (open_columns_at n) 0)
unfolding understood everything digits
tx_is_open_made zero made = absurd (omega (arith, made))
tx_is_open_made (suc zero) made = record { command = refl; plain = (refl, refl); text = refl; here = refl; defined = refl }
tx_is_open_made (suc (suc zero)) made = record { command = refl; plain = (refl, refl); text = refl; here = refl; defined = refl }
tx_is_open_made (suc (suc (suc zero))) made = record { command = refl; plain = (refl, refl); text = refl; here = refl; defined = refl }
tx_is_open_made (suc (suc (suc (suc zero)))) made = record { command = refl; plain = (refl, refl); text = refl; here = refl; defined = refl }
tx_is_open_made (suc (suc (suc (suc (suc zero))))) made = record { command = refl; plain = (refl, refl); text = refl; here = refl; defined = refl }
tx_is_open_made (suc (suc (suc (suc (suc (suc n)))))) made = record { command = refl; plain = (refl, refl); text = refl; here = refl; defined = refl }

abbrev pub with_tx_start_at : ℕ → Schema
with_tx_start_at n = indexed (with_tx_is_open n) hub_tx (hub_tx_start_at (start_columns_at n) 0)

pub tx_start_at_made : (n : ℕ) → 0 < n → IsIndexCreate (create_tx_start_at n) (with_tx_is_open n) 5 hub_tx (hub_tx_start_at (start_columns_at n) 0)
unfolding understood everything digits
tx_start_at_made zero made = absurd (omega (arith, made))
tx_start_at_made (suc zero) made = record { command = refl; plain = (refl, refl); text = refl; here = refl; defined = refl }
tx_start_at_made (suc (suc zero)) made = record { command = refl; plain = (refl, refl); text = refl; here = refl; defined = refl }
tx_start_at_made (suc (suc (suc zero))) made = record { command = refl; plain = (refl, refl); text = refl; here = refl; defined = refl }
tx_start_at_made (suc (suc (suc (suc zero)))) made = record { command = refl; plain = (refl, refl); text = refl; here = refl; defined = refl }
tx_start_at_made (suc (suc (suc (suc (suc zero))))) made = record { command = refl; plain = (refl, refl); text = refl; here = refl; defined = refl }
tx_start_at_made (suc (suc (suc (suc (suc (suc n)))))) made = record { command = refl; plain = (refl, refl); text = refl; here = refl; defined = refl }

abbrev pub with_reading_transaction : ℕ → Schema
with_reading_transaction n = indexed (with_tx_start_at n) (readings_at n) (by_transaction_at n 0)

pub reading_transaction_made : (n : ℕ) → 0 < n → IsIndexCreate (create_by_transaction_at n) (with_tx_start_at n) (place_of_readings_at n) (readings_at n) (by_transaction_at n 0)
unfolding understood everything digits
reading_transaction_made zero made = absurd (omega (arith, made))
reading_transaction_made (suc zero) made = record { command = refl; plain = (refl, refl); text = refl; here = refl; defined = refl }
reading_transaction_made (suc (suc zero)) made = record { command = refl; plain = (refl, refl); text = refl; here = refl; defined = refl }
reading_transaction_made (suc (suc (suc zero))) made = record { command = refl; plain = (refl, refl); text = refl; here = refl; defined = refl }
reading_transaction_made (suc (suc (suc (suc zero)))) made = record { command = refl; plain = (refl, refl); text = refl; here = refl; defined = refl }
reading_transaction_made (suc (suc (suc (suc (suc zero))))) made = record { command = refl; plain = (refl, refl); text = refl; here = refl; defined = refl }
reading_transaction_made (suc (suc (suc (suc (suc (suc n)))))) made = record { command = refl; plain = (refl, refl); text = refl; here = refl; defined = refl }

-- with all of them
pub all_made : (n : ℕ) → 0 < n → with_reading_transaction n ≡ schema_at n
unfolding digits
all_made zero made = absurd (omega (arith, made))
all_made (suc zero) made = refl
all_made (suc (suc zero)) made = refl
all_made (suc (suc (suc zero))) made = refl
all_made (suc (suc (suc (suc zero)))) made = refl
all_made (suc (suc (suc (suc (suc zero))))) made = refl
all_made (suc (suc (suc (suc (suc (suc n)))))) made = refl

-- ---- they are dropped

abbrev pub without_grant_to : ℕ → Schema
without_grant_to n = without_index (schema_at n) (next_tree (tables_at n))

pub grant_to_dropped : (n : ℕ) → 0 < n → IsIndexDrop grants.DROP_TO.now (schema_at n) (hub_grant_to (next_tree (tables_at n)))
unfolding understood everything digits
grant_to_dropped zero made = absurd (omega (arith, made))
grant_to_dropped (suc zero) made = record { at = 10; command = refl; plain = (refl, refl); here = refl }
grant_to_dropped (suc (suc zero)) made = record { at = 11; command = refl; plain = (refl, refl); here = refl }
grant_to_dropped (suc (suc (suc zero))) made = record { at = 13; command = refl; plain = (refl, refl); here = refl }
grant_to_dropped (suc (suc (suc (suc zero)))) made = record { at = 13; command = refl; plain = (refl, refl); here = refl }
grant_to_dropped (suc (suc (suc (suc (suc zero))))) made = record { at = 14; command = refl; plain = (refl, refl); here = refl }
grant_to_dropped (suc (suc (suc (suc (suc (suc n)))))) made = record { at = 15; command = refl; plain = (refl, refl); here = refl }

abbrev pub without_tx_in_use : ℕ → Schema
without_tx_in_use n = without_index (without_grant_to n) (next_tree (tables_at n) + 1)

pub tx_in_use_dropped : (n : ℕ) → 0 < n → IsIndexDrop txs.DROP_IN_USE.now (without_grant_to n) (hub_tx_in_use (next_tree (tables_at n) + 1))
unfolding understood everything digits
tx_in_use_dropped zero made = absurd (omega (arith, made))
tx_in_use_dropped (suc zero) made = record { at = 10; command = refl; plain = (refl, refl); here = refl }
tx_in_use_dropped (suc (suc zero)) made = record { at = 11; command = refl; plain = (refl, refl); here = refl }
tx_in_use_dropped (suc (suc (suc zero))) made = record { at = 13; command = refl; plain = (refl, refl); here = refl }
tx_in_use_dropped (suc (suc (suc (suc zero)))) made = record { at = 13; command = refl; plain = (refl, refl); here = refl }
tx_in_use_dropped (suc (suc (suc (suc (suc zero))))) made = record { at = 14; command = refl; plain = (refl, refl); here = refl }
tx_in_use_dropped (suc (suc (suc (suc (suc (suc n)))))) made = record { at = 15; command = refl; plain = (refl, refl); here = refl }

abbrev pub without_tx_is_open : ℕ → Schema
without_tx_is_open n = without_index (without_tx_in_use n) (next_tree (tables_at n) + 2)

pub tx_is_open_dropped : (n : ℕ) → 0 < n → IsIndexDrop txs.DROP_IS_OPEN.now (without_tx_in_use n) (hub_tx_is_open (open_columns_at n) (next_tree (tables_at n) + 2))
unfolding understood everything digits
tx_is_open_dropped zero made = absurd (omega (arith, made))
tx_is_open_dropped (suc zero) made = record { at = 10; command = refl; plain = (refl, refl); here = refl }
tx_is_open_dropped (suc (suc zero)) made = record { at = 11; command = refl; plain = (refl, refl); here = refl }
tx_is_open_dropped (suc (suc (suc zero))) made = record { at = 13; command = refl; plain = (refl, refl); here = refl }
tx_is_open_dropped (suc (suc (suc (suc zero)))) made = record { at = 13; command = refl; plain = (refl, refl); here = refl }
tx_is_open_dropped (suc (suc (suc (suc (suc zero))))) made = record { at = 14; command = refl; plain = (refl, refl); here = refl }
tx_is_open_dropped (suc (suc (suc (suc (suc (suc n)))))) made = record { at = 15; command = refl; plain = (refl, refl); here = refl }

abbrev pub without_tx_start_at : ℕ → Schema
without_tx_start_at n = without_index (without_tx_is_open n) (next_tree (tables_at n) + 3)

pub tx_start_at_dropped : (n : ℕ) → 0 < n → IsIndexDrop txs.DROP_START_AT.now (without_tx_is_open n) (hub_tx_start_at (start_columns_at n) (next_tree (tables_at n) + 3))
unfolding understood everything digits
tx_start_at_dropped zero made = absurd (omega (arith, made))
tx_start_at_dropped (suc zero) made = record { at = 10; command = refl; plain = (refl, refl); here = refl }
tx_start_at_dropped (suc (suc zero)) made = record { at = 11; command = refl; plain = (refl, refl); here = refl }
tx_start_at_dropped (suc (suc (suc zero))) made = record { at = 13; command = refl; plain = (refl, refl); here = refl }
tx_start_at_dropped (suc (suc (suc (suc zero)))) made = record { at = 13; command = refl; plain = (refl, refl); here = refl }
tx_start_at_dropped (suc (suc (suc (suc (suc zero))))) made = record { at = 14; command = refl; plain = (refl, refl); here = refl }
tx_start_at_dropped (suc (suc (suc (suc (suc (suc n)))))) made = record { at = 15; command = refl; plain = (refl, refl); here = refl }

pub by_transaction_tree : (n tree : ℕ) → (by_transaction_at n tree).tree ≡ tree
by_transaction_tree zero tree = refl
by_transaction_tree (suc zero) tree = refl
by_transaction_tree (suc (suc zero)) tree = refl
by_transaction_tree (suc (suc (suc zero))) tree = refl
by_transaction_tree (suc (suc (suc (suc zero)))) tree = refl
by_transaction_tree (suc (suc (suc (suc (suc zero))))) tree = refl
by_transaction_tree (suc (suc (suc (suc (suc (suc n)))))) tree = refl

abbrev pub without_reading_transaction : ℕ → Schema
without_reading_transaction n = without_index (without_tx_start_at n) (next_tree (tables_at n) + 4)

pub reading_transaction_dropped : (n : ℕ) → 0 < n → IsIndexDrop (drop_by_transaction_at n) (without_tx_start_at n) (by_transaction_at n (next_tree (tables_at n) + 4))
unfolding understood everything digits
reading_transaction_dropped zero made = absurd (omega (arith, made))
reading_transaction_dropped (suc zero) made = record { at = 10; command = refl; plain = (refl, refl); here = refl }
reading_transaction_dropped (suc (suc zero)) made = record { at = 11; command = refl; plain = (refl, refl); here = refl }
reading_transaction_dropped (suc (suc (suc zero))) made = record { at = 13; command = refl; plain = (refl, refl); here = refl }
reading_transaction_dropped (suc (suc (suc (suc zero)))) made = record { at = 13; command = refl; plain = (refl, refl); here = refl }
reading_transaction_dropped (suc (suc (suc (suc (suc zero))))) made = record { at = 14; command = refl; plain = (refl, refl); here = refl }
reading_transaction_dropped (suc (suc (suc (suc (suc (suc n)))))) made = record { at = 15; command = refl; plain = (refl, refl); here = refl }

-- without them
pub all_dropped : (n : ℕ) → 0 < n → without_reading_transaction n ≡ tables_at n
all_dropped zero made = absurd (omega (arith, made))
all_dropped (suc zero) made = refl
all_dropped (suc (suc zero)) made = refl
all_dropped (suc (suc (suc zero))) made = refl
all_dropped (suc (suc (suc (suc zero)))) made = refl
all_dropped (suc (suc (suc (suc (suc zero))))) made = refl
all_dropped (suc (suc (suc (suc (suc (suc n)))))) made = refl
