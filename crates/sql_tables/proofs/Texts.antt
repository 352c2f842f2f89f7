-- What each text means over the whole schema.
use Rattle.std.proofs.Common.{[], ◌∷◌, ◌++◌, codes, refl}
use Rattle.sqlite_tied.specs.Compute.{everything}
use Rattle.sqlite.specs.Listing.{understood}
use Rattle.sqlite_sql.specs.Query.{inner, end}
use Rattle.sql_tables.specs.Forms.{above_is, add_command, any_query, by_column, cols, drop_command, from_is, last_query, page_query, plain_query, put_command, range_is, update_command, where_is}
use Rattle.sql_tables.specs.Meanings.{IsRead, IsWrite}
use Rattle.sql_tables.specs.declared.connectors.TheConstants as connectors
use Rattle.sql_tables.specs.declared.grants.TheConstants as grants
use Rattle.sql_tables.specs.declared.list_entries.TheConstants as list_entries
use Rattle.sql_tables.specs.declared.lists.TheConstants as lists
use Rattle.sql_tables.specs.declared.meta.TheConstants as meta
use Rattle.sql_tables.specs.declared.meter_values.TheConstants as meter_values
use Rattle.sql_tables.specs.declared.pages.TheConstants.{PAGE_ROWS}
use Rattle.sql_tables.specs.declared.readers.TheConstants as readers
use Rattle.sql_tables.specs.declared.readings.TheConstants as readings
use Rattle.sql_tables.specs.declared.reports.TheConstants as reports
use Rattle.sql_tables.specs.declared.reservations.TheConstants as reservations
use Rattle.sql_tables.specs.declared.stations.TheConstants as stations
use Rattle.sql_tables.specs.declared.tags.TheConstants as tags
use Rattle.sql_tables.specs.declared.tx_owners.TheConstants as tx_owners
use Rattle.sql_tables.specs.declared.txs.TheConstants as txs
use Rattle.sql_tables.specs.declared.uses.TheConstants as uses
use Rattle.sql_tables.specs.Tables.{names_of, hub_meta, hub_station, hub_connector, hub_tag, hub_grant, hub_tx, hub_reading, hub_reservation, hub_list, hub_list_entry, hub_report, hub_tx_owner, hub_use, hub_meter_value, hub_reader}

pub put_meta_is : IsWrite meta.PUT.now (put_command 0 0 1 1)
unfolding understood everything
put_meta_is = (refl, (refl, refl))

pub update_meta_is : IsWrite meta.UPDATE.now (update_command 0 0 1 1)
unfolding understood everything
update_meta_is = (refl, (refl, refl))

pub find_meta_is : IsRead meta.FIND.now (plain_query (inner 0 end) (where_is 0 (1 ∷ [])) (cols 1 1 2) ([])) (names_of hub_meta)
unfolding understood everything
find_meta_is = (refl, (refl, refl), refl)

pub put_station_is : IsWrite stations.PUT.now (put_command 1 2 2 13)
unfolding understood everything
put_station_is = (refl, (refl, refl))

pub put_connector_is : IsWrite connectors.PUT.now (put_command 2 4 3 6)
unfolding understood everything
put_connector_is = (refl, (refl, refl))

pub put_tag_is : IsWrite tags.PUT.now (put_command 3 6 2 5)
unfolding understood everything
put_tag_is = (refl, (refl, refl))

pub add_tag_is : IsWrite tags.ADD.now (add_command 3 7)
unfolding understood everything
add_tag_is = (refl, (refl, refl))

pub put_grant_is : IsWrite grants.PUT.now (put_command 4 8 3 1)
unfolding understood everything
put_grant_is = (refl, (refl, refl))

pub put_tx_is : IsWrite txs.PUT.now (put_command 5 10 3 15)
unfolding understood everything
put_tx_is = (refl, (refl, refl))

pub update_tx_is : IsWrite txs.UPDATE.now (update_command 5 10 3 15)
unfolding understood everything
update_tx_is = (refl, (refl, refl))

pub add_tx_is : IsWrite txs.ADD.now (add_command 5 18)
unfolding understood everything
add_tx_is = (refl, (refl, refl))

pub add_meter_value_is : IsWrite meter_values.ADD.now (add_command 13 8)
unfolding understood everything
add_meter_value_is = (refl, (refl, refl))

pub put_reservation_is : IsWrite reservations.PUT.now (put_command 7 14 3 4)
unfolding understood everything
put_reservation_is = (refl, (refl, refl))

pub put_list_is : IsWrite lists.PUT.now (put_command 8 16 2 1)
unfolding understood everything
put_list_is = (refl, (refl, refl))

pub add_list_entry_is : IsWrite list_entries.ADD.now (add_command 9 7)
unfolding understood everything
add_list_entry_is = (refl, (refl, refl))

pub put_report_is : IsWrite reports.PUT.now (put_command 10 20 3 2)
unfolding understood everything
put_report_is = (refl, (refl, refl))

pub put_reader_is : IsWrite readers.PUT.now (put_command 14 28 2 1)
unfolding understood everything
put_reader_is = (refl, (refl, refl))

pub add_tx_owner_is : IsWrite tx_owners.ADD.now (add_command 11 4)
unfolding understood everything
add_tx_owner_is = (refl, (refl, refl))

pub add_use_is : IsWrite uses.ADD.now (add_command 12 6)
unfolding understood everything
add_use_is = (refl, (refl, refl))

pub drop_station_is : IsWrite stations.DROP.now (drop_command 1 2 (where_is 0 (1 ∷ 2 ∷ [])))
unfolding understood everything
drop_station_is = (refl, (refl, refl))

pub drop_connectors_is : IsWrite connectors.DROP.now (drop_command 2 4 (where_is 0 (1 ∷ 2 ∷ [])))
unfolding understood everything
drop_connectors_is = (refl, (refl, refl))

pub drop_tag_is : IsWrite tags.DROP.now (drop_command 3 6 (where_is 0 (1 ∷ 2 ∷ [])))
unfolding understood everything
drop_tag_is = (refl, (refl, refl))

pub drop_grant_is : IsWrite grants.DROP.now (drop_command 4 8 (where_is 0 (1 ∷ 2 ∷ 3 ∷ [])))
unfolding understood everything
drop_grant_is = (refl, (refl, refl))

pub drop_reservation_is : IsWrite reservations.DROP.now (drop_command 7 14 (where_is 0 (1 ∷ 2 ∷ 3 ∷ [])))
unfolding understood everything
drop_reservation_is = (refl, (refl, refl))

pub drop_reservations_is : IsWrite reservations.DROP_ALL.now (drop_command 7 14 (where_is 0 (1 ∷ 2 ∷ [])))
unfolding understood everything
drop_reservations_is = (refl, (refl, refl))

pub drop_list_is : IsWrite lists.DROP.now (drop_command 8 16 (where_is 0 (1 ∷ 2 ∷ [])))
unfolding understood everything
drop_list_is = (refl, (refl, refl))

pub drop_entries_is : IsWrite list_entries.DROP.now (drop_command 9 18 (where_is 0 (1 ∷ 2 ∷ [])))
unfolding understood everything
drop_entries_is = (refl, (refl, refl))

pub drop_reports_is : IsWrite reports.DROP.now (drop_command 10 20 (where_is 0 (1 ∷ 2 ∷ [])))
unfolding understood everything
drop_reports_is = (refl, (refl, refl))

pub drop_reader_is : IsWrite readers.DROP.now (drop_command 14 28 (where_is 0 (1 ∷ 2 ∷ [])))
unfolding understood everything
drop_reader_is = (refl, (refl, refl))

pub drop_meter_values_is : IsWrite meter_values.DROP.now (drop_command 13 26 (where_is 0 (1 ∷ 2 ∷ []) ++ range_is 2 3))
unfolding understood everything
drop_meter_values_is = (refl, (refl, refl))

pub drop_readings_is : IsWrite readings.DROP.now (drop_command 6 12 (where_is 0 (1 ∷ 2 ∷ []) ++ range_is 2 3))
unfolding understood everything
drop_readings_is = (refl, (refl, refl))

pub drop_txs_is : IsWrite txs.DROP.now (drop_command 5 10 (where_is 0 (1 ∷ 2 ∷ []) ++ range_is 2 3))
unfolding understood everything
drop_txs_is = (refl, (refl, refl))

pub drop_tx_owners_is : IsWrite tx_owners.DROP.now (drop_command 11 22 (where_is 0 (1 ∷ 2 ∷ []) ++ range_is 2 3))
unfolding understood everything
drop_tx_owners_is = (refl, (refl, refl))

pub find_stations_is : IsRead stations.FIND.now (plain_query (inner 2 end) (where_is 0 (1 ∷ []) ++ range_is 1 2) (cols 1 1 15) (by_column 2 ∷ [])) (names_of hub_station)
unfolding understood everything
find_stations_is = (refl, (refl, refl), refl)

pub next_operator_is : IsRead stations.NEXT_OPERATOR.now (page_query 2 (above_is 0 1) (cols 1 1 1) 1 1) (codes "op" ∷ [])
unfolding understood everything
next_operator_is = (refl, (refl, refl), refl)

pub list_connectors_is : IsRead connectors.LIST.now (plain_query (inner 4 end) (where_is 0 (1 ∷ 2 ∷ [])) (cols 1 1 9) (by_column 3 ∷ [])) (names_of hub_connector)
unfolding understood everything
list_connectors_is = (refl, (refl, refl), refl)

pub find_tags_is : IsRead tags.FIND.now (plain_query (inner 6 end) (where_is 0 (1 ∷ []) ++ range_is 1 2) (cols 1 1 7) (by_column 2 ∷ [])) (names_of hub_tag)
unfolding understood everything
find_tags_is = (refl, (refl, refl), refl)

pub find_grant_is : IsRead grants.FIND.now (plain_query (inner 8 end) (where_is 0 (1 ∷ 2 ∷ 3 ∷ [])) (cols 1 1 4) ([])) (names_of hub_grant)
unfolding understood everything
find_grant_is = (refl, (refl, refl), refl)

pub list_grants_is : IsRead grants.LIST.now (plain_query (inner 8 end) (where_is 0 (1 ∷ [])) (cols 1 1 4) (by_column 2 ∷ by_column 3 ∷ [])) (names_of hub_grant)
unfolding understood everything
list_grants_is = (refl, (refl, refl), refl)

pub find_received_is : IsRead grants.FIND_RECEIVED.now (plain_query (inner 8 end) (where_is 0 (3 ∷ []) ++ range_is 1 2) (cols 1 1 4) (by_column 2 ∷ by_column 1 ∷ [])) (names_of hub_grant)
unfolding understood everything
find_received_is = (refl, (refl, refl), refl)

pub find_txs_is : IsRead txs.FIND.now (plain_query (inner 10 end) (where_is 0 (1 ∷ 2 ∷ []) ++ range_is 2 3) (cols 1 1 18) (by_column 3 ∷ [])) (names_of hub_tx)
unfolding understood everything
find_txs_is = (refl, (refl, refl), refl)

pub last_tx_number_is : IsRead txs.LAST_NUMBER.now (last_query 10 (where_is 0 (1 ∷ 2 ∷ [])) (cols 1 3 1) 3) (codes "number" ∷ [])
unfolding understood everything
last_tx_number_is = (refl, (refl, refl), refl)

pub page_of_txs_is : IsRead txs.PAGE.now (page_query 10 (where_is 0 (1 ∷ 2 ∷ []) ++ from_is 2 3) (cols 1 1 18) 3 PAGE_ROWS) (names_of hub_tx)
unfolding understood everything
page_of_txs_is = (refl, (refl, refl), refl)

pub list_txs_in_use_is : IsRead txs.LIST_IN_USE.now (plain_query (inner 10 end) (where_is 0 (1 ∷ 5 ∷ 13 ∷ [])) (cols 1 1 18) ([])) (names_of hub_tx)
unfolding understood everything
list_txs_in_use_is = (refl, (refl, refl), refl)

pub list_open_txs_is : IsRead txs.LIST_OPEN.now (plain_query (inner 10 end) (where_is 0 (1 ∷ 2 ∷ 12 ∷ [])) (cols 1 1 18) ([])) (names_of hub_tx)
unfolding understood everything
list_open_txs_is = (refl, (refl, refl), refl)

pub list_all_open_txs_is : IsRead txs.LIST_ALL_OPEN.now (plain_query (inner 10 end) (where_is 0 (1 ∷ 12 ∷ [])) (cols 1 1 18) (by_column 2 ∷ by_column 3 ∷ [])) (names_of hub_tx)
unfolding understood everything
list_all_open_txs_is = (refl, (refl, refl), refl)

pub list_same_starts_is : IsRead txs.LIST_SAME_STARTS.now (plain_query (inner 10 end) (where_is 0 (1 ∷ 2 ∷ 4 ∷ 5 ∷ 6 ∷ 7 ∷ [])) (cols 1 1 18) (by_column 3 ∷ [])) (names_of hub_tx)
unfolding understood everything
list_same_starts_is = (refl, (refl, refl), refl)

pub any_reading_is : IsRead readings.ANY.now (any_query 12 (cols 1 1 13)) (names_of hub_reading)
unfolding understood everything
any_reading_is = (refl, (refl, refl), refl)

pub last_meter_value_numbers_is : IsRead meter_values.LAST_NUMBERS.now (last_query 26 (where_is 0 (1 ∷ 2 ∷ [])) (cols 1 3 1 ++ cols 1 7 1) 3) (codes "first" ∷ codes "count" ∷ [])
unfolding understood everything
last_meter_value_numbers_is = (refl, (refl, refl), refl)

pub last_tx_meter_value_numbers_is : IsRead meter_values.LAST_NUMBERS_OF_TX.now (last_query 26 (where_is 0 (1 ∷ 2 ∷ 5 ∷ [])) (cols 1 3 1 ++ cols 1 7 1) 3) (codes "first" ∷ codes "count" ∷ [])
unfolding understood everything
last_tx_meter_value_numbers_is = (refl, (refl, refl), refl)

pub page_of_meter_values_is : IsRead meter_values.PAGE.now (page_query 26 (where_is 0 (1 ∷ 2 ∷ []) ++ from_is 2 3) (cols 1 1 8) 3 PAGE_ROWS) (names_of hub_meter_value)
unfolding understood everything
page_of_meter_values_is = (refl, (refl, refl), refl)

pub next_meter_value_is : IsRead meter_values.NEXT.now (page_query 26 (where_is 0 (1 ∷ 2 ∷ []) ++ from_is 2 3) (cols 1 1 8) 3 1) (names_of hub_meter_value)
unfolding understood everything
next_meter_value_is = (refl, (refl, refl), refl)

pub page_of_tx_meter_values_is : IsRead meter_values.PAGE_OF_TX.now (page_query 26 (where_is 0 (1 ∷ 2 ∷ 5 ∷ []) ++ from_is 3 3) (cols 1 1 8) 3 PAGE_ROWS) (names_of hub_meter_value)
unfolding understood everything
page_of_tx_meter_values_is = (refl, (refl, refl), refl)

pub find_reservations_is : IsRead reservations.FIND.now (plain_query (inner 14 end) (where_is 0 (1 ∷ 2 ∷ []) ++ range_is 2 3) (cols 1 1 7) (by_column 3 ∷ [])) (names_of hub_reservation)
unfolding understood everything
find_reservations_is = (refl, (refl, refl), refl)

pub find_list_is : IsRead lists.FIND.now (plain_query (inner 16 end) (where_is 0 (1 ∷ 2 ∷ [])) (cols 1 1 3) ([])) (names_of hub_list)
unfolding understood everything
find_list_is = (refl, (refl, refl), refl)

pub list_entries_is : IsRead list_entries.LIST.now (plain_query (inner 18 end) (where_is 0 (1 ∷ 2 ∷ [])) (cols 1 1 7) (by_column 3 ∷ [])) (names_of hub_list_entry)
unfolding understood everything
list_entries_is = (refl, (refl, refl), refl)

pub list_reports_is : IsRead reports.LIST.now (plain_query (inner 20 end) (where_is 0 (1 ∷ 2 ∷ [])) (cols 1 1 5) (by_column 3 ∷ [])) (names_of hub_report)
unfolding understood everything
list_reports_is = (refl, (refl, refl), refl)

pub find_readers_is : IsRead readers.FIND.now (plain_query (inner 28 end) (where_is 0 (1 ∷ []) ++ range_is 1 2) (cols 1 1 3) (by_column 2 ∷ [])) (names_of hub_reader)
unfolding understood everything
find_readers_is = (refl, (refl, refl), refl)

pub find_tx_owner_is : IsRead tx_owners.FIND.now (plain_query (inner 22 end) (where_is 0 (1 ∷ 2 ∷ 3 ∷ [])) (cols 1 1 4) ([])) (names_of hub_tx_owner)
unfolding understood everything
find_tx_owner_is = (refl, (refl, refl), refl)

pub list_uses_is : IsRead uses.LIST.now (plain_query (inner 24 end) (where_is 0 (1 ∷ [])) (cols 1 1 6) (by_column 2 ∷ [])) (names_of hub_use)
unfolding understood everything
list_uses_is = (refl, (refl, refl), refl)

pub find_last_use_is : IsRead uses.FIND_LAST.now (last_query 24 (where_is 0 (1 ∷ [])) (cols 1 1 6) 2) (names_of hub_use)
unfolding understood everything
find_last_use_is = (refl, (refl, refl), refl)
