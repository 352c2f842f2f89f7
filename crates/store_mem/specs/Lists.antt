-- The rows that a store's lists hold.
use Rattle.hub_rows.specs.Rows.{Rows}
use Rattle.store_mem.specs.declared.lists.Lists.{Lists}
use Rattle.store_mem.specs.NamedGroups.{all_rows}
use Rattle.store_mem.specs.Groups.{all_of}

abbrev pub rows_in : Lists → Rows
rows_in l = record { stations = l.stations.items; connectors = l.connectors.items; tags = all_of l.tags.groups.items; grants = all_of l.grants.given.items; transactions = all_rows l.transactions.rows.items; meter_values = all_rows l.meter_values.rows.items; reservations = l.reservations.items; local_lists = l.local_lists.items; reports = l.reports.items; tx_owners = all_rows l.tx_owners.rows.items; uses = all_of l.uses.groups.items; readers = l.readers.items }
