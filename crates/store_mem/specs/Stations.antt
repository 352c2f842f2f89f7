-- A station after a change of it.
use Rattle.hub_rows.specs.declared.station_row.StationRow.{StationRow}
use Rattle.hub_rows.specs.Changes.{with_boot, with_policy}
use Rattle.store_mem.specs.declared.stations.StationChange.{StationChange}
use Rattle.store_mem.specs.declared.stations.StationChange.TheVariants.{Booted, PolicySet}

abbrev pub station_after : StationChange → StationRow → StationRow
station_after (Booted boot state) = with_boot boot state
station_after (PolicySet policy interval) = with_policy policy interval
