use Rattle.sql_edits.proofs.stations.add_station.Goals as goal

pub returns : goal.returns
returns g c = record { edits = c.put_unbooted.ensures.edits }
