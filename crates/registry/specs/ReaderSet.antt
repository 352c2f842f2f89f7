-- Which readers are set.
use Rattle.std.specs.Prelude.{ℕ, List, Option, Some, None, Result, Ok, Err}
use Rattle.ocpp_types.specs.declared.refusal.Refusal.{Refusal}
use Rattle.ocpp_types.specs.declared.refusal.Refusal.TheVariants.{NoSuchStation}
use Rattle.hub_rows.specs.declared.change.Edit.{Edit}
use Rattle.hub_rows.specs.declared.change.Edit.TheVariants.{Stations}
use Rattle.hub_rows.specs.declared.change.StationEdit.TheVariants as edit
use Rattle.hub_rows.specs.declared.reader_row.Reader.{Reader}
use Rattle.hub_rows.specs.declared.station_row.Registration.{Registration}
use Rattle.hub_rows.specs.Lookups.{Lookups}

-- by how the station is registered
abbrev pub reader_edit : List ℕ → Reader → Option Registration → Result Edit Refusal
reader_edit station reader None = Err NoSuchStation
reader_edit station reader (Some r) = Ok (Stations (edit.ReaderSet station reader))

abbrev pub reader_rule : List ℕ → Reader → Lookups → Result Edit Refusal
reader_rule station reader l = reader_edit station reader (l.registration station)
