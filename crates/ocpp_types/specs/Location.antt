-- Where readings are taken, by name.
use Rattle.std.specs.Prelude.{ℕ, List, [], ◌∷◌, codes}
use Rattle.ocpp_types.specs.declared.location.Location.{Location}
use Rattle.ocpp_types.specs.declared.location.Location.TheVariants.{Body, Cable, EV, Inlet, Outlet}
use Rattle.ocpp_types.specs.Named.{names_of}

abbrev pub location_name : Location → List ℕ
location_name Body = codes "Body"
location_name Cable = codes "Cable"
location_name EV = codes "EV"
location_name Inlet = codes "Inlet"
location_name Outlet = codes "Outlet"

abbrev pub locations : List (List ℕ × Location)
locations = names_of location_name (Body ∷ Cable ∷ EV ∷ Inlet ∷ Outlet ∷ [])
