-- What a station shows.
use Rattle.station_sim.specs.declared.session.Session.{Session}
use Rattle.station_sim.specs.declared.sim.Sim.{Sim}

-- how far its script has come
abbrev pub session_of : Sim → Session
session_of sim = sim.session
