use Rattle.std.proofs.Common.{inr}
use Rattle.std.proofs.lemmas.Result.{err_from_is_err_and}
use Rattle.std.specs.Prelude.{option_map, string_bytes}
use Rattle.station_sim.specs.Sim.{session_of}
use Rattle.station_sim.proofs.socket.drive.Goals as goal

pub returns-in_err-read : goal.returns-in_err-read
returns-in_err-read g c =
    let p = err_from_is_err_and c.from_residual-in_err-read.result c.from_residual-in_err-read.ensures.1 in
    rw (p.1, p.2) (inr (option_map string_bytes c.in_ok-call.call, session_of c.make_call.new.sim, c.make_call.new.socket, c.in_ok-call.ensures, c.in_err-read.ensures))
