use Rattle.std.specs.Prelude.{string_bytes}
use Rattle.station_sim.proofs.Rounds.{unsent}
use Rattle.station_sim.proofs.socket.send.Goals as goal

pub returns-in-Err : goal.returns-in-Err
returns-in-Err g c = rw c.in-Some.is (unsent g.T.Write.contents (string_bytes c.in-Some.text) c.args.socket.now)
