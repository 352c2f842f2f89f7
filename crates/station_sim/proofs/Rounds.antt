-- A send that finds no memory.
use Rattle.std.proofs.Common.{ℕ, List, Option, Err, refl, inl, inr}
use Rattle.tungstenite.specs.Socket.{Socket}
use Rattle.tungstenite.specs.declared.error.Error.TheVariants.{OutOfMemory}
use Rattle.station_sim.specs.Drives.{SendsOne}
use Rattle.station_sim.specs.declared.socket.SimFault.TheVariants.{NoMemory}

pub unsent : {T : Type 0} (contents : T → Option (List ℕ)) (t : List ℕ) (old : Socket T) → SendsOne contents t old old (Err NoMemory)
unsent contents t old = record {
  gave = Err OutOfMemory;
  sends = record { wrote = tt; empty = tt; failed = inr (inl tt); stream_failed = λ io. absurd io; memory = λ _. refl };
  fault = refl;
}
