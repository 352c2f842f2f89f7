use Rattle.std.proofs.Common.{ℕ, List, [], IfSome, Option, Some, None, refl}
use Rattle.std.proofs.KnownBytes.{Appends-nil}
use Rattle.replay.specs.Run.{AppendsFront}
use Rattle.replay.proofs.in_memory.replay_in_memory.Goals as goal

of_each : {X : Type 0} (o : Option X) (P : X → Type 0) → ((x : X) → P x) → IfSome o P
of_each None P all = tt
of_each (Some x) P all = all x

-- nothing was written
none_written : (now : Option (List ℕ)) (text : List ℕ) → AppendsFront now now text
none_written now text = record { front = []; begins = record { more = text; is = refl }; appends = Appends-nil now }

-- src/in_memory.rt:44:19
pub returns-in-Err-clause-fault : goal.returns-in-Err-clause-fault
returns-in-Err-clause-fault g c = of_each (g.R.Read.remaining c.args.reader.now) _ (λ input. none_written (g.W.Write.contents c.args.writer.now) _)
