-- What becomes of what is written in a turn.
use Rattle.ws_server.specs.declared.reactor.Written.{Written}
use Rattle.ws_server.specs.declared.reactor.Written.TheVariants.{Held, Given, Dropped}

-- what is given to the system, of which nothing is that was dropped
abbrev pub given : Written → Written
given Held = Given
given Given = Given
given Dropped = Dropped
