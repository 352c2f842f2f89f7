-- Why a connection ends whose send or read failed.
use Rattle.std.specs.IoError.{error_kind}
use Rattle.std.specs.declared.io.ErrorKind.{ErrorKind}
use Rattle.tungstenite.specs.declared.error.Error.{Error}
use Rattle.ws_peers.specs.declared.cause.Cause.{Cause}
use Rattle.ws_peers.specs.declared.cause.Cause.TheVariants.{Lost, Full, NoMemory}

-- a stream that takes no byte is full, and every other fault of it loses the connection
abbrev pub of_kind : ErrorKind → Cause
of_kind ErrorKind.WriteZero = Full
of_kind _ = Lost

-- what an error of a send means
abbrev pub cause_of_send : Error → Cause
cause_of_send (Error.Io e) = of_kind (error_kind e)
cause_of_send Error.WriteBufferFull = Full
cause_of_send Error.OutOfMemory = NoMemory
cause_of_send _ = Lost
