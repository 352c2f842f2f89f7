-- What a handshake leaves.
use Rattle.std.specs.Prelude.{◌≡◌, ℕ, false, List, [], ◌++◌, codes, Option, Some, None}
use Rattle.tungstenite.specs.Socket.{Socket, IsFresh}
use Rattle.websocket.specs.Headers.{crlf, field_line}
use Rattle.websocket.specs.declared.protocol.config.WebSocketConfig.{WebSocketConfig as Config}
use Rattle.websocket.specs.declared.protocol.Role.{Role}
use Rattle.ws_handshake.specs.declared.upgrade.TheConstants.{MAX_MESSAGE}
use Rattle.ws_handshake.specs.Answers.{Exchanged}
use Rattle.ws_handshake.specs.Subprotocols.{subprotocol_name}
use Rattle.ws_handshake.specs.declared.subprotocol.Subprotocol.{Subprotocol}
use Rattle.ws_handshake.specs.declared.head.Upgrade.{Upgrade}

-- the subprotocol, if one is answered
abbrev pub subprotocol_line : Option Subprotocol → List ℕ
subprotocol_line (Some subprotocol) = field_line (codes "sec-websocket-protocol") (subprotocol_name subprotocol)
subprotocol_line None = []

-- the answer to an upgrade (RFC 6455, section 4.2.2)
abbrev pub upgrade_text : List ℕ → Option Subprotocol → List ℕ
upgrade_text accept subprotocol =
    codes "HTTP/1.1 101 Switching Protocols" ++ crlf
    ++ field_line (codes "connection") (codes "Upgrade")
    ++ field_line (codes "upgrade") (codes "websocket")
    ++ field_line (codes "sec-websocket-accept") accept
    ++ subprotocol_line subprotocol ++ crlf

-- a message of any kind has so many bytes at most, and is masked (RFC 6455, section 5.1)
abbrev pub TakesAtMost : ℕ → Config → Type 0
TakesAtMost n c = (c.max_message_size ≡ Some n) × (c.max_frame_size ≡ Some n) × (c.accept_unmasked_frames ≡ false)

module _ {T : Type 0} where
  -- the socket of a handshake that is done: the head was read from the stream, and no byte more; it was answered with
  -- that subprotocol, if there is one; and messages have at most 4,194,304 bytes
  pub record Shaken (remaining contents : T → Option (List ℕ)) (upgrade : Upgrade) (subprotocol : Option Subprotocol) (old : T) (socket : Socket T) : Type 0 where
    pub stream : T
    pub exchanged : Exchanged remaining contents upgrade.len (upgrade_text upgrade.accept subprotocol) old stream
    pub fresh : IsFresh socket stream Role.Server
    pub limits : TakesAtMost MAX_MESSAGE socket.conn.config
