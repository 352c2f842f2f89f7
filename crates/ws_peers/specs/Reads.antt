-- One read of a peer.
use Rattle.std.specs.Prelude.{ℕ, List, [], Option, Some, None, true, false, ◌≡◌, Result, Ok, Err, nat_le, length, if◌then◌else◌}
use Rattle.std.specs.IoError.{error_kind}
use Rattle.std.specs.declared.io.ErrorKind.{ErrorKind}
use Rattle.tungstenite.specs.Socket.{Socket, Reads, Flushed}
use Rattle.tungstenite.specs.declared.CloseCode.TheVariants.{Size, Invalid, Protocol}
use Rattle.websocket.specs.declared.error.ProtocolError.{ProtocolError}
use Rattle.tungstenite.specs.declared.error.Error.{Error}
use Rattle.tungstenite.specs.declared.message.Message.{Message}
use Rattle.ws_peers.specs.declared.cause.Cause.TheVariants.{Closed as HasClosed, Lost, Breach}
use Rattle.ws_peers.specs.declared.heard.Heard.{Heard}
use Rattle.ws_peers.specs.declared.heard.TheConstants.{MAX_TEXT}
use Rattle.ws_peers.specs.declared.peer.Peer.{Peer}
use Rattle.ws_peers.specs.declared.stage.Stage.TheVariants.{Ended}
use Rattle.ws_peers.specs.Sends.{Closed}
use Rattle.ws_peers.specs.Stages.{is_open}

-- a text may have 1,048,576 bytes
abbrev pub within_limit : List ℕ → Heard
within_limit t = if nat_le (length t) MAX_TEXT then Heard.Text t else Heard.Breach Size

-- a read that would block gave nothing, and every other fault of the stream ends the connection
abbrev pub of_kind : ErrorKind → Heard
of_kind ErrorKind.WouldBlock = Heard.Nothing
of_kind _ = Heard.Ends Lost

-- a stream that ends is no breach that gets a code
abbrev pub of_breach : ProtocolError → Heard
of_breach ProtocolError.ResetWithoutClosingHandshake = Heard.Ends Lost
of_breach _ = Heard.Breach Protocol

-- what a failed read means: the close codes are 1009, 1007 and 1002
abbrev pub of_error : Error → Heard
of_error (Error.Io e) = of_kind (error_kind e)
of_error (Error.Capacity e) = Heard.Breach Size
of_error Error.Utf8 = Heard.Breach Invalid
of_error (Error.Protocol e) = of_breach e
of_error _ = Heard.Ends Lost

-- what a read gave
abbrev pub heard_of : Result Message Error → Heard
heard_of (Ok (Message.Text t)) = within_limit t
heard_of (Ok (Message.Binary b)) = Heard.Nothing
heard_of (Ok (Message.Ping b)) = Heard.Nothing
heard_of (Ok (Message.Pong b)) = Heard.Nothing
heard_of (Ok (Message.Close frame)) = Heard.Ends HasClosed
heard_of (Err e) = of_error e

module _ {T : Type 0} where
  -- what is left of a peer after a read that left its socket as `mid`, and the text handed on: a breach ends the
  -- connection with its code
  abbrev pub After : (T → Option (List ℕ)) → Heard → Socket T → Peer T → Peer T → Option (List ℕ) → Type 0
  After contents (Heard.Text t) mid old new text = (new ≡ record old { socket = mid }) × (text ≡ Some t)
  After contents Heard.Nothing mid old new text = (new ≡ record old { socket = mid }) × (text ≡ None)
  After contents (Heard.Breach code) mid old new text = Closed contents (Some (code, [])) (Ended (Breach code)) (record old { socket = mid }) new × (text ≡ None)
  After contents (Heard.Ends cause) mid old new text = (new ≡ record old { socket = new.socket; stage = Ended cause }) × Flushed contents mid new.socket × (text ≡ None)

  -- one read of an open connection
  pub record TookOpen (remaining contents : T → Option (List ℕ)) (old new : Peer T) (text : Option (List ℕ)) : Type 0 where
    pub gave : Result Message Error
    pub mid : Socket T
    pub reads : Reads remaining old.socket mid gave
    pub after : After contents (heard_of gave) mid old new text

  -- one read, and none of a connection that has ended
  pub record Took (remaining contents : T → Option (List ℕ)) (old new : Peer T) (text : Option (List ℕ)) : Type 0 where
    pub while_open : is_open old.stage ≡ true → TookOpen remaining contents old new text
    pub once_ended : is_open old.stage ≡ false → (new ≡ old) × (text ≡ None)
