-- One round of a station over its socket.
use Rattle.std.specs.Prelude.{◌≡◌, ◌⊎◌, ℕ, List, Option, Some, None, Result, Ok, Err, option_map, String, string_bytes}
use Rattle.std.specs.IoError.{error_kind}
use Rattle.std.specs.declared.io.ErrorKind.{ErrorKind}
use Rattle.std.specs.Result.{result_map_both}
use Rattle.std.specs.declared.alloc.Global.{Global}
use Rattle.tungstenite.specs.Connection.{write_step}
use Rattle.tungstenite.specs.Content.{text as text_content}
use Rattle.tungstenite.specs.Socket.{Socket, Reads}
use Rattle.tungstenite.specs.declared.error.Error.{Error}
use Rattle.tungstenite.specs.declared.message.Message.{Message}
use Rattle.ws_peers.specs.Sends.{SendGives}
use Rattle.ocpp_frame.specs.Frame.{frame}
use Rattle.station_sim.specs.Replies.{reply_to}
use Rattle.station_sim.specs.Session.{next_call, due_call, after_call, after_message}
use Rattle.station_sim.specs.Written.{IsWritten}
use Rattle.station_sim.specs.declared.session.Session.{Session}
use Rattle.station_sim.specs.declared.socket.Drove.{Drove}
use Rattle.station_sim.specs.declared.socket.SimFault.{SimFault}
use Rattle.station_sim.specs.declared.socket.SimFault.TheVariants.{NoMemory, Stream}

-- the texts of a round, as their bytes
abbrev pub text_of : Result (Option (String Global)) SimFault → Result (Option (List ℕ)) SimFault
text_of = result_map_both (option_map string_bytes) (λ fault. fault)

abbrev pub pair_of : Result (Option (List ℕ) × Option (String Global)) SimFault → Result (Option (List ℕ) × Option (List ℕ)) SimFault
pair_of = result_map_both (λ d. (d.0, option_map string_bytes d.1)) (λ fault. fault)

abbrev pub texts_of : Result Drove SimFault → Result (Option (List ℕ) × (Option (List ℕ) × Option (List ℕ))) SimFault
texts_of = result_map_both (λ d. (option_map string_bytes d.call, (d.read, option_map string_bytes d.reply))) (λ fault. fault)

-- what an error of the socket is
abbrev pub fault_of : Error → SimFault
fault_of Error.OutOfMemory = NoMemory
fault_of e = Stream

-- a read that would block gave no text yet, and another failed
abbrev pub failed_read : ErrorKind → Result (Option (List ℕ)) SimFault
failed_read ErrorKind.WouldBlock = Ok None
failed_read kind = Err Stream

-- what a read gave: a text, or none
abbrev pub read_outcome : Result Message Error → Result (Option (List ℕ)) SimFault
read_outcome (Ok (Message.Text t)) = Ok (Some t)
read_outcome (Ok (Message.Binary b)) = Ok None
read_outcome (Ok (Message.Ping b)) = Ok None
read_outcome (Ok (Message.Pong b)) = Ok None
read_outcome (Ok (Message.Close frame)) = Ok None
read_outcome (Err (Error.Io e)) = failed_read (error_kind e)
read_outcome (Err e) = Err (fault_of e)

-- what a send gave
abbrev pub send_outcome : Result (Unit {0}) Error → Result (Unit {0}) SimFault
send_outcome (Ok u) = Ok u
send_outcome (Err e) = Err (fault_of e)

-- what the text that was read, if any, does to the session
abbrev pub after_text : Option (List ℕ) → Session → Session
after_text None s = s
after_text (Some t) s = after_message (frame t) s

-- the reply to the text that was read, if any
abbrev pub IsReplyTo : Option (List ℕ) → Session → Option (List ℕ) → Type 0
IsReplyTo None s reply = reply ≡ None
IsReplyTo (Some t) s reply = IsWritten (reply_to s (frame t)) reply

module _ {T : Type 0} where
  -- one send of a text
  pub record SendsOne (contents : T → Option (List ℕ)) (t : List ℕ) (old new : Socket T) (r : Result (Unit {0}) SimFault) : Type 0 where
    pub gave : Result (Unit {0}) Error
    pub sends : SendGives contents (write_step old.conn (text_content t)) old new gave
    pub fault : r ≡ send_outcome gave

  -- the send of a text, if there is one
  abbrev pub Sends : (T → Option (List ℕ)) → Option (List ℕ) → Socket T → Socket T → Result (Unit {0}) SimFault → Type 0
  Sends contents None old new r = (new ≡ old) × (r ≡ Ok tt)
  Sends contents (Some t) old new r = SendsOne contents t old new r

  -- one read
  pub record Hears (remaining : T → Option (List ℕ)) (old new : Socket T) (r : Result (Option (List ℕ)) SimFault) : Type 0 where
    pub gave : Result Message Error
    pub reads : Reads remaining old new gave
    pub text : r ≡ read_outcome gave

  -- the next call is written and sent; where it finds no memory nothing has changed
  abbrev pub Calls : (T → Option (List ℕ)) → ℕ → Session → Session → Socket T → Socket T → Result (Option (List ℕ)) SimFault → Type 0
  Calls contents at s s2 old new (Ok call) =
      IsWritten (next_call s at) call × (s2 ≡ after_call s at (due_call s at)) × Sends contents call old new (Ok tt)
  Calls contents at s s2 old new (Err fault) =
      ((fault ≡ NoMemory) × (s2 ≡ s) × (new ≡ old))
      ⊎ ((call : Option (List ℕ)) × IsWritten (next_call s at) call × (s2 ≡ after_call s at (due_call s at)) × Sends contents call old new (Err fault))

  -- a text is taken and its reply sent; where the reply finds no memory nothing has changed
  abbrev pub Replies : (T → Option (List ℕ)) → Option (List ℕ) → Session → Session → Socket T → Socket T → Result (Option (List ℕ)) SimFault → Type 0
  Replies contents text s s2 old new (Ok reply) =
      IsReplyTo text s reply × (s2 ≡ after_text text s) × Sends contents reply old new (Ok tt)
  Replies contents text s s2 old new (Err fault) =
      ((fault ≡ NoMemory) × (s2 ≡ s) × (new ≡ old))
      ⊎ ((reply : Option (List ℕ)) × IsReplyTo text s reply × (s2 ≡ after_text text s) × Sends contents reply old new (Err fault))

  -- what follows a call: one read, and the reply to the text that it gave
  abbrev pub Answers : (T → Option (List ℕ)) → (T → Option (List ℕ)) → Session → Session → Socket T → Socket T → Result (Option (List ℕ) × Option (List ℕ)) SimFault → Type 0
  Answers remaining contents s s2 old new (Ok d) =
      (mid : Socket T) × Hears remaining old mid (Ok d.0) × Replies contents d.0 s s2 mid new (Ok d.1)
  Answers remaining contents s s2 old new (Err fault) =
      (Hears remaining old new (Err fault) × (s2 ≡ s))
      ⊎ ((mid : Socket T) × (text : Option (List ℕ)) × Hears remaining old mid (Ok text) × Replies contents text s s2 mid new (Err fault))

  -- one round: the call, the read and the reply, or what failed of them
  abbrev pub Drives : (T → Option (List ℕ)) → (T → Option (List ℕ)) → ℕ → Session → Session → Socket T → Socket T → Result (Option (List ℕ) × (Option (List ℕ) × Option (List ℕ))) SimFault → Type 0
  Drives remaining contents at s s2 old new (Ok d) =
      (called : Session) × (mid : Socket T) × Calls contents at s called old mid (Ok d.0) × Answers remaining contents called s2 mid new (Ok d.1)
  Drives remaining contents at s s2 old new (Err fault) =
      Calls contents at s s2 old new (Err fault)
      ⊎ ((call : Option (List ℕ)) × (called : Session) × (mid : Socket T)
      × Calls contents at s called old mid (Ok call) × Answers remaining contents called s2 mid new (Err fault))
