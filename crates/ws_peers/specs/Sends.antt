-- One send to a peer, and one close.
use Rattle.std.specs.Prelude.{ℕ, List, [], Option, Some, codes, ◌≡◌, Result, OnOk, IfErr, true, false}
use Rattle.websocket.specs.Connection.{Effect}
use Rattle.websocket.specs.declared.error.Error.{Error as FrameError}
use Rattle.tungstenite.specs.Socket.{Socket, Writes}
use Rattle.tungstenite.specs.Connection.{write_step, close_step}
use Rattle.tungstenite.specs.Content.{Content, ping, text as text_content}
use Rattle.tungstenite.specs.Failure.{WriteFails, IsIo}
use Rattle.websocket.specs.declared.protocol.frame.coding.CloseCode.{CloseCode}
use Rattle.websocket.specs.declared.protocol.frame.coding.CloseCode.TheVariants.{Policy, Away, Error as Broken}
use Rattle.tungstenite.specs.declared.error.Error.{Error}
use Rattle.tungstenite.specs.declared.error.Error.TheVariants.{OutOfMemory, WriteBufferFull}
use Rattle.ws_peers.specs.declared.cause.Cause.{Cause}
use Rattle.ws_peers.specs.declared.cause.Cause.TheVariants.{Fault, Stopped as HasStopped}
use Rattle.ws_peers.specs.declared.peer.Peer.{Peer}
use Rattle.ws_peers.specs.declared.stage.Stage.{Stage}
use Rattle.ws_peers.specs.declared.stage.Stage.TheVariants.{Ended, Gone}
use Rattle.ws_peers.specs.Stages.{is_open, stage_after}

module _ {T : Type 0} where
  -- one call of a socket that sends, by the step of RFC 6455 that it takes: what it gave, and what it did
  pub record SendGives (contents : T → Option (List ℕ)) (step : Result Effect FrameError) (old new : Socket T) (r : Result (Unit {0}) Error) : Type 0 where
    pub wrote : OnOk r (Writes contents old new step)
    pub empty : OnOk r (new.output ≡ [])
    pub failed : IfErr r (WriteFails step)
    pub stream_failed : IfErr r (λ e. IsIo e → Writes contents old new step)
    pub memory : IfErr r (λ e. e ≡ OutOfMemory → new ≡ old)

  -- one `send` of a message to a peer, whose connection ends where that isn't Ok; a message that finds no memory
  -- is a send that gave that
  pub record SentMessage (contents : T → Option (List ℕ)) (content : Content) (old new : Peer T) : Type 0 where
    pub gave : Result (Unit {0}) Error
    pub sends : SendGives contents (write_step old.socket.conn content) old.socket new.socket gave
    pub full : IfErr gave (λ e. e ≡ WriteBufferFull → new.socket ≡ old.socket)
    pub rest : new ≡ record old { socket = new.socket; stage = stage_after gave old.stage }

  -- one send of a text
  abbrev pub Sent : (T → Option (List ℕ)) → List ℕ → Peer T → Peer T → Type 0
  Sent contents t = SentMessage contents (text_content t)

  -- one send of a Ping without a payload, and none to a connection that has ended
  pub record Pinged (contents : T → Option (List ℕ)) (old new : Peer T) : Type 0 where
    pub while_open : is_open old.stage ≡ true → SentMessage contents (ping []) old new
    pub once_ended : is_open old.stage ≡ false → new ≡ old

  -- one `close` of a peer's socket with that code, whatever it gave; the connection comes to that stage.
  -- Of the socket after a close whose output was full `tungstenite` says nothing.
  pub record Closed (contents : T → Option (List ℕ)) (code : Option (CloseCode × List ℕ)) (stage : Stage) (old new : Peer T) : Type 0 where
    pub gave : Result (Unit {0}) Error
    pub sends : SendGives contents (close_step old.socket.conn code) old.socket new.socket gave
    pub rest : new ≡ record old { socket = new.socket; stage = stage }

  -- the connection of a peer ends for that cause: an open one is closed with that code
  pub record EndsWith (contents : T → Option (List ℕ)) (code : CloseCode) (cause : Cause) (old new : Peer T) : Type 0 where
    pub while_open : is_open old.stage ≡ true → Closed contents (Some (code, [])) (Ended cause) old new
    pub once_ended : is_open old.stage ≡ false → new ≡ old

  -- it ends for a fault: the code is 1011
  abbrev pub Failed : (T → Option (List ℕ)) → Peer T → Peer T → Type 0
  Failed contents = EndsWith contents Broken Fault

  -- it ends as the server stops: the code is 1001
  abbrev pub Stopped : (T → Option (List ℕ)) → Peer T → Peer T → Type 0
  Stopped contents = EndsWith contents Away HasStopped

  -- another connection takes the place of a peer: it is gone, and an open one is closed with the code 1008 and a reason
  pub record Replaced (contents : T → Option (List ℕ)) (old new : Peer T) : Type 0 where
    pub while_open : is_open old.stage ≡ true → Closed contents (Some (Policy, codes "another connection of this station")) Gone old new
    pub once_ended : is_open old.stage ≡ false → new ≡ record old { stage = Gone }
