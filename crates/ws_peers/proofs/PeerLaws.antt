-- One send, and one read.
use Rattle.std.proofs.Common.{◌≡◌, ◌∙◌, ℕ, List, Option, None, true, false, sym, refl, subst, true≢false, inl, inr, Result, Err}
use Rattle.tungstenite.specs.Socket.{Socket, Reads}
use Rattle.tungstenite.specs.declared.error.Error.{Error}
use Rattle.tungstenite.specs.declared.error.Error.TheVariants.{OutOfMemory}
use Rattle.tungstenite.specs.declared.message.Message.{Message}
use Rattle.ws_peers.specs.declared.cause.Cause.TheVariants.{NoMemory}
use Rattle.ws_peers.specs.declared.heard.Heard.{Heard}
use Rattle.ws_peers.specs.declared.peer.Peer.{Peer}
use Rattle.ws_peers.specs.Sends.{Sent}
use Rattle.ws_peers.specs.Stages.{is_open, ended}
use Rattle.ws_peers.specs.Reads.{Took, After, heard_of}

module _ {T : Type 0} where
  -- a text that finds no memory
  pub unsent : (contents : T → Option (List ℕ)) (t : List ℕ) (old : Peer T) → Sent contents t old (record old { stage = ended NoMemory old.stage })
  unsent contents t old = record {
    gave = Err OutOfMemory;
    sends = record { wrote = tt; empty = tt; failed = inr (inl tt); stream_failed = λ io. absurd io; memory = λ _. refl };
    full = λ _. refl;
    rest = refl;
  }

  -- a read of an open connection
  pub took : (remaining contents : T → Option (List ℕ)) (old new : Peer T) (text : Option (List ℕ)) (gave : Result Message Error) (mid : Socket T) (h : Heard)
      → is_open old.stage ≡ true → Reads remaining old.socket mid gave → h ≡ heard_of gave → After contents h mid old new text → Took remaining contents old new text
  took remaining contents old new text gave mid h is_so reads is after = record {
    while_open = λ _. record { gave = gave; mid = mid; reads = reads; after = subst (λ h. After contents h mid old new text) is after };
    once_ended = λ e. absurd (true≢false (sym is_so ∙ e));
  }

  -- none of one that has ended
  pub took_none : (remaining contents : T → Option (List ℕ)) (old : Peer T) → is_open old.stage ≡ false → Took remaining contents old old None
  took_none remaining contents old e = record { while_open = λ a. absurd (true≢false (sym a ∙ e)); once_ended = λ _. (refl, refl) }
