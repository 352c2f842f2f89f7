-- A text to one peer alone.
use Rattle.std.proofs.Common.{◌≡◌, ◌∙◌, ◌<◌, ◌∷◌, List, [], Option, ℕ, zero, suc, length, slice_index_or, arith, refl, sym, true, false, true≢false}
use Rattle.ws_peers.specs.Lists as lists
use Rattle.ws_peers.specs.Peers.{stage_of}
use Rattle.ws_peers.specs.Sends.{Sent}
use Rattle.ws_peers.specs.Stages.{is_open}
use Rattle.ws_peers.specs.declared.peer.Peer.{Peer}
use Rattle.ws_server.specs.Tells.{SentWhileOpen}

module _ {T : Type 0} (contents : T → Option (List ℕ)) (text : List ℕ) where
  -- it is sent, where the connection is open
  pub said : (n : ℕ) (old new : List (Peer T)) → lists.At (Sent contents text) n old new → ((d : Peer T) → is_open (stage_of (slice_index_or old n d)) ≡ true) → lists.At (SentWhileOpen contents text) n old new
  said n [] new at shows = absurd at
  said n (x ∷ xs) [] at shows = absurd at
  said zero (x ∷ xs) (y ∷ ys) at shows = (record { while_open = λ _. at.0; once_ended = λ no. absurd (true≢false (sym (shows x) ∙ no)) }, at.1)
  said (suc n) (x ∷ xs) (y ∷ ys) at shows = (at.0, said n xs ys at.1 shows)

  -- and else it isn't
  pub unsaid : (n : ℕ) (ps : List (Peer T)) → n < length ps → ((d : Peer T) → is_open (stage_of (slice_index_or ps n d)) ≡ false) → lists.At (SentWhileOpen contents text) n ps ps
  unsaid n [] small ended = absurd (omega (arith, small))
  unsaid zero (x ∷ xs) small ended = (record { while_open = λ yes. absurd (true≢false (sym yes ∙ ended x)); once_ended = λ _. refl }, refl)
  unsaid (suc n) (x ∷ xs) small ended = (refl, unsaid n xs (omega (arith, small)) ended)
