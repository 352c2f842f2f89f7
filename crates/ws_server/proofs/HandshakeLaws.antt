-- Handshakes.
use Rattle.std.proofs.lemmas.List.{length-take}
use Rattle.std.proofs.Common.{length, take, inl, inr, None, ◌≤◌, List, Ok, Option, Some, arith, subst, sym, ℕ, ◌≡◌}
use Rattle.ready_streams.specs.Peeks.{PeekShows}
use Rattle.ws_handshake.specs.Heads.{Asks, BytesJudged}
use Rattle.ws_handshake.specs.declared.head.Asked.TheVariants.{Upgraded}
use Rattle.ws_handshake.specs.declared.head.Upgrade.{Upgrade}
use Rattle.ws_server.specs.Admits.{ComeNext}

-- what a peek shows comes next
pub come_next : (E : Type 0) (known : Option (List ℕ)) (n : ℕ) (buf : List ℕ) → PeekShows {E = E} known (Ok n) buf → n ≤ length buf → ComeNext known (take n buf)
come_next E None n buf shows small = tt
come_next E (Some all) n buf shows small = subst (λ k. take k all ≡ take n buf) (omega (arith, small, length-take n buf)) (sym shows.1)

-- an upgrade comes of a head
pub of_head : (origins : List (List ℕ)) (bytes : List ℕ) (upgrade : Upgrade) → BytesJudged origins bytes (Upgraded upgrade) → Asks origins bytes (Upgraded upgrade)
of_head origins bytes upgrade (inl asks) = asks
of_head origins bytes upgrade (inr none) = absurd none
