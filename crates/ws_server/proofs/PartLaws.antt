-- The disconnects of a turn.
use Rattle.std.proofs.Common.{arith, inl, inr, ◌≡◌, ◌∙◌, ℕ, zero, suc, ◌+◌, ◌-◌, ◌<◌, ◌≤◌, List, [], ◌∷◌, ◌++◌, length, map, drop, get_or, sym, ap, refl, Bool, true, false, not, true≢false, append-nil, subst, Option, Some, None, Result, Ok, Err}
use Rattle.std.proofs.lemmas.List.{get_or-drop, length-drop}
use Rattle.std.specs.List.{AllZip, Contains}
use Rattle.std.specs.List.Sorted.{IsNonDecreasing}
use Rattle.std.specs.Result.{IsErr, IsErrAnd}
use Rattle.hub_events.specs.declared.fault.Fault.{Fault}
use Rattle.hub_events.specs.declared.event.Event.{Event}
use Rattle.hub_events.specs.declared.out.Out.{Out}
use Rattle.hub_events.specs.declared.out.Said.{Said}
use Rattle.hub_events.specs.declared.out.Said.TheVariants as said
use Rattle.lines.specs.OutputLines.{line_of}
use Rattle.tungstenite.specs.declared.error.Error.{Error}
use Rattle.ws_peers.specs.Causes.{cause_of_send}
use Rattle.ws_peers.specs.Lists.{At, Hears, ToStation, is_open_at, is_open_for}
use Rattle.ws_peers.specs.Peers.{FailsOnlyAt, fails_at, finishes, is_open_peer, route_of, stage_of}
use Rattle.ws_peers.specs.Sends.{Sent}
use Rattle.ws_peers.specs.Stages.{ended, is_open, stage_after}
use Rattle.ws_peers.specs.declared.cause.Cause.{Cause}
use Rattle.ws_peers.specs.declared.peer.Peer.{Peer}
use Rattle.ws_peers.specs.declared.routes.Route.{Route}
use Rattle.ws_peers.specs.declared.stage.Stage.{Stage}
use Rattle.ws_peers.specs.declared.stage.Stage.TheVariants.{Open, Ended, Leaving, Gone}
use Rattle.ws_peers.proofs.EndedLaws.{by_case, only_at, contains_next, contains_none, fails_in, fails_too, fails_within}
use Rattle.ws_peers.proofs.ListLaws.{both}
use Rattle.ws_server.specs.Events.{parting_at}
use Rattle.ws_server.specs.Steps.{Step}
use Rattle.ws_server.specs.Tells.{TellsSaid, TellsAll}
use Rattle.ws_server.specs.Turns.{Each, FirstPlaces, Parts, PartsAs}

-- ---- who isn't to leave now

abbrev pub is_settled : Stage → Bool
is_settled Open = true
is_settled (Ended cause) = true
is_settled Leaving = false
is_settled Gone = true

abbrev pub settled : {T : Type 0} → Peer T → Bool
settled p = is_settled (stage_of p)

settled_ended : (cause : Cause) (s : Stage) → is_settled (ended cause s) ≡ is_settled s
settled_ended cause Open = refl
settled_ended cause (Ended first) = refl
settled_ended cause Leaving = refl
settled_ended cause Gone = refl

settled_after : (gave : Result (Unit {0}) Error) (s : Stage) → is_settled (stage_after gave s) ≡ is_settled s
settled_after (Ok u) s = refl
settled_after (Err e) s = settled_ended (cause_of_send e) s

no_parting : (m : ℕ) (route : Route) (s : Stage) → is_settled s ≡ true → None ≡ parting_at s route m
no_parting m route Open e = refl
no_parting m route (Ended cause) e = refl
no_parting m route Leaving e = absurd (true≢false (sym e))
no_parting m route Gone e = refl

-- one that leaves isn't open
leaving_ended : (s : Stage) → is_settled s ≡ false → is_open s ≡ false
leaving_ended Open e = absurd (true≢false e)
leaving_ended (Ended cause) e = refl
leaving_ended Leaving e = refl
leaving_ended Gone e = refl

-- ---- what stays as one item or each changes

module _ {A : Type 0} (f : A → Bool) (R : A → A → Type 0) where
  at_map : ((x y : A) → R x y → f y ≡ f x) → (n : ℕ) (xs ys : List A) → At R n xs ys → map f ys ≡ map f xs
  at_map same n [] ys at = absurd at
  at_map same n (x ∷ xs) [] at = absurd at
  at_map same zero (x ∷ xs) (y ∷ ys) at = ap (λ b. b ∷ map f ys) (same x y at.0) ∙ ap (λ zs. f x ∷ map f zs) at.1
  at_map same (suc n) (x ∷ xs) (y ∷ ys) at = ap (λ z. f z ∷ map f ys) at.0 ∙ ap (λ bs. f x ∷ bs) (at_map same n xs ys at.1)

  zip_map : ((x y : A) → R x y → f y ≡ f x) → (xs ys : List A) → AllZip R xs ys → map f ys ≡ map f xs
  zip_map same [] [] z = refl
  zip_map same [] (y ∷ ys) z = absurd z
  zip_map same (x ∷ xs) [] z = absurd z
  zip_map same (x ∷ xs) (y ∷ ys) z = ap (λ b. b ∷ map f ys) (same x y z.0) ∙ ap (λ bs. f x ∷ bs) (zip_map same xs ys z.1)

  at_fails : ((x y : A) → R x y → f y ≡ true) → (n : ℕ) (xs ys : List A) → At R n xs ys → (k : ℕ) → fails_at f ys k ≡ true → fails_at f xs k ≡ true
  at_fails passes n [] ys at k e = absurd at
  at_fails passes n (x ∷ xs) [] at k e = absurd at
  at_fails passes zero (x ∷ xs) (y ∷ ys) at zero e = absurd (true≢false (sym e ∙ ap not (passes x y at.0)))
  at_fails passes zero (x ∷ xs) (y ∷ ys) at (suc k) e = sym (ap (λ zs. fails_at f zs k) at.1) ∙ e
  at_fails passes (suc n) (x ∷ xs) (y ∷ ys) at zero e = sym (ap (λ z. not (f z)) at.0) ∙ e
  at_fails passes (suc n) (x ∷ xs) (y ∷ ys) at (suc k) e = at_fails passes n xs ys at.1 k e

fails_by : {A : Type 0} (f : A → Bool) (xs : List A) (k : ℕ) → fails_at f xs k ≡ fails_at (λ b. b) (map f xs) k
fails_by f [] k = refl
fails_by f (x ∷ xs) zero = refl
fails_by f (x ∷ xs) (suc k) = fails_by f xs k

fails_same : {A : Type 0} (f : A → Bool) (xs ys : List A) → map f ys ≡ map f xs → (k : ℕ) → fails_at f ys k ≡ true → fails_at f xs k ≡ true
fails_same f xs ys same k e = fails_by f xs k ∙ ap (λ bs. fails_at (λ b. b) bs k) (sym same) ∙ sym (fails_by f ys k) ∙ e

-- ---- outputs make no peer leave

module _ {T : Type 0} (contents : T → Option (List ℕ)) where
  sent_settled : (text : List ℕ) (p q : Peer T) → Sent contents text p q → settled q ≡ settled p
  sent_settled text p q sent = ap (λ x. settled x) sent.rest ∙ settled_after sent.gave p.stage

  hears_settled : (op text : List ℕ) (p q : Peer T) → Hears contents op text p q → settled q ≡ settled p
  hears_settled op text p q h = both (is_open_for op p) (λ e. sent_settled text p q (h.own e)) (λ e. ap (λ x. settled x) (h.other e))

  station_settled : (op station text : List ℕ) (ps qs : List (Peer T)) → ToStation contents op station text ps qs → map settled qs ≡ map settled ps
  station_settled op station text ps qs (inl sent) = at_map settled (λ p q. (is_open_at op station p ≡ true) × Sent contents text p q) (λ p q r. sent_settled text p q r.1) sent.0 ps qs sent.1
  station_settled op station text ps qs (inr none) = ap (map settled) none.1

  operator_settled : (op text : List ℕ) (ps qs : List (Peer T)) → AllZip (Hears contents op text) ps qs → map settled qs ≡ map settled ps
  operator_settled op text ps qs z = zip_map settled (Hears contents op text) (hears_settled op text) ps qs z

  said_settled : (op line : List ℕ) (what : Said) (ps qs : List (Peer T)) → TellsSaid contents op what line ps qs → map settled qs ≡ map settled ps
  said_settled op line (said.Send station text) ps qs told = station_settled op station text ps qs told
  said_settled op line (said.Done station number outcome) ps qs told = operator_settled op line ps qs told
  said_settled op line (said.Turned station) ps qs told = operator_settled op line ps qs told
  said_settled op line (said.Repaired station action fault) ps qs told = operator_settled op line ps qs told
  said_settled op line (said.Refused refusal) ps qs told = operator_settled op line ps qs told
  said_settled op line (said.Row row) ps qs told = operator_settled op line ps qs told
  said_settled op line (said.Accepted number) ps qs told = operator_settled op line ps qs told

  told_settled : (outs : List Out) (ps qs : List (Peer T)) → TellsAll contents outs ps qs → map settled qs ≡ map settled ps
  told_settled [] ps qs told = ap (map settled) told
  told_settled (out ∷ outs) ps qs told = told_settled outs told.0 qs told.2 ∙ said_settled out.op (line_of out) out.said ps told.0 told.1

-- ---- the places of those that aren't open, in ascending order

above : (places : List ℕ) (i k : ℕ) → IsNonDecreasing places → i < length places → Contains (drop i places) k → get_or places i 0 ≤ k
above places i k sorted small c =
    let size : length (drop i places) ≡ length places - i = length-drop i places in
    let at : get_or places (i + c.0) k ≡ k = sym (get_or-drop i places c.0 k) ∙ c.2 in
    let order : get_or places i k ≤ get_or places (i + c.0) k = sorted i (i + c.0) k (omega arith) (omega (arith, c.1, size)) in
    omega (arith, order, at, default_of places i k small)
  where
    default_of : (ns : List ℕ) (j d : ℕ) → j < length ns → get_or ns j d ≡ get_or ns j 0
    default_of [] j d within = absurd (omega (arith, within))
    default_of (n ∷ ns) zero d within = refl
    default_of (n ∷ ns) (suc j) d within = default_of ns j d (omega (arith, within))

module _ {T : Type 0} where
  -- those that are to leave from a place on are at the places that are left
  abbrev pub Left : ℕ → List ℕ → List (Peer T) → Type 0
  Left next places now = (k : ℕ) → next ≤ k → fails_at settled now k ≡ true → Contains places k

  pub left_start : (places : List ℕ) (ps : List (Peer T)) → FailsOnlyAt is_open_peer places ps → Left 0 places ps
  left_start places ps only = λ k from leaves. only_at is_open_peer places ps only k (fails_too is_open_peer settled (λ p e. leaving_ended (stage_of p) e) ps k leaves)

  -- a place is passed over that was looked at before, or at which there is none
  pub left_below : (places : List ℕ) (i next : ℕ) (now : List (Peer T)) → i < length places → get_or places i 0 < next → Left next (drop i places) now → Left next (drop (i + 1) places) now
  left_below places i next now small below left = λ k from leaves. contains_next places i k small (left k from leaves) (λ same. omega (arith, same, below, from))

  pub left_out : (places : List ℕ) (i next : ℕ) (now : List (Peer T)) → i < length places → length now ≤ get_or places i 0 → Left next (drop i places) now → Left next (drop (i + 1) places) now
  left_out places i next now small out left = λ k from leaves.
      let within = fails_within settled now k leaves in
      contains_next places i k small (left k from leaves) (λ same. omega (arith, same, out, within))

module _ {T : Type 0} (contents : T → Option (List ℕ)) (hosts : List ℕ → Bool) (m : ℕ) where
  parts_as : (n : ℕ) (event : Option Event) (old new : List (Peer T)) (steps : List Step) (r : Result (Unit {0}) Fault) → PartsAs contents hosts n event old new steps r
      → (k : ℕ) → fails_at settled new k ≡ true → fails_at settled old k ≡ true
  parts_as n None old new steps r parts k e = sym (ap (λ ps. fails_at settled ps k) parts.0) ∙ e
  parts_as n (Some event) old new steps (Ok u) parts k e =
      fails_same settled old parts.0 (told_settled contents parts.1.0 old parts.0 parts.1.2) k
      (at_fails settled (λ p q. q ≡ finishes p) (λ p q is. ap (λ x. settled x) is) n parts.0 new parts.2 k e)
  parts_as n (Some event) old new steps (Err f) parts k e = sym (ap (λ ps. fails_at settled ps k) parts.0) ∙ e

  -- one that is to leave after another has left was to leave before
  parts_settled : (n : ℕ) (old new : List (Peer T)) (steps : List Step) (r : Result (Unit {0}) Fault) → Parts contents hosts m n old new steps r → (k : ℕ) → fails_at settled new k ≡ true → fails_at settled old k ≡ true
  parts_settled n old new steps r parts k e = parts_as n parts.0 old new steps r parts.2 k e

  -- ---- the places at which none is to leave

  over : (n : ℕ) (old now : List (Peer T)) (steps : List Step) → n < length now → fails_at settled now n ≡ false → FirstPlaces (Parts contents hosts m) n old now steps → FirstPlaces (Parts contents hosts m) (suc n) old now steps
  over n old now steps small stays first =
      let at : (d : Peer T) → settled (get_or now n d) ≡ true = λ d. both (settled (get_or now n d)) (λ e. e) (λ e. absurd (true≢false (sym (fails_in settled now n d small ∙ ap not e) ∙ stays))) in
      (now, steps, [], first, (None, λ d. no_parting m (route_of (get_or now n d)) (stage_of (get_or now n d)) (at d), (refl, refl, refl)), sym (append-nil steps))

  fill : (b a : ℕ) (old now : List (Peer T)) (steps : List Step) → a ≤ b → b ≤ length now → ((k : ℕ) → a ≤ k → k < b → fails_at settled now k ≡ false) → FirstPlaces (Parts contents hosts m) a old now steps → FirstPlaces (Parts contents hosts m) b old now steps
  fill zero a old now steps more few none first =
      let same : a ≡ 0 = omega (arith, more) in
      subst (λ k. FirstPlaces (Parts contents hosts m) k old now steps) same first
  fill (suc b) a old now steps more few none first = by_case a (suc b)
      (λ same. subst (λ k. FirstPlaces (Parts contents hosts m) k old now steps) same first)
      (λ other.
      let below : a ≤ b = omega (arith, more, other) in
      over b old now steps (omega (arith, few)) (none b below (omega arith)) (fill b a old now steps below (omega (arith, few)) (λ k from to. none k from (omega (arith, to))) first))

  none_before : (places : List ℕ) (i next : ℕ) (now : List (Peer T)) → IsNonDecreasing places → i < length places → Left next (drop i places) now
      → (k : ℕ) → next ≤ k → k < get_or places i 0 → fails_at settled now k ≡ false
  none_before places i next now sorted small left k from to = both (fails_at settled now k)
      (λ e. let up = above places i k sorted small (left k from e) in absurd (omega (arith, up, to)))
      (λ e. e)

  -- the places before the next
  pub up_to : (places : List ℕ) (i next : ℕ) (old now : List (Peer T)) (steps : List Step) → IsNonDecreasing places → i < length places → Left next (drop i places) now
      → next ≤ get_or places i 0 → get_or places i 0 < length now → FirstPlaces (Parts contents hosts m) next old now steps → FirstPlaces (Parts contents hosts m) (get_or places i 0) old now steps
  up_to places i next old now steps sorted small left from within first =
      fill (get_or places i 0) next old now steps from (omega (arith, within)) (none_before places i next now sorted small left) first

  -- the next has left
  pub left_on : (places : List ℕ) (i next : ℕ) (now new : List (Peer T)) (steps : List Step) (r : Result (Unit {0}) Fault) → i < length places → next ≤ get_or places i 0
      → Parts contents hosts m (get_or places i 0) now new steps r → Left next (drop i places) now → Left (get_or places i 0 + 1) (drop (i + 1) places) new
  left_on places i next now new steps r small from parts left = λ k after leaves.
      contains_next places i k small (left k (omega (arith, from, after)) (parts_settled (get_or places i 0) now new steps r parts k leaves)) (λ same. omega (arith, same, after))

  -- none is left
  pub all_left : (places : List ℕ) (i next : ℕ) (old now : List (Peer T)) (steps : List Step) → length places ≤ i → next ≤ length old → length now ≡ length old → Left next (drop i places) now
      → FirstPlaces (Parts contents hosts m) next old now steps → FirstPlaces (Parts contents hosts m) (length old) old now steps
  all_left places i next old now steps all small size left first =
      fill (length old) next old now steps small (omega (arith, size)) (λ k from to. both (fails_at settled now k) (λ e. absurd (contains_none places i k all (left k from e))) (λ e. e)) first

  -- one that fails is the last
  pub part_fails : (n : ℕ) (old mid new : List (Peer T)) (before after : List Step) (fault : Fault) (r : Result (Unit {0}) Fault) → IsErr r → IsErrAnd r (λ e. e ≡ fault) → n < length old
      → FirstPlaces (Parts contents hosts m) n old mid before → Parts contents hosts m n mid new after (Err fault) → Each (Parts contents hosts m) old new (before ++ after) r
  part_fails n old mid new before after fault (Ok u) err same small first parts = absurd (true≢false (sym err))
  part_fails n old mid new before after fault (Err e) err same small first parts =
      (n, mid, before, after, small, first, subst (λ x. Parts contents hosts m n mid new after (Err x)) (sym same) parts, refl)
