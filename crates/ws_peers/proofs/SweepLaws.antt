-- Dropping the peers that are gone.
use Rattle.std.proofs.Common.{arith, ◌≡◌, ◌≢◌, ◌∙◌, ℕ, zero, suc, ◌+◌, ◌-◌, ◌<◌, ◌≤◌, List, [], ◌∷◌, ◌++◌, length, map, drop, take, get_or, set, sym, ap, refl, Bool, true, false, not, true≢false, ◌||◌, if◌then◌else◌, append-nil, append_assoc, subst}
use Rattle.std.proofs.Math.Seq.{take-append_seam, get_or-append_seam, set_out}
use Rattle.std.proofs.lemmas.List.{get_or-set_same, get_or_append_left, get_or_default, map-append, map-set, length-set}
use Rattle.std.proofs.lemmas.List.Elements.{All-push, All-append}
use Rattle.std.proofs.lemmas.List.Sorted.{IsPermutation-refl, IsPermutation-trans, IsPermutation-append_right, IsPermutation-pop_more, IsPermutation-swap_remove}
use Rattle.std.specs.List.{Contains, swap_remove}
use Rattle.std.specs.List.Sorted.{IsPermutation}
use Rattle.ws_peers.specs.Lists.{Drops, Swept}
use Rattle.ws_peers.specs.Peers.{fails_at, FailsOnlyAt, is_held_peer, is_open_peer, places_of}
use Rattle.ws_peers.specs.declared.peer.Peer.{Peer}
use Rattle.ws_peers.proofs.EndedLaws.{by_case, only_at, listing, contains_next, contains_none, fails_within, fails_in, fails_other, fails_front, fails_too}
use Rattle.ws_peers.proofs.ListLaws.{both}
use Rattle.ws_peers.proofs.PlaceLaws.{places_more, places_set}
use Rattle.ws_peers.proofs.StageLaws.{gone_ended}

-- ---- the last item takes the place of another

module _ {A : Type 0} where
  -- a list ends in an item
  abbrev pub Ends : List A → Type 0
  Ends xs = (ys : List A) × (z : A) × (xs ≡ ys ++ z ∷ [])

  ends_in : (x : A) (xs : List A) → Ends (x ∷ xs)
  ends_in x [] = ([], x, refl)
  ends_in x (y ∷ ys) =
      let more = ends_in y ys in
      (x ∷ more.0, more.1, ap (λ zs. x ∷ zs) more.2)

  pub ends : (xs : List A) (n : ℕ) → n < length xs → Ends xs
  ends [] n small = absurd (omega (arith, small))
  ends (x ∷ xs) n small = ends_in x xs

  put_in : (ys : List A) (z : A) (n : ℕ) → take (length ys) (set (ys ++ z ∷ []) n z) ≡ set ys n z
  put_in [] z n = refl
  put_in (y ∷ ys) z zero = ap (λ zs. z ∷ zs) (take-append_seam ys (z ∷ []))
  put_in (y ∷ ys) z (suc n) = ap (λ zs. y ∷ zs) (put_in ys z n)

  sizes : (xs : List A) (z : A) → length (xs ++ z ∷ []) ≡ suc (length xs)
  sizes [] z = refl
  sizes (x ∷ xs) z = ap suc (sizes xs z)

  longer_by_one : (ys : List A) (z : A) → length (ys ++ z ∷ []) - 1 ≡ length ys
  longer_by_one ys z =
      let size = sizes ys z in
      omega (arith, size)

  swapped : (ys : List A) (z : A) (n : ℕ) (d : A) → swap_remove (ys ++ z ∷ []) n d ≡ set ys n z
  swapped ys z n d =
      ap (λ k. take k (set (ys ++ z ∷ []) n (get_or (ys ++ z ∷ []) k d))) (longer_by_one ys z)
      ∙ ap (λ y. take (length ys) (set (ys ++ z ∷ []) n y)) (get_or-append_seam ys z [] d)
      ∙ put_in ys z n

  -- what the list is then
  pub swap_is : (xs new : List A) (n : ℕ) (d : A) (e : Ends xs) → new ≡ swap_remove xs n d → new ≡ set e.0 n e.1
  swap_is xs new n d e is = is ∙ ap (λ zs. swap_remove zs n d) e.2 ∙ swapped e.0 e.1 n d

  -- the others stay
  pub swap_others : (xs new : List A) (n : ℕ) (d : A) → n < length xs → new ≡ swap_remove xs n d → (f : A → Bool) (k : ℕ) → k ≢ n → fails_at f new k ≡ true → fails_at f xs k ≡ true
  swap_others xs new n d small is f k differs fails =
      let e = ends xs n small in
      let now : fails_at f e.0 k ≡ true = sym (ap (λ zs. fails_at f zs k) (swap_is xs new n d e is) ∙ fails_other f e.0 n k e.1 differs) ∙ fails in
      let before : k ≢ length e.0 = λ same. omega (arith, same, fails_within f e.0 k now) in
      ap (λ zs. fails_at f zs k) e.2 ∙ fails_front f e.0 e.1 k before ∙ now

  -- and so do the places of those that pass a test, if that fails for both
  pub swap_places : (f : A → Bool) (xs new : List A) (n : ℕ) (d : A) → n < length xs → new ≡ swap_remove xs n d → f (get_or xs n d) ≡ false → (n < length new → f (get_or new n d) ≡ false) → places_of f 0 new ≡ places_of f 0 xs
  swap_places f xs new n d small is out moved =
      let e = ends xs n small in
      let now = swap_is xs new n d e is in
      let whole : length (e.0 ++ e.1 ∷ []) - 1 ≡ length e.0 = longer_by_one e.0 e.1 in
      let more : length (e.0 ++ e.1 ∷ []) ≡ length xs = ap length (sym e.2) in
      let size : length new ≡ length e.0 = ap length now ∙ length-set e.0 n e.1 in
      let last : f e.1 ≡ false = by_case n (length e.0)
      (λ same. sym (ap f (ap (λ zs. get_or zs n d) e.2 ∙ ap (λ k. get_or (e.0 ++ e.1 ∷ []) k d) same ∙ get_or-append_seam e.0 e.1 [] d)) ∙ out)
      (λ other.
      let within : n < length e.0 = omega (arith, small, more, whole, other) in
      sym (ap f (ap (λ zs. get_or zs n d) now ∙ get_or-set_same e.0 n e.1 d within)) ∙ moved (omega (arith, within, size))) in
      let put : places_of f 0 (set e.0 n e.1) ≡ places_of f 0 e.0 = by_case n (length e.0)
      (λ same. ap (places_of f 0) (set_out e.0 n e.1 (omega (arith, same))))
      (λ other.
      let within : n < length e.0 = omega (arith, small, more, whole, other) in
      places_set f 0 e.0 n d e.1 (last ∙ sym (sym (ap f (ap (λ zs. get_or zs n d) e.2 ∙ get_or_append_left e.0 (e.1 ∷ []) d n within)) ∙ out))) in
      ap (places_of f 0) now ∙ put ∙ sym (ap (places_of f 0) e.2 ∙ places_more f 0 e.0 e.1 ∙ ap (λ b. places_of f 0 e.0 ++ (if b then (0 + length e.0) ∷ [] else [])) last ∙ append-nil (places_of f 0 e.0))

  -- the list has one item less
  pub swap_permutes : (xs new : List A) (n : ℕ) (x d : A) → n < length xs → x ≡ get_or xs n x → new ≡ swap_remove xs n x → IsPermutation xs (get_or xs n d ∷ new)
  swap_permutes xs new n x d small at is =
      subst (λ ys. IsPermutation xs (get_or xs n d ∷ ys)) (sym is)
      (subst (λ y. IsPermutation xs (y ∷ swap_remove xs n x)) (at ∙ get_or_default xs n x d small) (IsPermutation-swap_remove xs n x small at))

-- the same is done to what a function gives of each
pub swap_map : {A : Type 0} (g : A → ℕ) (xs new : List A) (keys more : List ℕ) (n k : ℕ) (d : A) → n < length xs → new ≡ swap_remove xs n d → keys ≡ map g xs → more ≡ swap_remove keys n k → more ≡ map g new
swap_map g xs new keys more n k d small is keyed removed =
    let e = ends xs n small in
    removed
    ∙ ap (λ ks. swap_remove ks n k) (keyed ∙ ap (map g) e.2 ∙ map-append g e.0 (e.1 ∷ []))
    ∙ swapped (map g e.0) (g e.1) n k
    ∙ sym (ap (map g) (swap_is xs new n d e is) ∙ map-set g e.0 n e.1)

pub none_moved : (a b : Bool) → (a || b) ≡ false → (a ≡ false) × (b ≡ false)
none_moved true b e = absurd (true≢false e)
none_moved false b e = (refl, e)

-- ---- what is dropped

module _ {T : Type 0} where
  pub drops_none : (ps : List (Peer T)) → Drops ps ps
  drops_none ps = record { dropped = []; others = IsPermutation-refl ps; gone = λ k d small. absurd (omega (arith, small)) }

  pub drops_one : (old mid new : List (Peer T)) (p : Peer T) → Drops old mid → is_held_peer p ≡ false → IsPermutation mid (p ∷ new) → Drops old new
  drops_one old mid new p drops gone one = record {
    dropped = drops.dropped ++ p ∷ [];
    others = IsPermutation-pop_more old drops.dropped mid new p drops.others one;
    gone = All-push (λ q. is_held_peer q ≡ false) drops.dropped p drops.gone gone;
  }

  pub drops_more : (old mid new : List (Peer T)) → Drops old mid → Drops mid new → Drops old new
  drops_more old mid new first more = record {
    dropped = first.dropped ++ more.dropped;
    others = subst (IsPermutation old) (sym (append_assoc first.dropped more.dropped new))
        (IsPermutation-trans old (first.dropped ++ mid) (first.dropped ++ (more.dropped ++ new)) first.others (IsPermutation-append_right first.dropped mid (more.dropped ++ new) more.others));
    gone = All-append (λ q. is_held_peer q ≡ false) first.dropped more.dropped first.gone more.gone;
  }

  -- one peer that is gone is dropped
  pub drop_on : (old now new : List (Peer T)) (place : ℕ) → fails_at is_held_peer now place ≡ true
      → ((p : Peer T) → IsPermutation now (get_or now place p ∷ new)) → Drops old now → Drops old new
  drop_on old [] new place fails one drops = absurd (true≢false (sym fails))
  drop_on old (q ∷ qs) new place fails one drops =
      let now = q ∷ qs in
      let within : place < length now = fails_within is_held_peer now place fails in
      drops_one old now new (get_or now place q) drops
      (both (is_held_peer (get_or now place q)) (λ e. absurd (true≢false (sym fails ∙ fails_in is_held_peer now place q within ∙ ap not e))) (λ e. e))
      (one q)

  -- those that are gone are among those that aren't open
  pub gone_listed : (places : List ℕ) (ps : List (Peer T)) → FailsOnlyAt is_open_peer places ps → FailsOnlyAt is_held_peer places ps
  gone_listed places ps only = λ n fails. only n (fails_too is_open_peer is_held_peer gone_ended ps n fails)

  -- those that are gone are left
  pub left_on : (places : List ℕ) (i : ℕ) (now new : List (Peer T)) (place : ℕ) → i < length places → place ≡ get_or places i 0 → fails_at is_held_peer new place ≡ false
      → ((f : Peer T → Bool) (n : ℕ) → n ≢ place → fails_at f new n ≡ true → fails_at f now n ≡ true)
      → FailsOnlyAt is_held_peer (drop i places) now → FailsOnlyAt is_held_peer (drop (i + 1) places) new
  left_on places i now new place small at held others left = listing is_held_peer _ _ (λ n fails. by_case n place
      (λ same. absurd (true≢false (sym fails ∙ ap (fails_at is_held_peer new) same ∙ held)))
      (λ differs. contains_next places i n small (only_at is_held_peer _ _ left n (others is_held_peer n differs fails)) (λ e. differs (e ∙ sym at))))

  -- those that aren't open are still listed
  pub listed_still : (places : List ℕ) (i : ℕ) (now new : List (Peer T)) (place : ℕ) → i < length places → place ≡ get_or places i 0
      → ((f : Peer T → Bool) (n : ℕ) → n ≢ place → fails_at f new n ≡ true → fails_at f now n ≡ true)
      → FailsOnlyAt is_open_peer places now → FailsOnlyAt is_open_peer places new
  listed_still places i now new place small at others listed = listing is_open_peer _ _ (λ n fails. by_case n place
      (λ same. subst (Contains places) (sym same) (i, small, default_of places i place small ∙ sym at))
      (λ differs. only_at is_open_peer _ _ listed n (others is_open_peer n differs fails)))
    where
      default_of : (ns : List ℕ) (k d : ℕ) → k < length ns → get_or ns k d ≡ get_or ns k 0
      default_of [] k d within = absurd (omega (arith, within))
      default_of (m ∷ ns) zero d within = refl
      default_of (m ∷ ns) (suc k) d within = default_of ns k d (omega (arith, within))

  -- none is left
  pub swept : (places : List ℕ) (i : ℕ) (old new : List (Peer T)) → length places ≤ i → FailsOnlyAt is_held_peer (drop i places) new → Drops old new → Swept old new
  swept places i old new all left drops = record {
    drops = drops;
    held = λ k d small. both (is_held_peer (get_or new k d)) (λ e. e) (λ e. absurd (contains_none places i k all (only_at is_held_peer _ _ left k (fails_in is_held_peer new k d small ∙ ap not e))));
  }
