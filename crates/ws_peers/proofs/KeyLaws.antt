-- A station is sought by its key first.
use Rattle.std.proofs.Common.{arith, add-one, ◌≡◌, ◌∙◌, ℕ, zero, suc, ◌+◌, ◌<◌, ◌≤◌, List, [], ◌∷◌, length, map, drop, drop-cons, get_or, sym, ap, refl, Bool, true, false, true≢false, ◌||◌, ◌&&◌, subst, Option, None, Some, is_some}
use Rattle.std.proofs.lemmas.Grind.{common_steps}
use Rattle.std.proofs.lemmas.List.{set-get_or, get_or-map}
use Rattle.std.proofs.lemmas.List.Quantifiers.{position-Some}
use Rattle.std.proofs.lemmas.List.Sums.{fails_before_first}
use Rattle.std.specs.Cmp.Lexicographic.{bytes_decides}
use Rattle.std.specs.List.{fold, list_any, position, position_or_len}
use Rattle.std.specs.Str.{bytes_eq}
use Rattle.ws_peers.specs.Lists.{Front, GivesWay, is_open_at}
use Rattle.ws_peers.specs.Peers.{key_of_peer}
use Rattle.ws_peers.specs.Routes.{is_station, station_key, key_of}
use Rattle.ws_peers.specs.declared.peer.Peer.{Peer}
use Rattle.ws_peers.specs.declared.routes.Route.{Route}
use Rattle.ws_peers.specs.declared.routes.Route.TheVariants.{Station, Operator}
use Rattle.ws_peers.proofs.PlaceLaws.{front_on}
use Rattle.ws_peers.proofs.ListLaws.{none_passes}

pub folded : (f : ℕ → ℕ → ℕ) (a b : ℕ) (xs : List ℕ) (i k : ℕ) → fold f a (drop i xs) ≡ k → i < length xs → b ≡ get_or xs i 0 → fold f (f a b) (drop (i + 1) xs) ≡ k
folded f a b xs i k e small is = rw add-one (ap (λ y. fold f (f a y) (drop (suc i) xs)) is ∙ ap (fold f a) (sym (drop-cons xs i 0 small)) ∙ e)

-- ---- the first that passes

module _ {A : Type 0} (f : A → Bool) where
  any_at : (xs : List A) (n : ℕ) (d : A) → n < length xs → f (get_or xs n d) ≡ true → list_any f xs ≡ true
  any_at [] n d small e = absurd (omega (arith, small))
  any_at (x ∷ xs) zero d small e = ap (λ b. b || list_any f xs) e
  any_at (x ∷ xs) (suc n) d small e =
      let more : list_any f xs ≡ true = any_at xs n d (omega (arith, small)) e in
      grind (arith, more)

  pub some_passes : (xs : List A) (r : Option ℕ) → r ≡ position f xs → is_some r ≡ list_any f xs
  some_passes xs None e = sym (none_passes f xs (sym e))
  some_passes [] (Some n) e = absurd (cc)
  some_passes (x ∷ xs) (Some n) e =
      let at = position-Some f (x ∷ xs) n x (sym e) in
      sym (any_at (x ∷ xs) n x at.0 at.1)

  pub first_found : (xs : List A) (n : ℕ) (d : A) → ((k : ℕ) → k < n → f (get_or xs k d) ≡ false) → n < length xs → f (get_or xs n d) ≡ true → Some n ≡ position f xs
  first_found xs n d before small here =
      elim (position f xs) as (λ r. position f xs ≡ r → Some n ≡ r) [
        | None ↦ λ e.
            let all : length xs ≤ position_or_len f xs = grind (arith, common_steps) in
            absurd (true≢false (sym here ∙ fails_before_first f xs n d (omega (arith, small, all))))
        | Some m ↦ λ e.
            let at = position-Some f xs m d e in
            let below : m < n → ⊥ = λ less. true≢false (sym at.1 ∙ before m less) in
            let above : n < m → ⊥ = λ less. true≢false (sym here ∙ at.2 n less) in
            let same : n ≡ m = omega (arith, below, above) in
            ap Some same
      ] refl

  pub none_found : (xs : List A) (n : ℕ) → ((d : A) (k : ℕ) → k < n → f (get_or xs k d) ≡ false) → length xs ≤ n → None ≡ position f xs
  none_found [] n before all = refl
  none_found (x ∷ xs) n before all =
      elim (position f (x ∷ xs)) as (λ r. position f (x ∷ xs) ≡ r → None ≡ r) [
        | None ↦ λ e. refl
        | Some m ↦ λ e.
            let at = position-Some f (x ∷ xs) m x e in
            absurd (true≢false (sym at.1 ∙ before x m (omega (arith, at.0, all))))
      ] refl

-- ---- keys

both_so : (a b : Bool) → (a && b) ≡ true → (a ≡ true) × (b ≡ true)
both_so true b e = (refl, e)
both_so false b e = absurd (true≢false (sym e))

same_key : (op station : List ℕ) (r : Route) → is_station op station r ≡ true → key_of r ≡ station_key op station
same_key op station (Station o s) e =
    let parts = both_so (bytes_eq o op) (bytes_eq s station) e in
    ap (λ x. station_key x s) ((bytes_decides o op).0 parts.0) ∙ ap (station_key op) ((bytes_decides s station).0 parts.1)
same_key op station (Operator o) e = absurd (true≢false (sym e))

module _ {T : Type 0} where
  pub other_station : (op station keys : List ℕ) (ps : List (Peer T)) (n wanted : ℕ) (d : Peer T) → keys ≡ map key_of_peer ps → n < length ps → wanted ≡ station_key op station → (get_or keys n 0 ≡ wanted → ⊥)
      → is_station op station (get_or ps n d).route ≡ false
  other_station op station keys ps n wanted d is small sought differs =
      elim (is_station op station (get_or ps n d).route) as (λ b. is_station op station (get_or ps n d).route ≡ b → b ≡ false) [
        | true ↦ λ e. absurd (differs (ap (λ ks. get_or ks n 0) is ∙ get_or-map key_of_peer ps n d 0 small ∙ same_key op station (get_or ps n d).route e ∙ sym sought))
        | false ↦ λ e. refl
      ] refl

  pub not_open_at : (op station : List ℕ) (p : Peer T) → is_station op station p.route ≡ false → is_open_at op station p ≡ false
  not_open_at op station p e = grind (arith, e)

  pub stays : (contents : T → Option (List ℕ)) (op station : List ℕ) (p : Peer T) → is_station op station p.route ≡ false → GivesWay contents op station p p
  stays contents op station p e = record { same = λ is. absurd (true≢false (sym is ∙ e)); other = λ _. refl }

-- ---- a walk over all

pub front_get : {A : Type 0} (R : A → A → Type 0) (i : ℕ) (old now : List A) (d : A) → Front R i old now → get_or now i d ≡ get_or old i d
front_get R zero old now d f = ap (λ xs. get_or xs 0 d) f
front_get R (suc i) [] [] d f = refl
front_get R (suc i) [] (y ∷ ys) d f = absurd f
front_get R (suc i) (x ∷ xs) [] d f = absurd f
front_get R (suc i) (x ∷ xs) (y ∷ ys) d f = front_get R i xs ys d f.1

-- one that stays as it is
pub front_stay : {A : Type 0} (R : A → A → Type 0) (i : ℕ) (old now : List A) → Front R i old now → i < length now → ((d : A) → R (get_or old i d) (get_or old i d)) → Front R (i + 1) old now
front_stay R i old [] f small r = absurd (omega (arith, small))
front_stay R i old (y ∷ ys) f small r =
    let same = front_get R i old (y ∷ ys) y f in
    subst (λ now. Front R (i + 1) old now) (set-get_or (y ∷ ys) i y)
    (front_on R old (y ∷ ys) i y (get_or (y ∷ ys) i y) f small (subst (λ x. R x x) (sym same) (r y)))
