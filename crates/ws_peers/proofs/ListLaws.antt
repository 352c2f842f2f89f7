-- One peer of all, and what all keep.
use Rattle.std.proofs.Common.{arith, inl, inr, ◌≡◌, ◌∙◌, ℕ, zero, suc, ◌+◌, ◌<◌, ◌≤◌, List, [], ◌∷◌, ◌++◌, length, map, take, get_or, set, sym, ap, refl, Bool, true, false, true≢false, ◌&&◌, if◌then◌else◌, append-nil, subst, Option, None, Some}
use Rattle.std.proofs.Math.Seq.{take-append_seam, map-set_same}
use Rattle.std.proofs.lemmas.Grind.{common_steps}
use Rattle.std.proofs.lemmas.List.Elements.{All-from_get_or}
use Rattle.std.proofs.lemmas.List.{map-append}
use Rattle.std.proofs.lemmas.List.Folds.{list_any_none}
use Rattle.std.proofs.lemmas.List.Quantifiers.{position-Some}
use Rattle.std.proofs.lemmas.List.Sums.{fails_before_first}
use Rattle.std.specs.List.{position, position_or_len}
use Rattle.std.specs.Option.{IfSome, IfNone}
use Rattle.std.specs.List.{AllZip, list_any}
use Rattle.ws_peers.specs.Lists.{At, Front, is_open_at, ToStation, is_open_for, GivesWay, Hears, ToOperator, ForText}
use Rattle.ws_peers.specs.Peers.{is_operator_peer, key_of_peer, places_of}
use Rattle.ws_peers.proofs.PlaceLaws.{places_set, places_zip, places_more, front_all}
use Rattle.ws_peers.specs.declared.peer.Peer.{Peer}
use Rattle.ws_peers.specs.declared.routes.Route.{Route}
use Rattle.ws_peers.specs.declared.routes.Route.TheVariants.{Station, Operator}
use Rattle.ws_peers.specs.Routes.{is_operator, key_of, is_operator_of, is_station}
use Rattle.websocket.specs.declared.protocol.frame.coding.CloseCode.{CloseCode}
use Rattle.ws_peers.specs.declared.cause.Cause.{Cause}
use Rattle.ws_peers.specs.Sends.{Sent, EndsWith, Replaced}
use Rattle.ws_peers.specs.Stages.{is_open}

pub at_set : {A : Type 0} (R : A → A → Type 0) (n : ℕ) (xs : List A) (d y : A) → n < length xs → R (get_or xs n d) y → At R n xs (set xs n y)
at_set R n [] d y small r = absurd (omega (arith, small))
at_set R zero (x ∷ xs) d y small r = (r, refl)
at_set R (suc n) (x ∷ xs) d y small r = (refl, at_set R n xs d y (omega (arith, small)) r)

module _ {T : Type 0} where
  operator_route : (p q : Peer T) → q.route ≡ p.route → is_operator_peer q ≡ is_operator_peer p
  operator_route p q e = ap (λ r. is_operator r) e

  -- the places of the operators among peers are those among peers with the same routes
  pub kept_set : (places : List ℕ) (ps : List (Peer T)) (n : ℕ) (d p : Peer T) → p.route ≡ (get_or ps n d).route → places ≡ places_of is_operator_peer 0 ps → places ≡ places_of is_operator_peer 0 (set ps n p)
  kept_set places ps n d p e is = is ∙ sym (places_set is_operator_peer 0 ps n d p (operator_route (get_or ps n d) p e))

  pub kept_zip : (places : List ℕ) (R : Peer T → Peer T → Type 0) → ((p q : Peer T) → R p q → q.route ≡ p.route) → (ps qs : List (Peer T)) → AllZip R ps qs → places ≡ places_of is_operator_peer 0 ps → places ≡ places_of is_operator_peer 0 qs
  kept_zip places R same ps qs z is = is ∙ sym (places_zip is_operator_peer R (λ p q r. operator_route p q (same p q r)) 0 ps qs z)

-- ---- loops over all

module _ {T : Type 0} where
  -- and so are the keys
  pub keyed_set : (keys : List ℕ) (ps : List (Peer T)) (n : ℕ) (d p : Peer T) → p.route ≡ (get_or ps n d).route → keys ≡ map key_of_peer ps → keys ≡ map key_of_peer (set ps n p)
  keyed_set keys ps n d p e is = is ∙ sym (map-set_same key_of_peer ps n p d (ap (λ r. key_of r) e))

  pub keyed_zip : (keys : List ℕ) (R : Peer T → Peer T → Type 0) → ((p q : Peer T) → R p q → q.route ≡ p.route) → (ps qs : List (Peer T)) → AllZip R ps qs → keys ≡ map key_of_peer ps → keys ≡ map key_of_peer qs
  keyed_zip keys R same ps qs z is = is ∙ keys_zip ps qs z where
    keys_zip : (ps qs : List (Peer T)) → AllZip R ps qs → map key_of_peer ps ≡ map key_of_peer qs
    keys_zip [] [] z = refl
    keys_zip [] (q ∷ qs) z = absurd z
    keys_zip (p ∷ ps) [] z = absurd z
    keys_zip (p ∷ ps) (q ∷ qs) z = ap (λ k. k ∷ map key_of_peer ps) (ap (λ r. key_of r) (sym (same p q z.0))) ∙ ap (λ ks. key_of_peer q ∷ ks) (keys_zip ps qs z.1)

  pub keyed_map : (g : Peer T → Peer T) → ((p : Peer T) → key_of_peer (g p) ≡ key_of_peer p) → (ps : List (Peer T)) → map key_of_peer (map g ps) ≡ map key_of_peer ps
  keyed_map g same [] = refl
  keyed_map g same (p ∷ ps) = ap (λ k. k ∷ map key_of_peer (map g ps)) (same p) ∙ ap (λ ks. key_of_peer p ∷ ks) (keyed_map g same ps)

  pub keyed_pushed : (keys more : List ℕ) (key : ℕ) (ps qs : List (Peer T)) (p : Peer T) → key ≡ key_of_peer p → keys ≡ map key_of_peer ps → more ≡ keys ++ key ∷ [] → qs ≡ ps ++ p ∷ [] → more ≡ map key_of_peer qs
  keyed_pushed keys more key ps qs p same is put added =
      put ∙ ap (λ k. keys ++ k ∷ []) same ∙ ap (λ ks. ks ++ key_of_peer p ∷ []) is ∙ sym (map-append key_of_peer ps (p ∷ [])) ∙ ap (map key_of_peer) (sym added)

-- all of them
pub front_end : {A : Type 0} (R : A → A → Type 0) (n len : ℕ) (old now rest : List A) → Front R n old now → length now ≤ n → len ≡ length now → AllZip R old (take len (now ++ rest))
front_end R n len old now rest f small e =
    subst (λ ys. AllZip R old ys) (sym (ap (λ k. take k (now ++ rest)) e ∙ take-append_seam now rest)) (front_all R n old now f small)

-- ---- what a peer keeps

zip_more : {A : Type 0} {R S : A → A → Type 0} → ((x y : A) → R x y → S x y) → (xs ys : List A) → AllZip R xs ys → AllZip S xs ys
zip_more to [] [] z = tt
zip_more to [] (y ∷ ys) z = absurd z
zip_more to (x ∷ xs) [] z = absurd z
zip_more to (x ∷ xs) (y ∷ ys) z = (to x y z.0, zip_more to xs ys z.1)

operator_at : (op : List ℕ) (shown : Bool) (r : Route) → (shown && is_operator_of op r) ≡ true → is_operator r ≡ true
operator_at op false r e = absurd (true≢false (sym e))
operator_at op true (Station o s) e = absurd (true≢false (sym e))
operator_at op true (Operator o) e = refl

operator_is : {T : Type 0} (op : List ℕ) (p : Peer T) → is_open_for op p ≡ true → is_operator_peer p ≡ true
operator_is op p e = operator_at op (is_open p.stage) p.route e

pub both : {P : Type 0} (b : Bool) → (b ≡ true → P) → (b ≡ false → P) → P
both true is isnt = is refl
both false is isnt = isnt refl

-- one that is no operator isn't an open connection of one
pub no_operator : {T : Type 0} (op : List ℕ) (p : Peer T) → is_operator_peer p ≡ false → is_open_for op p ≡ false
no_operator op p e = both (is_open_for op p) (λ is. absurd (true≢false (sym (operator_is op p is) ∙ e))) (λ isnt. isnt)

module _ {T : Type 0} (contents : T → Option (List ℕ)) where
  replaced_route : (p q : Peer T) → Replaced contents p q → q.route ≡ p.route
  replaced_route p q r = both (is_open p.stage) (λ e. ap (λ x. x.route) (r.while_open e).rest) (λ e. ap (λ x. x.route) (r.once_ended e))

  pub ended_route : (code : CloseCode) (cause : Cause) (p q : Peer T) → EndsWith contents code cause p q → q.route ≡ p.route
  ended_route code cause p q r = both (is_open p.stage) (λ e. ap (λ x. x.route) (r.while_open e).rest) (λ e. ap (λ x. x.route) (r.once_ended e))

  pub way_route : (op station : List ℕ) (p q : Peer T) → GivesWay contents op station p q → q.route ≡ p.route
  way_route op station p q w = both (is_station op station p.route) (λ e. replaced_route p q (w.same e)) (λ e. ap (λ x. x.route) (w.other e))

  pub heard_route : (op text : List ℕ) (p q : Peer T) → Hears contents op text p q → q.route ≡ p.route
  heard_route op text p q h = both (is_open_for op p) (λ e. ap (λ x. x.route) (h.own e).rest) (λ e. ap (λ x. x.route) (h.other e))

  -- a text that is none is any text
  pub for_all : (op : List ℕ) (text : Option (List ℕ)) (ps qs : List (Peer T)) → AllZip (λ p q. ForText text (λ t. Hears contents op t p q)) ps qs → ForText text (λ t. ToOperator contents op t ps qs)
  for_all op None ps qs z = λ t. zip_more (λ p q heard. heard t) ps qs z
  for_all op (Some t) ps qs z = z

  pub for_route : (op : List ℕ) (text : Option (List ℕ)) (p q : Peer T) → ForText text (λ t. Hears contents op t p q) → q.route ≡ p.route
  for_route op None p q h = heard_route op [] p q (h [])
  for_route op (Some t) p q h = heard_route op t p q h

  -- one that is no operator doesn't hear
  not_heard : (op text : List ℕ) (p : Peer T) → is_operator_peer p ≡ false → Hears contents op text p p
  not_heard op text p e = record { own = λ is. absurd (true≢false (sym (operator_is op p is) ∙ e)); other = λ _. refl }

  pub for_stays : (op : List ℕ) (text : Option (List ℕ)) (p : Peer T) → is_operator_peer p ≡ false → ForText text (λ t. Hears contents op t p p)
  for_stays op None p e = λ t. not_heard op t p e
  for_stays op (Some t) p e = not_heard op t p e

-- ---- the first open connection of a station

pub position_within : {X : Type 0} (f : X → Bool) (xs : List X) (r : Option ℕ) → r ≡ position f xs → IfSome r (λ n. n < length xs)
position_within f xs None e = tt
position_within f [] (Some n) e = absurd (cc)
position_within f (x ∷ xs) (Some n) e = (position-Some f (x ∷ xs) n x (sym e)).0

pub position_found : {X : Type 0} (f : X → Bool) (xs : List X) (r : Option ℕ) → r ≡ position f xs → IfSome r (λ n. (d : X) → f (get_or xs n d) ≡ true)
position_found f xs None e = tt
position_found f xs (Some n) e = λ d. (position-Some f xs n d (sym e)).1

pub none_passes : {X : Type 0} (f : X → Bool) (xs : List X) → position f xs ≡ None → list_any f xs ≡ false
none_passes f [] e = refl
none_passes f (x ∷ xs) e =
    let all : length (x ∷ xs) ≤ position_or_len f (x ∷ xs) = grind (arith, common_steps) in
    list_any_none f (x ∷ xs) (All-from_get_or (λ y. f y ≡ false) (x ∷ xs) x (λ i small. fails_before_first f (x ∷ xs) i x (omega (arith, small, all))))

pub position_missing : {X : Type 0} (f : X → Bool) (xs : List X) (r : Option ℕ) → r ≡ position f xs → IfNone r (list_any f xs ≡ false)
position_missing f xs (Some n) e = tt
position_missing f xs None e = none_passes f xs (sym e)

at_more : {A : Type 0} (R : A → A → Type 0) (P : A → Type 0) (n : ℕ) (xs ys : List A) → ((d : A) → P (get_or xs n d)) → At R n xs ys → At (λ x y. P x × R x y) n xs ys
at_more R P n [] ys p at = absurd at
at_more R P n (x ∷ xs) [] p at = absurd at
at_more R P zero (x ∷ xs) (y ∷ ys) p at = ((p x, at.0), at.1)
at_more R P (suc n) (x ∷ xs) (y ∷ ys) p at = (at.0, at_more R P n xs ys p at.1)

pub sent_at : {T : Type 0} (contents : T → Option (List ℕ)) (op station text : List ℕ) (n : ℕ) (ps qs : List (Peer T))
    → ((d : Peer T) → is_open_at op station (get_or ps n d) ≡ true) → At (Sent contents text) n ps qs → ToStation contents op station text ps qs
sent_at contents op station text n ps qs found at = inl (n, at_more (Sent contents text) (λ p. is_open_at op station p ≡ true) n ps qs found at)

pub to_nobody : {T : Type 0} (contents : T → Option (List ℕ)) (op station text : List ℕ) (ps : List (Peer T)) → list_any (is_open_at op station) ps ≡ false → ToStation contents op station text ps ps
to_nobody contents op station text ps e = inr (e, refl)

-- ---- one more peer

pub pushed : {T : Type 0} (places more : List ℕ) (ps qs : List (Peer T)) (p : Peer T) → places ≡ places_of is_operator_peer 0 ps → qs ≡ ps ++ p ∷ []
    → more ≡ (if is_operator_peer p then places ++ length ps ∷ [] else places) → more ≡ places_of is_operator_peer 0 qs
pushed places more ps qs p e is put =
    put
    ∙ (elim (is_operator_peer p) as (λ b. (if b then places ++ length ps ∷ [] else places) ≡ places_of is_operator_peer 0 ps ++ (if b then (0 + length ps) ∷ [] else [])) [
      | true ↦ ap (λ x. x ++ length ps ∷ []) e ∙ ap (λ k. places_of is_operator_peer 0 ps ++ k ∷ []) (let same : length ps ≡ 0 + length ps = omega arith in same)
      | false ↦ e ∙ sym (append-nil (places_of is_operator_peer 0 ps))
    ])
    ∙ sym (places_more is_operator_peer 0 ps p)
    ∙ ap (places_of is_operator_peer 0) (sym is)
