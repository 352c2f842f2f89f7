-- Grants in the order of their receivers: the same as in the order of their owners.
use Rattle.std.specs.Prelude.{◌≡◌, ℕ, List, [], ◌∷◌, Bool, true, false, cond, not, ◌&&◌, map, filter}
use Rattle.std.specs.Ordering.{match_ordering}
use Rattle.std.specs.Str.{bytes_eq}
use Rattle.std.specs.declared.cmp.Ordering.{Ordering}
use Rattle.std.specs.declared.cmp.Ordering.TheVariants.{Less, Equal, Greater}
use Rattle.std.proofs.Common.{refl, sym, ◌∙◌, ap}
use Rattle.std.proofs.Math.Bool.{and_comm}
use Rattle.std.proofs.lemmas.Cmp.{tied_itself}
use Rattle.hub_rows.specs.declared.grant_row.GrantRow.{GrantRow}
use Rattle.hub_rows.specs.Grants.{is_grant, grants_to, received_key}
use Rattle.hub_rows.specs.Keyed.{key_cmp, by_key, put, own, without}
use Rattle.hub_rows.specs.Rows.{grant_key}
use Rattle.hub_rows.proofs.GrantLaws.{second, third}
use Rattle.hub_rows.proofs.ListLaws.{RespectsTies, by_key_total, keys_total, same_key, ties_key, head}
use Rattle.hub_rows.proofs.OrderLaws.{in_order-put, filter-in_order}
use Rattle.store_mem.specs.declared.received.Received.{Received}
use Rattle.store_mem.specs.Received.{receiver_key, is_of, AreReceived}

-- ---- lists of which another is made

pub map-filter : {R S : Type 0} (f : R → S) (t : S → Bool) (xs : List R) → map f (filter (λ r. t (f r)) xs) ≡ filter t (map f xs)
map-filter f t [] = refl
map-filter f t (x ∷ xs) =
    elim (t (f x)) as (λ b. map f (cond b (x ∷ filter (λ r. t (f r)) xs) (filter (λ r. t (f r)) xs)) ≡ cond b (f x ∷ filter t (map f xs)) (filter t (map f xs))) [
      | true ↦ ap (λ ys. f x ∷ ys) (map-filter f t xs)
      | false ↦ map-filter f t xs
    ]

pub map-put : {R S : Type 0} (f : R → S) (cmp : S → S → Ordering) (r : R) (xs : List R) → map f (put (λ x y. cmp (f x) (f y)) r xs) ≡ put cmp (f r) (map f xs)
map-put f cmp r [] = refl
map-put f cmp r (x ∷ xs) =
    elim (cmp (f r) (f x)) as (λ o. map f (match_ordering o (r ∷ x ∷ xs) (r ∷ xs) (x ∷ put (λ x y. cmp (f x) (f y)) r xs)) ≡ match_ordering o (f r ∷ f x ∷ map f xs) (f r ∷ map f xs) (f x ∷ put cmp (f r) (map f xs))) [
      | Less ↦ refl
      | Equal ↦ refl
      | Greater ↦ ap (λ ys. f x ∷ ys) (map-put f cmp r xs)
    ]

-- ---- edits

abbrev grant_of : Received → GrantRow
grant_of r = r.grant

-- the two keys tell the same rows apart
same_grant : (x y : GrantRow) → by_key grant_key x y ≡ Equal → by_key received_key x y ≡ Equal
same_grant x y e =
    let same = same_key (grant_key x) (grant_key y) e in
    (λ i. key_cmp (third (same i) ∷ second (same i) ∷ head (same i) ∷ []) (received_key y)) ∙ tied_itself keys_total (received_key y)

same_received : (x y : GrantRow) → by_key received_key x y ≡ Equal → by_key grant_key x y ≡ Equal
same_received x y e =
    let same = same_key (received_key x) (received_key y) e in
    (λ i. key_cmp (third (same i) ∷ second (same i) ∷ head (same i) ∷ []) (grant_key y)) ∙ tied_itself keys_total (grant_key y)

pub received-put : (rs : List Received) (gs : List GrantRow) (r : Received) → AreReceived rs gs → AreReceived (put (by_key receiver_key) r rs) (put (by_key grant_key) r.grant gs)
received-put rs gs r are =
    map-put grant_of (by_key received_key) r rs ∙ ap (put (by_key received_key) r.grant) are
    ∙ sym (in_order-put (by_key received_key) (by_key_total received_key) (by_key grant_key) same_grant same_received r.grant gs)

-- what passes a test of the key
received-filter : (t : GrantRow → Bool) → RespectsTies (by_key received_key) t → (rs : List Received) (gs : List GrantRow) → AreReceived rs gs → AreReceived (filter (λ r. t r.grant) rs) (filter t gs)
received-filter t ties rs gs are =
    map-filter grant_of t rs ∙ ap (filter t) are ∙ filter-in_order (by_key received_key) (by_key_total received_key) t ties gs

turned : (a b c : Bool) → (a && (b && c)) ≡ (c && (b && a))
turned true true true = refl
turned true true false = refl
turned true false true = refl
turned true false false = refl
turned false true true = refl
turned false true false = refl
turned false false true = refl
turned false false false = refl

pub received-without : (b key to : List ℕ) (rs : List Received) (gs : List GrantRow) → AreReceived rs gs → AreReceived (without (λ r. r.grant.to) to (is_of key b) rs) (without (λ r. r.op) b (is_grant key to) gs)
received-without b key to rs gs are =
    (λ i. map grant_of (filter (λ r. not (turned (bytes_eq r.grant.to to) (bytes_eq r.grant.key key) (bytes_eq r.grant.op b) i)) rs))
    ∙ received-filter (λ g. not (bytes_eq g.op b && is_grant key to g)) (ties_key received_key (λ k. not (bytes_eq (third k) b && (bytes_eq (second k) key && bytes_eq (head k) to)))) rs gs are

pub received-without_tag : (b key : List ℕ) (rs : List Received) (gs : List GrantRow) → AreReceived rs gs → AreReceived (filter (λ r. not (is_of key b r)) rs) (without (λ r. r.op) b (λ g. bytes_eq g.key key) gs)
received-without_tag b key rs gs are =
    (λ i. map grant_of (filter (λ r. not (and_comm (bytes_eq r.grant.key key) (bytes_eq r.grant.op b) i)) rs))
    ∙ received-filter (λ g. not (bytes_eq g.op b && bytes_eq g.key key)) (ties_key received_key (λ k. not (bytes_eq (third k) b && bytes_eq (second k) key))) rs gs are

-- ---- what is granted to one operator

pub received-of : (a : List ℕ) (rs : List Received) (gs : List GrantRow) → AreReceived rs gs → AreReceived (own (λ r. r.grant.to) a rs) (grants_to a gs)
received-of a rs gs are = received-filter (λ g. bytes_eq g.to a) (ties_key received_key (λ k. bytes_eq (head k) a)) rs gs are
