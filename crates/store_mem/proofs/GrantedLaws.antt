-- What is granted to an operator, by the grants of its group.
use Rattle.std.specs.Prelude.{◌≡◌, ℕ, zero, suc, ◌+◌, ◌-◌, length, List, [], ◌∷◌, ◌++◌, Bool, true, false, cond, ◌&&◌, map, filter, find, take, drop, Option, Some, None, IsSome}
use Rattle.std.specs.List.{AllByRecursion, filter_map, cons_option, slice_get}
use Rattle.std.specs.List.Sorted.{IsStrictlySortedBy}
use Rattle.std.specs.Option.{option_map}
use Rattle.std.specs.Ordering.{ordering_then, is_eq}
use Rattle.std.specs.Str.{bytes_eq}
use Rattle.std.specs.declared.cmp.Ordering.{Ordering}
use Rattle.std.specs.declared.cmp.Ordering.TheVariants.{Less, Equal, Greater}
use Rattle.std.proofs.Common.{refl, sym, ◌∙◌, ap, subst}
use Rattle.std.proofs.Math.Seq.{take-length}
use Rattle.std.proofs.lemmas.Bool.{true≢false}
use Rattle.std.proofs.lemmas.Cmp.{tied_itself, nat_list_cmp_total}
use Rattle.std.proofs.lemmas.List.{take-append-drop, length-drop}
use Rattle.std.proofs.lemmas.Map.Text.{is_eq-slice_cmp}
use Rattle.hub_rows.specs.declared.grant_row.GrantRow.{GrantRow}
use Rattle.hub_rows.specs.declared.tag_row.TagRow.{TagRow}
use Rattle.hub_rows.specs.Grants.{granted_until, entry_by, info_by, grants_of_key, granted_in, granted_tag_in}
use Rattle.hub_rows.specs.Keyed.{text_cmp, key_cmp, by_key, own, first}
use Rattle.hub_rows.specs.Places.{AllBelow, AllAbove, IsFoundAt, IsGapAt}
use Rattle.hub_rows.specs.Rows.{grant_key}
use Rattle.hub_rows.specs.WellFormed.{IsGoodGrant, AreGood}
use Rattle.hub_rows.specs.Tags.{tag_in, own_tag_in}
use Rattle.hub_rows.proofs.GrantLaws.{received-of_key}
use Rattle.hub_rows.proofs.ListLaws.{all-filter, all-weaker, keys_total, same_text}
use Rattle.hub_rows.proofs.PlaceLaws.{all-back, find-none, find-passed}
use Rattle.hub_rows.proofs.Steps.{drop_here}
use Rattle.store_mem.specs.declared.received.Received.{Received}
use Rattle.store_mem.specs.Received.{receiver_key, least_key, IsFrom, AreReceived}
use Rattle.store_mem.proofs.ReceivedLaws.{received-of}
use Rattle.hub_rows.proofs.FilterLaws.{all-both, all-front}

-- ---- all that is granted

filter_map-map : {R S T : Type 0} (f : S → Option T) (g : R → S) (xs : List R) → filter_map (λ r. f (g r)) xs ≡ filter_map f (map g xs)
filter_map-map f g [] = refl
filter_map-map f g (x ∷ xs) = ap (cons_option (f (g x))) (filter_map-map f g xs)

pub granted-received : (a : List ℕ) (tags : List TagRow) (rs : List Received) (gs : List GrantRow) → AreReceived rs gs → filter_map (λ r. entry_by tags r.grant) (own (λ r. r.grant.to) a rs) ≡ granted_in a tags gs
unfolding granted_in
granted-received a tags rs gs are = filter_map-map (entry_by tags) (λ r. r.grant) (own (λ r. r.grant.to) a rs) ∙ ap (filter_map (entry_by tags)) (received-of a rs gs are)

-- ---- the first grant of a key

first-map : {R S : Type 0} (f : R → S) (t : S → Bool) (xs : List R) → first (filter t (map f xs)) ≡ option_map f (find (λ r. t (f r)) xs)
first-map f t [] = refl
first-map f t (x ∷ xs) =
    elim (t (f x)) as (λ b. first (cond b (f x ∷ filter t (map f xs)) (filter t (map f xs))) ≡ option_map f (cond b (Some x) (find (λ r. t (f r)) xs))) [
      | true ↦ refl
      | false ↦ first-map f t xs
    ]

-- of rows of which each gives an entry, the first gives the first
first-some : {R S : Type 0} (f : R → Option S) (xs : List R) → AllByRecursion (λ r. IsSome (f r)) xs → (r : R) → first xs ≡ Some r → first (filter_map f xs) ≡ f r
first-some f [] all r is = absurd (cc)
first-some {R} {S} f (x ∷ xs) all r is =
    elim (f x) as (λ o. IsSome o → first (cons_option o (filter_map f xs)) ≡ o) [
      | None ↦ λ some. absurd (true≢false (sym some))
      | Some y ↦ λ some. refl
    ] all.0 ∙ ap f (same x r is)
  where
    same : (x r : R) → Some x ≡ Some r → x ≡ r
    same x r e = cc

first-none : {R S : Type 0} (f : R → Option S) (xs : List R) → first xs ≡ None → first (filter_map f xs) ≡ None
first-none f [] is = refl
first-none f (x ∷ xs) is = absurd (cc)

some-info : (tags : List TagRow) (g : GrantRow) → IsGoodGrant tags g → IsSome (info_by tags g)
some-info tags g good = mapped (granted_until g.op g.until) (own_tag_in g.op g.key tags) (mapped _ (tag_in g.op g.key tags) good.tag)
  where
    mapped : {R S : Type 0} (f : R → S) (o : Option R) → IsSome o → IsSome (option_map f o)
    mapped f None some = some
    mapped f (Some x) some = refl

module _ (a key : List ℕ) (tags : List TagRow) (rs : List Received) (gs : List GrantRow) (are : AreReceived rs gs) (good : AreGood grant_key (IsGoodGrant tags) gs) where
  abbrev is_first : Option Received
  is_first = find (λ r. bytes_eq r.grant.key key) (own (λ r. r.grant.to) a rs)

  first-of_key : first (grants_of_key a key gs) ≡ option_map (λ r. r.grant) is_first
  first-of_key =
      ap first (sym (received-of_key a key gs good.sorted))
      ∙ ap (λ xs. first (filter (λ g. bytes_eq g.key key) xs)) (sym (received-of a rs gs are))
      ∙ first-map (λ r. r.grant) (λ g. bytes_eq g.key key) (own (λ r. r.grant.to) a rs)

  pub granted_tag-some : (r : Received) → is_first ≡ Some r → granted_tag_in a key tags gs ≡ info_by tags r.grant
  unfolding granted_tag_in
  granted_tag-some r is =
      first-some (info_by tags) (grants_of_key a key gs)
      (all-filter (λ g. IsSome (info_by tags g)) (λ g. bytes_eq g.to a && bytes_eq g.key key) gs (all-weaker (IsGoodGrant tags) (λ g. IsSome (info_by tags g)) (some-info tags) gs good.each))
      r.grant (first-of_key ∙ ap (option_map (λ r. r.grant)) is)

  pub granted_tag-none : is_first ≡ None → granted_tag_in a key tags gs ≡ None
  unfolding granted_tag_in
  granted_tag-none is = first-none (info_by tags) (grants_of_key a key gs) (first-of_key ∙ ap (option_map (λ r. r.grant)) is)

-- ---- its place

tied : (s t : List ℕ) → s ≡ t → text_cmp s t ≡ Equal
tied s t e = ap (text_cmp s) (sym e) ∙ tied_itself nat_list_cmp_total s

no_less : (s : List ℕ) → ordering_then (text_cmp s []) Equal ≡ Less → ⊥
no_less [] e = absurd (cc)
no_less (c ∷ s) e = absurd (cc)

under : (o p : Ordering) → is_eq o ≡ false → ordering_then o p ≡ Less → o ≡ Less
under Less p apart below = refl
under Equal p apart below = absurd (true≢false apart)
under Greater p apart below = below

sorted-drop : (rows : List Received) (i : ℕ) → IsStrictlySortedBy (by_key receiver_key) rows → IsStrictlySortedBy (by_key receiver_key) (drop i rows)
unfolding IsStrictlySortedBy
sorted-drop [] zero sorted = sorted
sorted-drop [] (suc i) sorted = tt
sorted-drop (r ∷ rows) zero sorted = sorted
sorted-drop (r ∷ rows) (suc i) sorted = sorted-drop rows i sorted.1

-- from the place of a key on no row is below it
module _ (k : List (List ℕ)) where
  not_above : (xs : List Received) → AllAbove receiver_key k xs → AllByRecursion (IsFrom k) xs
  not_above xs all = all-weaker (λ r. key_cmp (receiver_key r) k ≡ Greater) (IsFrom k) (λ r e low. (let clash : Less ≡ Greater = sym low ∙ e in absurd (cc))) xs all

  pub from-found : (rows : List Received) (i : ℕ) → IsFoundAt receiver_key k rows i → AllByRecursion (IsFrom k) (drop i rows)
  from-found rows i at =
      let here : IsFrom k at.row = (λ low. (let clash : Less ≡ Equal = sym low ∙ ap (λ l. key_cmp l k) at.has_key ∙ tied_itself keys_total k in absurd (cc))) in
      subst (AllByRecursion (IsFrom k)) (sym (drop_here rows i at.row at.in_range (sym (at.here at.row)))) (here, not_above (drop (i + 1) rows) at.after)

  pub from-gap : (rows : List Received) (i : ℕ) → IsGapAt receiver_key k rows i → AllByRecursion (IsFrom k) (drop i rows)
  from-gap rows i gap = not_above (drop i rows) gap.after

module _ (a key : List ℕ) where
  abbrev pub sought : Received → Bool
  sought r = bytes_eq r.grant.key key

  abbrev IsMine : Received → Type 0
  IsMine r = r.grant.to ≡ a

  below-other : (r : Received) → IsMine r → key_cmp (receiver_key r) (least_key a key) ≡ Less → sought r ≡ false
  below-other r m below =
      elim (sought r) as (λ t. sought r ≡ t → t ≡ false) [
        | true ↦ λ e. absurd (no_less r.grant.op (sym (λ i. ordering_then (tied r.grant.to a m i) (ordering_then (tied r.grant.key key (same_text r.grant.key key e) i) (ordering_then (text_cmp r.grant.op []) Equal))) ∙ below))
        | false ↦ λ e. refl
      ] refl

  -- behind a grant of another tag that is not below there is none of the tag
  none-behind : (x : Received) → IsMine x → sought x ≡ false → (key_cmp (receiver_key x) (least_key a key) ≡ Less → ⊥) → (y : Received) → IsMine y → by_key receiver_key x y ≡ Less → sought y ≡ false
  none-behind x mx other from y my below =
      elim (sought y) as (λ t. sought y ≡ t → t ≡ false) [
        | true ↦ λ e.
            let apart : is_eq (text_cmp x.grant.key key) ≡ false = is_eq-slice_cmp x.grant.key key ∙ other in
            let rest : Ordering = ordering_then (text_cmp x.grant.op y.grant.op) Equal in
            let low : ordering_then (text_cmp x.grant.key key) rest ≡ Less = sym ((λ i. ordering_then (tied x.grant.to y.grant.to (mx ∙ sym my) i) (ordering_then (text_cmp x.grant.key (same_text y.grant.key key e i)) rest))) ∙ below in
            absurd (from (λ i. ordering_then (tied x.grant.to a mx i) (ordering_then (under (text_cmp x.grant.key key) rest apart low i) (ordering_then (text_cmp x.grant.op []) Equal))))
        | false ↦ λ e. refl
      ] refl

  -- the first row from the least key on, if it is of the tag
  abbrev pub if_sought : Option Received → Option Received
  if_sought None = None
  if_sought (Some r) = cond (sought r) (Some r) None

  pub find-from : (xs : List Received) → IsStrictlySortedBy (by_key receiver_key) xs → AllByRecursion IsMine xs → AllByRecursion (IsFrom (least_key a key)) xs → find sought xs ≡ if_sought (slice_get xs 0)
  unfolding IsStrictlySortedBy
  find-from [] sorted mine from = refl
  find-from (x ∷ xs) sorted mine from =
      elim (sought x) as (λ t. sought x ≡ t → cond t (Some x) (find sought xs) ≡ cond t (Some x) None) [
        | true ↦ λ e. refl
        | false ↦ λ e. find-none sought xs (all-weaker (λ y. IsMine y × (by_key receiver_key x y ≡ Less)) (λ y. sought y ≡ false) (λ y at. none-behind x mine.0 e from.0 y at.0 at.1) xs (all-both IsMine (λ y. by_key receiver_key x y ≡ Less) xs mine.1 sorted.0))
      ] refl

  find-behind : (front back : List Received) → AllByRecursion IsMine front → AllBelow receiver_key (least_key a key) front → find sought (front ++ back) ≡ find sought back
  find-behind front back mine below = find-passed sought front back (all-weaker (λ r. IsMine r × (key_cmp (receiver_key r) (least_key a key) ≡ Less)) (λ r. sought r ≡ false) (λ r at. below-other r at.0 at.1) front (all-both IsMine (λ r. key_cmp (receiver_key r) (least_key a key) ≡ Less) front mine below))

  -- where the rows before an index are below the least key and those from it on are not
  pub find-parted : (rows : List Received) (i : ℕ) → IsStrictlySortedBy (by_key receiver_key) rows → AllByRecursion IsMine rows → AllBelow receiver_key (least_key a key) (take i rows) → AllByRecursion (IsFrom (least_key a key)) (drop i rows) → find sought rows ≡ if_sought (slice_get (take (length rows - i) (drop i rows)) 0)
  find-parted rows i sorted mine before from =
      let split = take-append-drop i rows in
      let parts = subst (AllByRecursion IsMine) (sym split) mine in
      ap (find sought) (sym split) ∙ find-behind (take i rows) (drop i rows) (all-front IsMine (take i rows) (drop i rows) parts) before
      ∙ find-from (drop i rows) (sorted-drop rows i sorted) (all-back IsMine (take i rows) (drop i rows) parts) from
      ∙ ap (λ xs. if_sought (slice_get xs 0)) (sym (ap (λ n. take n (drop i rows)) (sym (length-drop i rows)) ∙ take-length (drop i rows)))
