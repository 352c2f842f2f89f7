-- The open transactions under each name, among all.
use Rattle.std.specs.Prelude.{◌≡◌, ℕ, ◌<◌, ◌≤◌, max, List, [], ◌∷◌, length, Bool, true, false, cond, ◌&&◌, ◌||◌, ◌==◌, not, Option, Some, None, map, filter}
use Rattle.std.specs.List.{AllByRecursion}
use Rattle.std.specs.List.Sorted.{IsStrictlySortedBy}
use Rattle.std.specs.Option.{option_map}
use Rattle.std.specs.Ordering.{match_ordering, ordering_then, is_eq}
use Rattle.std.specs.Str.{bytes_eq}
use Rattle.std.specs.declared.cmp.Ordering.{Ordering}
use Rattle.std.specs.declared.cmp.Ordering.TheVariants.{Less, Equal, Greater}
use Rattle.std.specs.Cmp.{IsTotalOrder}
use Rattle.std.proofs.Common.{refl, sym, ◌∙◌, ap, arith}
use Rattle.std.proofs.Math.Nat.{le-max_left, le-max_right}
use Rattle.std.proofs.lemmas.Bool.Decides.{Decides-eqb}
use Rattle.std.proofs.lemmas.Bool.{and_parts, true≢false}
use Rattle.std.proofs.lemmas.Cmp.{tied_itself, nat_list_cmp_total}
use Rattle.std.proofs.lemmas.List.Kept.{IsStrictlySortedBy-filter}
use Rattle.hub_rows.specs.declared.tx_row.TxRow.{TxRow}
use Rattle.hub_rows.specs.declared.tx_row.TxKey.{TxKey}
use Rattle.hub_rows.specs.declared.tx_row.Stop.{Stop}
use Rattle.hub_rows.specs.Changes.{with_stop}
use Rattle.hub_rows.specs.Keyed.{text_cmp, by_key, key_cmp, put, changed, found, those, greatest}
use Rattle.hub_rows.specs.Rows.{tx_key}
use Rattle.hub_rows.specs.Transactions.{counts, is_tx, is_left_out, is_used_in}
use Rattle.hub_rows.proofs.ListLaws.{by_key_total, all-filter, all-weaker, put-front, put-agree, same_key, same_text, text_itself, two_parts, head, keys_total, and-true}
use Rattle.store_mem.proofs.DroppedLaws.{all-passed}
use Rattle.store_mem.specs.declared.named_groups.NamedGroup.{NamedGroup}
use Rattle.store_mem.specs.declared.open.OpenRow.{OpenRow}
use Rattle.store_mem.specs.NamedGroups.{rows_at, AreInPlace}
use Rattle.store_mem.specs.Open.{open_key, open_of, is_open_tx, is_excepted, has_other, opens_of, AreOpens}
use Rattle.store_mem.proofs.ReceivedLaws.{map-filter, map-put}
use Rattle.store_mem.proofs.StationRowsLaws.{second}
use Rattle.hub_rows.proofs.FilterLaws.{all-both, filter-alike, filter-all}

-- ---- whether one is not left out

pub and_false : (b : Bool) → b && false ≡ false
and_false true = refl
and_false false = refl

same_left_out : (except : Option TxKey) (r : TxRow) → is_left_out except r ≡ is_excepted except (open_of r)
same_left_out None r = refl
same_left_out (Some k) r = refl

-- a tag is in use by a transaction that is not left out
pub used-other : (b key : List ℕ) (except : Option TxKey) (txs : List TxRow) → is_used_in b key except txs ≡ has_other except (opens_of counts (λ r. r.start.id.key) b key txs)
used-other b key except [] = refl
used-other b key except (r ∷ txs) =
    let rest : List TxRow = those (λ x. x.op) b (λ x. counts x && bytes_eq x.start.id.key key) txs in
    let more : is_used_in b key except txs ≡ has_other except (map open_of rest) = used-other b key except txs in
    step (bytes_eq r.op b) (counts r) (bytes_eq r.start.id.key key) rest more
  where
    step : (o s k : Bool) (rest : List TxRow) → is_used_in b key except txs ≡ has_other except (map open_of rest)
        → ((o && (s && (k && not (is_left_out except r)))) || is_used_in b key except txs) ≡ has_other except (map open_of (cond (o && (s && k)) (r ∷ rest) rest))
    step true true true rest more = λ i. not (same_left_out except r i) || more i
    step true true false rest more = more
    step true false k rest more = more
    step false s k rest more = more

-- of two, one is not left out
excepted_key : (except : Option TxKey) (x y : OpenRow) → is_excepted except x ≡ true → is_excepted except y ≡ true → by_key open_key x y ≡ Equal
excepted_key None x y ex ey = absurd (true≢false (sym ex))
excepted_key (Some k) x y ex ey =
    let to_x : open_key x ≡ k.station ∷ (k.number ∷ []) ∷ [] = its_key x ex in
    let to_y : open_key y ≡ k.station ∷ (k.number ∷ []) ∷ [] = its_key y ey in
    (λ i. key_cmp (to_x i) (to_y i)) ∙ tied_itself keys_total (k.station ∷ (k.number ∷ []) ∷ [])
  where
    its_key : (x : OpenRow) → is_open_tx k.station k.number x ≡ true → open_key x ≡ k.station ∷ (k.number ∷ []) ∷ []
    its_key x e =
        let both = and_parts (bytes_eq x.station k.station) (x.number == k.number) e in
        λ i. same_text x.station k.station both.0 i ∷ ((Decides-eqb x.number k.number).0 both.1 i ∷ []) ∷ []

two-other : (except : Option TxKey) (x y : OpenRow) (rest : List OpenRow) → IsStrictlySortedBy (by_key open_key) (x ∷ y ∷ rest) → has_other except (x ∷ y ∷ rest) ≡ true
unfolding IsStrictlySortedBy
two-other except x y rest sorted =
    elim (is_excepted except x) as (λ t. is_excepted except x ≡ t → (not t || (not (is_excepted except y) || has_other except rest)) ≡ true) [
      | true ↦ λ ex. elim (is_excepted except y) as (λ t. is_excepted except y ≡ t → (not t || has_other except rest) ≡ true) [
        | true ↦ λ ey. (let clash : Equal ≡ Less = sym (excepted_key except x y ex ey) ∙ sorted.0.0 in absurd (cc))
        | false ↦ λ ey. refl
      ] refl
      | false ↦ λ ex. refl
    ] refl

pub many-other : (except : Option TxKey) (opens : List OpenRow) → 2 ≤ length opens → IsStrictlySortedBy (by_key open_key) opens → has_other except opens ≡ true
many-other except [] more sorted = absurd (omega (arith, more))
many-other except (x ∷ []) more sorted = absurd (omega (arith, more))
many-other except (x ∷ y ∷ rest) more sorted = two-other except x y rest sorted

-- ---- a transaction that begins

abbrev pub IsNew : TxRow → List TxRow → Type 0
IsNew r txs = AllByRecursion (λ x. by_key tx_key r x ≡ Equal → ⊥) txs

third : List (List ℕ) → ℕ
third [] = 0
third (a ∷ []) = 0
third (a ∷ b ∷ []) = 0
third (a ∷ b ∷ [] ∷ k) = 0
third (a ∷ b ∷ (n ∷ ns) ∷ k) = n

pub is_new : (r : TxRow) (txs : List TxRow) → greatest (map (λ x. x.number) (those (λ x. x.op) r.op (λ x. bytes_eq x.station r.station) txs)) < r.number → IsNew r txs
unfolding third
is_new r [] below = tt
is_new r (x ∷ txs) below =
    elim (bytes_eq x.op r.op && bytes_eq x.station r.station) as (λ t. (bytes_eq x.op r.op && bytes_eq x.station r.station) ≡ t
    → greatest (map (λ y. y.number) (cond t (x ∷ those (λ y. y.op) r.op (λ y. bytes_eq y.station r.station) txs) (those (λ y. y.op) r.op (λ y. bytes_eq y.station r.station) txs))) < r.number → IsNew r (x ∷ txs)) [
      | true ↦ λ mine low.
          let rest = greatest (map (λ y. y.number) (those (λ y. y.op) r.op (λ y. bytes_eq y.station r.station) txs)) in
          let here : x.number ≤ max x.number rest = le-max_left x.number rest in
          let there : rest ≤ max x.number rest = le-max_right x.number rest in
          ((λ e. let same : r.number ≡ x.number = ap third (same_key (tx_key r) (tx_key x) e) in omega (arith, here, same, low)), is_new r txs (omega (arith, there, low)))
      | false ↦ λ other low.
          ((λ e. let same : tx_key x ≡ tx_key r = sym (same_key (tx_key r) (tx_key x) e) in true≢false (sym (mine_by_key x r same) ∙ other)), is_new r txs low)
    ] refl below
  where
    mine_by_key : (x r : TxRow) → tx_key x ≡ tx_key r → (bytes_eq x.op r.op && bytes_eq x.station r.station) ≡ true
    mine_by_key x r same = two_parts x.op x.station r.op r.station ∙ ap is_eq ((λ i. key_cmp (head (same i) ∷ second (same i) ∷ []) (r.op ∷ r.station ∷ [])) ∙ tied_itself keys_total (r.op ∷ r.station ∷ []))

-- a new row is put into what passes a test, if it passes
filter-put_new : {R : Type 0} (cmp : R → R → Ordering) → IsTotalOrder cmp → (p : R → Bool) (r : R) (xs : List R) → IsStrictlySortedBy cmp xs → AllByRecursion (λ x. cmp r x ≡ Equal → ⊥) xs → filter p (put cmp r xs) ≡ cond (p r) (put cmp r (filter p xs)) (filter p xs)
unfolding IsStrictlySortedBy
filter-put_new cmp order p r [] sorted new = refl
filter-put_new cmp order p r (x ∷ xs) sorted new =
    elim (cmp r x) as (λ o. cmp r x ≡ o → filter p (match_ordering o (r ∷ x ∷ xs) (r ∷ xs) (x ∷ put cmp r xs)) ≡ cond (p r) (put cmp r (filter p (x ∷ xs))) (filter p (x ∷ xs))) [
      | Less ↦ λ e. ap (λ ys. cond (p r) ys (filter p (x ∷ xs)))
          (sym (put-front cmp r (filter p (x ∷ xs)) (all-filter (λ y. cmp r y ≡ Less) p (x ∷ xs) (e, all-weaker (λ y. cmp x y ≡ Less) (λ y. cmp r y ≡ Less) (λ y l. order.trans r x y e l) xs sorted.0))))
      | Equal ↦ λ e. absurd (new.0 e)
      | Greater ↦ λ e. ap (λ ys. cond (p x) (x ∷ ys) ys) (filter-put_new cmp order p r xs sorted.1 new.1)
          ∙ elim (p x) as (λ b. cond b (x ∷ cond (p r) (put cmp r (filter p xs)) (filter p xs)) (cond (p r) (put cmp r (filter p xs)) (filter p xs)) ≡ cond (p r) (put cmp r (cond b (x ∷ filter p xs) (filter p xs))) (cond b (x ∷ filter p xs) (filter p xs))) [
            | true ↦ elim (p r) as (λ t. x ∷ cond t (put cmp r (filter p xs)) (filter p xs) ≡ cond t (put cmp r (x ∷ filter p xs)) (x ∷ filter p xs)) [
              | true ↦ sym (ap (λ o. match_ordering o (r ∷ x ∷ filter p xs) (r ∷ filter p xs) (x ∷ put cmp r (filter p xs))) e)
              | false ↦ refl
            ]
            | false ↦ refl
          ]
    ] refl

tied : (s t : List ℕ) → s ≡ t → text_cmp s t ≡ Equal
tied s t e = ap (text_cmp s) (sym e) ∙ tied_itself nat_list_cmp_total s

-- rows of one operator compare by what is left of their keys
of_one : (b : List ℕ) (r x : TxRow) → r.op ≡ b → x.op ≡ b → by_key tx_key r x ≡ by_key open_key (open_of r) (open_of x)
of_one b r x its theirs = ap (λ o. ordering_then o (by_key open_key (open_of r) (open_of x))) (tied r.op x.op (its ∙ sym theirs))

map-all : (P : OpenRow → Type 0) (rs : List TxRow) → AllByRecursion (λ r. P (open_of r)) rs → AllByRecursion P (map open_of rs)
map-all P [] all = tt
map-all P (r ∷ rs) all = (all.0, map-all P rs all.1)

map-sorted : (b : List ℕ) (rs : List TxRow) → AllByRecursion (λ r. r.op ≡ b) rs → IsStrictlySortedBy (by_key tx_key) rs → IsStrictlySortedBy (by_key open_key) (map open_of rs)
unfolding IsStrictlySortedBy
map-sorted b [] mine sorted = tt
map-sorted b (r ∷ rs) mine sorted = (
  map-all (λ o. by_key open_key (open_of r) o ≡ Less) rs (all-weaker (λ x. (x.op ≡ b) × (by_key tx_key r x ≡ Less)) (λ x. by_key open_key (open_of r) (open_of x) ≡ Less)
      (λ x at. sym (of_one b r x mine.0 at.0) ∙ at.1) rs (all-both (λ x. x.op ≡ b) (λ x. by_key tx_key r x ≡ Less) rs mine.1 sorted.0)),
  map-sorted b rs mine.1 sorted.1,
)

module _ (stands : TxRow → Bool) (name : TxRow → List ℕ) where
  abbrev is : List ℕ → List ℕ → TxRow → Bool
  is b n r = bytes_eq r.op b && (stands r && bytes_eq (name r) n)

  all-mine : (b n : List ℕ) (txs : List TxRow) → AllByRecursion (λ r. r.op ≡ b) (filter (is b n) txs)
  all-mine b n txs = all-weaker (λ r. is b n r ≡ true) (λ r. r.op ≡ b) (λ r e. same_text r.op b (and_parts (bytes_eq r.op b) (stands r && bytes_eq (name r) n) e).0) (filter (is b n) txs) (all-passed (is b n) txs)

  pub sorted-opens : (b n : List ℕ) (txs : List TxRow) → IsStrictlySortedBy (by_key tx_key) txs → IsStrictlySortedBy (by_key open_key) (opens_of stands name b n txs)
  sorted-opens b n txs sorted = map-sorted b (filter (is b n) txs) (all-mine b n txs) (IsStrictlySortedBy-filter (by_key tx_key) (is b n) txs sorted)

  pub opens-put : (r : TxRow) (txs : List TxRow) → IsStrictlySortedBy (by_key tx_key) txs → IsNew r txs → (b n : List ℕ)
      → opens_of stands name b n (put (by_key tx_key) r txs) ≡ cond (is b n r) (put (by_key open_key) (open_of r) (opens_of stands name b n txs)) (opens_of stands name b n txs)
  opens-put r txs sorted new b n =
      let rs : List TxRow = filter (is b n) txs in
      ap (map open_of) (filter-put_new (by_key tx_key) (by_key_total tx_key) (is b n) r txs sorted new)
      ∙ elim (is b n r) as (λ t. is b n r ≡ t → map open_of (cond t (put (by_key tx_key) r rs) rs) ≡ cond t (put (by_key open_key) (open_of r) (map open_of rs)) (map open_of rs)) [
        | true ↦ λ e.
            let its : r.op ≡ b = same_text r.op b (and_parts (bytes_eq r.op b) (stands r && bytes_eq (name r) n) e).0 in
            ap (map open_of) (put-agree (by_key tx_key) (λ x y. by_key open_key (open_of x) (open_of y)) r rs (all-weaker (λ x. x.op ≡ b) (λ x. by_key tx_key r x ≡ by_key open_key (open_of r) (open_of x)) (λ x theirs. of_one b r x its theirs) rs (all-mine b n txs)))
            ∙ map-put open_of (by_key open_key) r rs
        | false ↦ λ e. refl
      ] refl

  -- a transaction is put under its name, if it stands
  pub opens-started : (o m : List ℕ) (t : Bool) (r : TxRow) (s : OpenRow) (txs now : List TxRow) (old new : List (NamedGroup OpenRow)) → IsStrictlySortedBy (by_key tx_key) txs → IsNew r txs → now ≡ put (by_key tx_key) r txs
      → r.op ≡ o → name r ≡ m → s ≡ open_of r → stands r ≡ t → AreOpens stands name old txs → AreInPlace new
      → ((b n : List ℕ) → rows_at b n new ≡ cond (bytes_eq o b && (t && bytes_eq m n)) (put (by_key open_key) s (rows_at b n old)) (rows_at b n old))
      → AreOpens stands name new now
  opens-started o m t r s txs now old new sorted is_new more its_op its_name its_row its_stand are in_place rows = record {
    in_place = in_place;
    each = λ b n. rows b n
        ∙ (λ i. cond (bytes_eq (sym its_op i) b && (sym its_stand i && bytes_eq (sym its_name i) n)) (put (by_key open_key) (its_row i) (are.each b n i)) (are.each b n i))
        ∙ sym (ap (opens_of stands name b n) more ∙ opens-put r txs sorted is_new b n);
  }

  -- ---- a transaction that ends

  module _ (ends : (stop : Stop) (r : TxRow) → stands (with_stop stop r) ≡ false) (o st : List ℕ) (m : ℕ) (stop : Stop) where
    -- the transaction that ends
    abbrev ending : TxRow → Bool
    ending r = bytes_eq r.op o && is_tx st m r

    ended : (b n : List ℕ) (txs : List TxRow) → filter (is b n) (changed (λ r. r.op) o (is_tx st m) (with_stop stop) txs) ≡ filter (λ r. not (ending r)) (filter (is b n) txs)
    ended b n [] = refl
    ended b n (r ∷ txs) =
        let left : List TxRow = filter (is b n) (changed (λ r. r.op) o (is_tx st m) (with_stop stop) txs) in
        let more : left ≡ filter (λ r. not (ending r)) (filter (is b n) txs) = ended b n txs in
        elim (ending r) as (λ t. ending r ≡ t → filter (is b n) (cond t (with_stop stop r) r ∷ changed (λ r. r.op) o (is_tx st m) (with_stop stop) txs) ≡ filter (λ r. not (ending r)) (filter (is b n) (r ∷ txs))) [
          | true ↦ λ e.
              ap (λ t. cond t (with_stop stop r ∷ left) left) (ap (λ t. bytes_eq r.op b && (t && bytes_eq (name (with_stop stop r)) n)) (ends stop r) ∙ and_false (bytes_eq r.op b)) ∙ more
              ∙ elim (is b n r) as (λ t. filter (λ r. not (ending r)) (filter (is b n) txs) ≡ filter (λ r. not (ending r)) (cond t (r ∷ filter (is b n) txs) (filter (is b n) txs))) [
                | true ↦ sym (ap (λ t. cond (not t) (r ∷ filter (λ r. not (ending r)) (filter (is b n) txs)) (filter (λ r. not (ending r)) (filter (is b n) txs))) e)
                | false ↦ refl
              ]
          | false ↦ λ e. elim (is b n r) as (λ t. cond t (r ∷ left) left ≡ filter (λ r. not (ending r)) (cond t (r ∷ filter (is b n) txs) (filter (is b n) txs))) [
            | true ↦ ap (λ rs. r ∷ rs) more ∙ sym (ap (λ t. cond (not t) (r ∷ filter (λ r. not (ending r)) (filter (is b n) txs)) (filter (λ r. not (ending r)) (filter (is b n) txs))) e)
            | false ↦ more
          ]
        ] refl

    -- it stands under the name m alone
    pub opens-ended : (k : List ℕ) (txs : List TxRow) → AllByRecursion (λ r. ending r ≡ true → name r ≡ k) txs → (b n : List ℕ)
        → opens_of stands name b n (changed (λ r. r.op) o (is_tx st m) (with_stop stop) txs) ≡ cond (bytes_eq o b && bytes_eq k n) (filter (λ s. not (is_open_tx st m s)) (opens_of stands name b n txs)) (opens_of stands name b n txs)
    opens-ended k txs named b n =
        let rs : List TxRow = filter (is b n) txs in
        let facts = all-both (λ r. is b n r ≡ true) (λ r. ending r ≡ true → name r ≡ k) rs (all-passed (is b n) txs) (all-filter (λ r. ending r ≡ true → name r ≡ k) (is b n) txs named) in
        ap (map open_of) (ended b n txs)
        ∙ elim (bytes_eq o b && bytes_eq k n) as (λ t. (bytes_eq o b && bytes_eq k n) ≡ t → map open_of (filter (λ r. not (ending r)) rs) ≡ cond t (filter (λ s. not (is_open_tx st m s)) (map open_of rs)) (map open_of rs)) [
          | true ↦ λ e.
              let same : o ≡ b = same_text o b (and_parts (bytes_eq o b) (bytes_eq k n) e).0 in
              ap (map open_of) (filter-alike (λ r. not (ending r)) (λ r. not (is_open_tx st m (open_of r))) rs
              (all-weaker (λ r. r.op ≡ b) (λ r. not (ending r) ≡ not (is_open_tx st m (open_of r))) (λ r its. ap (λ t. not (t && is_tx st m r)) (text_itself r.op o (its ∙ sym same))) rs (all-mine b n txs)))
              ∙ map-filter open_of (λ s. not (is_open_tx st m s)) rs
          | false ↦ λ e. ap (map open_of) (filter-all (λ r. not (ending r)) rs (all-weaker (λ r. (is b n r ≡ true) × (ending r ≡ true → name r ≡ k)) (λ r. not (ending r) ≡ true) (λ r at. other r e at.0 at.1) rs facts))
        ] refl
      where
        other : (r : TxRow) → (bytes_eq o b && bytes_eq k n) ≡ false → is b n r ≡ true → (ending r ≡ true → name r ≡ k) → not (ending r) ≡ true
        other r e its it =
            elim (ending r) as (λ t. ending r ≡ t → not t ≡ true) [
              | true ↦ λ ends_now.
                  let mine = and_parts (bytes_eq r.op b) (stands r && bytes_eq (name r) n) its in
                  let named_so = and_parts (stands r) (bytes_eq (name r) n) mine.1 in
                  let op_is : o ≡ b = sym (same_text r.op o (and_parts (bytes_eq r.op o) (is_tx st m r) ends_now).0) ∙ same_text r.op b mine.0 in
                  let name_is : k ≡ n = sym (it ends_now) ∙ same_text (name r) n named_so.1 in
                  absurd (true≢false (sym (λ i. text_itself o b op_is i && text_itself k n name_is i) ∙ e))
              | false ↦ λ e2. refl
            ] refl

-- ---- the key of its tag

-- one transaction alone has its key
pub named-found : (o st : List ℕ) (m : ℕ) (k : List ℕ) (txs : List TxRow) → IsStrictlySortedBy (by_key tx_key) txs → option_map (λ r. r.start.id.key) (found (λ r. r.op) o (is_tx st m) txs) ≡ Some k
    → AllByRecursion (λ r. (bytes_eq r.op o && is_tx st m r) ≡ true → r.start.id.key ≡ k) txs
unfolding IsStrictlySortedBy
named-found o st m k [] sorted it_is = tt
named-found o st m k (x ∷ txs) sorted it_is =
    elim (bytes_eq x.op o && is_tx st m x) as (λ t. (bytes_eq x.op o && is_tx st m x) ≡ t → option_map (λ r. r.start.id.key) (cond t (Some x) (found (λ r. r.op) o (is_tx st m) txs)) ≡ Some k
    → AllByRecursion (λ r. (bytes_eq r.op o && is_tx st m r) ≡ true → r.start.id.key ≡ k) (x ∷ txs)) [
      | true ↦ λ e here. ((λ again. some_same x.start.id.key k here), all-weaker (λ y. by_key tx_key x y ≡ Less) (λ r. (bytes_eq r.op o && is_tx st m r) ≡ true → r.start.id.key ≡ k) (λ y below it. absurd (apart x y e it below)) txs sorted.0)
      | false ↦ λ e behind. ((λ it. absurd (true≢false (sym it ∙ e))), named-found o st m k txs sorted.1 behind)
    ] refl it_is
  where
    some_same : (x y : List ℕ) → Some x ≡ Some y → x ≡ y
    some_same x y e = cc

    apart : (x y : TxRow) → (bytes_eq x.op o && is_tx st m x) ≡ true → (bytes_eq y.op o && is_tx st m y) ≡ true → by_key tx_key x y ≡ Less → ⊥
    apart x y ex ey below = (let clash : Equal ≡ Less = sym ((λ i. key_cmp (its_key x ex i) (its_key y ey i)) ∙ tied_itself keys_total (o ∷ st ∷ (m ∷ []) ∷ [])) ∙ below in absurd (cc))
      where
        its_key : (x : TxRow) → (bytes_eq x.op o && is_tx st m x) ≡ true → tx_key x ≡ o ∷ st ∷ (m ∷ []) ∷ []
        its_key x e =
            let all = and_parts (bytes_eq x.op o) (is_tx st m x) e in
            let rest = and_parts (bytes_eq x.station st) (x.number == m) all.1 in
            λ i. same_text x.op o all.0 i ∷ same_text x.station st rest.0 i ∷ ((Decides-eqb x.number m).0 rest.1 i ∷ []) ∷ []

-- where there is none, none ends
pub none-found : (o st : List ℕ) (m : ℕ) (txs : List TxRow) → option_map (λ r. r.start.id.key) (found (λ r. r.op) o (is_tx st m) txs) ≡ None → AllByRecursion (λ r. (bytes_eq r.op o && is_tx st m r) ≡ false) txs
none-found o st m [] it_is = tt
none-found o st m (x ∷ txs) it_is =
    elim (bytes_eq x.op o && is_tx st m x) as (λ t. (bytes_eq x.op o && is_tx st m x) ≡ t → option_map (λ r. r.start.id.key) (cond t (Some x) (found (λ r. r.op) o (is_tx st m) txs)) ≡ None
    → AllByRecursion (λ r. (bytes_eq r.op o && is_tx st m r) ≡ false) (x ∷ txs)) [
      | true ↦ λ e here. absurd (cc)
      | false ↦ λ e behind. (e, none-found o st m txs behind)
    ] refl it_is

-- ---- its place

pub open_agrees : (st : List ℕ) (m : ℕ) (o : OpenRow) → is_open_tx st m o ≡ is_eq (key_cmp (open_key o) (st ∷ (m ∷ []) ∷ []))
open_agrees st m o = ap (λ t. bytes_eq o.station st && t) (sym (and-true (o.number == m))) ∙ two_parts o.station (o.number ∷ []) st (m ∷ [])

-- a transaction of an operator stands under it
pub at_operator : (o st : List ℕ) (m : ℕ) (txs : List TxRow) → AllByRecursion (λ r. (bytes_eq r.op o && is_tx st m r) ≡ true → r.op ≡ o) txs
at_operator o st m [] = tt
at_operator o st m (r ∷ txs) = ((λ e. same_text r.op o (and_parts (bytes_eq r.op o) (is_tx st m r) e).0), at_operator o st m txs)
