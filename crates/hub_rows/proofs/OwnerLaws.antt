-- The transactions with which owners of tags are kept: they began Accepted, and an edit leaves them so.
use Rattle.std.specs.Prelude.{◌≡◌, ℕ, ◌<◌, ◌≤◌, max, List, [], ◌∷◌, Bool, true, false, cond, ◌&&◌, ◌==◌, not, filter, find, map, Option, None, Some, is_some, IsSome}
use Rattle.std.specs.Str.{bytes_eq}
use Rattle.std.specs.Ordering.{is_eq, match_ordering}
use Rattle.std.specs.declared.cmp.Ordering.{Ordering}
use Rattle.std.specs.declared.cmp.Ordering.TheVariants.{Less, Equal, Greater}
use Rattle.std.proofs.Common.{refl, sym, ◌∙◌, ap, subst, arith, ⊎_elim}
use Rattle.std.proofs.lemmas.Bool.{and_parts, true≢false}
use Rattle.std.proofs.lemmas.Bool.Decides.{nat_tests}
use Rattle.std.proofs.lemmas.Cmp.{tied_itself}
use Rattle.hub_rows.specs.declared.tx_row.Stop.{Stop}
use Rattle.hub_rows.specs.declared.tx_row.TxRow.{TxRow}
use Rattle.hub_rows.specs.Changes.{with_stop}
use Rattle.hub_rows.specs.Forgetting.{has_number, is_one_of}
use Rattle.hub_rows.specs.Keyed.{by_key, changed, found, greatest, key_cmp, put, those, without}
use Rattle.hub_rows.specs.Rows.{tx_key}
use Rattle.hub_rows.specs.Transactions.{AreNext, is_accepted, is_tx, last_tx_in}
use Rattle.hub_rows.specs.WellFormed.{began_accepted}
use Rattle.hub_rows.proofs.ListLaws.{RespectsTies, keys_total, same_key, same_text, three_parts}

-- ---- what is found after an edit

-- a row is put that does not pass: what is found stays
find-put_other : {R : Type 0} (cmp : R → R → Ordering) (t : R → Bool) → RespectsTies cmp t → (r : R) (xs : List R) → t r ≡ false → find t (put cmp r xs) ≡ find t xs
find-put_other cmp t ties r [] fails = ap (λ b. cond b (Some r) None) fails
find-put_other cmp t ties r (x ∷ xs) fails =
    elim (cmp r x) as (λ o. cmp r x ≡ o → find t (match_ordering o (r ∷ x ∷ xs) (r ∷ xs) (x ∷ put cmp r xs)) ≡ find t (x ∷ xs)) [
      | Less ↦ λ e. ap (λ b. cond b (Some r) (find t (x ∷ xs))) fails
      | Equal ↦ λ e. ap (λ b. cond b (Some r) (find t xs)) fails ∙ sym (ap (λ b. cond b (Some x) (find t xs)) (sym (ties r x e) ∙ fails))
      | Greater ↦ λ e. ap (λ o. cond (t x) (Some x) o) (find-put_other cmp t ties r xs fails)
    ] refl

none_here : {R : Type 0} (b : Bool) (x : R) (o : Option R) → cond b (Some x) o ≡ None → (b ≡ false) × (o ≡ None)
none_here true x o none = absurd (cc)
none_here false x o none = (refl, none)

-- a row that passes is put where none does: it is found
find-put_new : {R : Type 0} (cmp : R → R → Ordering) (t : R → Bool) (r : R) (xs : List R) → t r ≡ true → find t xs ≡ None → find t (put cmp r xs) ≡ Some r
find-put_new cmp t r [] passes none = ap (λ b. cond b (Some r) None) passes
find-put_new cmp t r (x ∷ xs) passes none =
    let apart = none_here (t x) x (find t xs) none in
    elim (cmp r x) as (λ o. find t (match_ordering o (r ∷ x ∷ xs) (r ∷ xs) (x ∷ put cmp r xs)) ≡ Some r) [
      | Less ↦ ap (λ b. cond b (Some r) (find t (x ∷ xs))) passes
      | Equal ↦ ap (λ b. cond b (Some r) (find t xs)) passes
      | Greater ↦ ap (λ b. cond b (Some x) (find t (put cmp r xs))) apart.0 ∙ find-put_new cmp t r xs passes apart.1
    ]

-- none of those that pass is dropped: what is found stays
pub find-kept : {R : Type 0} (t d : R → Bool) → ((r : R) → t r ≡ true → d r ≡ false) → (xs : List R) → find t (filter (λ r. not (d r)) xs) ≡ find t xs
find-kept t d apart [] = refl
find-kept t d apart (x ∷ xs) =
    let left = filter (λ r. not (d r)) xs in
    let rest = find-kept t d apart xs in
    elim (t x) as (λ b. t x ≡ b → find t (cond (not (d x)) (x ∷ left) left) ≡ cond b (Some x) (find t xs)) [
      | true ↦ λ is. ap (λ c. find t (cond (not c) (x ∷ left) left)) (apart x is) ∙ ap (λ b. cond b (Some x) (find t left)) is
      | false ↦ λ no. elim (d x) as (λ c. find t (cond (not c) (x ∷ left) left) ≡ find t xs) [ true ↦ rest | false ↦ ap (λ b. cond b (Some x) (find t left)) no ∙ rest ]
    ] refl

-- ---- numbers of transactions

-- a transaction of a station has at most its last number
pub found-under : (b station : List ℕ) (n : ℕ) (txs : List TxRow) → IsSome (found (λ t. t.op) b (is_tx station n) txs) → n ≤ last_tx_in b station txs
found-under b station n [] some = absurd (true≢false (sym some))
found-under b station n (t ∷ txs) some =
    let rest = those (λ x. x.op) b (λ x. bytes_eq x.station station) txs in
    elim (bytes_eq t.op b) as (λ p. IsSome (cond (p && (bytes_eq t.station station && t.number == n)) (Some t) (found (λ t. t.op) b (is_tx station n) txs)) → n ≤ greatest (map (λ x. x.number) (cond (p && bytes_eq t.station station) (t ∷ rest) rest))) [
      | true ↦ elim (bytes_eq t.station station) as (λ q. IsSome (cond (q && t.number == n) (Some t) (found (λ t. t.op) b (is_tx station n) txs)) → n ≤ greatest (map (λ x. x.number) (cond q (t ∷ rest) rest))) [
        | true ↦ elim (t.number == n) as (λ r. (t.number == n) ≡ r → IsSome (cond r (Some t) (found (λ t. t.op) b (is_tx station n) txs)) → n ≤ max t.number (last_tx_in b station txs)) [
          | true ↦ λ e here. let same : t.number ≡ n = grind (arith, nat_tests, e) in omega (arith, same)
          | false ↦ λ e later. let low = found-under b station n txs later in omega (arith, low)
        ] refl
        | false ↦ found-under b station n txs
      ]
      | false ↦ found-under b station n txs
    ] some

-- a number that is next is above the last
pub next-above : (last n : ℕ) → AreNext last n 1 → last < n
next-above last n next = ⊎_elim (λ none. absurd (omega (arith, none))) (λ follow. let one = follow.from_one in ⊎_elim (λ zero. omega (arith, zero, one)) (λ after. omega (arith, after)) follow.next) next

-- ---- transactions that began Accepted

-- a transaction that is there, and that began Accepted
abbrev pub BeganAccepted : Option TxRow → Type 0
BeganAccepted o = began_accepted o ≡ true

-- each that did is still there
abbrev pub KeepsBegun : List TxRow → List TxRow → Type 0
KeepsBegun old new = (b station : List ℕ) (number : ℕ) → BeganAccepted (found (λ t. t.op) b (is_tx station number) old) → BeganAccepted (found (λ t. t.op) b (is_tx station number) new)

pub began_some : (o : Option TxRow) → BeganAccepted o → IsSome o
began_some None began = absurd (true≢false (sym began))
began_some (Some r) began = refl

-- a transaction with a new number is put
pub keeps-new : (r : TxRow) (txs : List TxRow) → last_tx_in r.op r.station txs < r.number → KeepsBegun txs (put (by_key tx_key) r txs)
keeps-new r txs above b station number began =
    let t : TxRow → Bool = (λ x. bytes_eq x.op b && is_tx station number x) in
    let by : (x : TxRow) → t x ≡ is_eq (key_cmp (tx_key x) (b ∷ station ∷ (number ∷ []) ∷ [])) = (λ x. three_parts x.op x.station b station x.number number) in
    let ties : RespectsTies (by_key tx_key) t = (λ x y e. by x ∙ ap (λ k. is_eq (key_cmp k (b ∷ station ∷ (number ∷ []) ∷ []))) (same_key (tx_key x) (tx_key y) e) ∙ sym (by y)) in
    elim (t r) as (λ c. t r ≡ c → BeganAccepted (find t (put (by_key tx_key) r txs))) [
      | true ↦ λ is.
          let parts = and_parts (bytes_eq r.op b) (is_tx station number r) is in
          let of_station = and_parts (bytes_eq r.station station) (r.number == number) parts.1 in
          let same : r.number ≡ number = grind (arith, nat_tests, of_station.1) in
          let over : last_tx_in b station txs < r.number = subst (λ s. last_tx_in b s txs < r.number) (same_text r.station station of_station.0) (subst (λ o. last_tx_in o r.station txs < r.number) (same_text r.op b parts.0) above) in
          let under = found-under b station number txs (began_some (find t txs) began) in
          absurd (omega (arith, same, over, under))
      | false ↦ λ no. subst BeganAccepted (sym (find-put_other (by_key tx_key) t ties r txs no)) began
    ] refl

-- the one that is put is found
pub found-new : (r : TxRow) (txs : List TxRow) → last_tx_in r.op r.station txs < r.number → found (λ t. t.op) r.op (is_tx r.station r.number) (put (by_key tx_key) r txs) ≡ Some r
found-new r txs above =
    let t : TxRow → Bool = (λ x. bytes_eq x.op r.op && is_tx r.station r.number x) in
    let passes : t r ≡ true = three_parts r.op r.station r.op r.station r.number r.number ∙ ap is_eq (tied_itself keys_total (tx_key r)) in
    find-put_new (by_key tx_key) t r txs passes (elim (find t txs) as (λ o. find t txs ≡ o → o ≡ None) [
      | None ↦ λ e. refl
      | Some y ↦ λ e. let under = found-under r.op r.station r.number txs (ap is_some e) in absurd (omega (arith, above, under))
    ] refl)

then_began : (b : Bool) (x y : TxRow) (o p : Option TxRow) → y.start.status ≡ x.start.status → (BeganAccepted o → BeganAccepted p) → BeganAccepted (cond b (Some x) o) → BeganAccepted (cond b (Some y) p)
then_began true x y o p same there began = ap is_accepted same ∙ began
then_began false x y o p same there began = there began

-- some are stopped
pub keeps-stopped : (c : List ℕ) (test : TxRow → Bool) (stop : Stop) (txs : List TxRow) → KeepsBegun txs (changed (λ r. r.op) c test (with_stop stop) txs)
keeps-stopped c test stop [] b station number began = began
keeps-stopped c test stop (x ∷ xs) b station number began =
    let t : TxRow → Bool = (λ x. bytes_eq x.op b && is_tx station number x) in
    let left = changed (λ r. r.op) c test (with_stop stop) xs in
    let there = keeps-stopped c test stop xs b station number in
    elim (bytes_eq x.op c && test x) as (λ y. BeganAccepted (cond (t (cond y (with_stop stop x) x)) (Some (cond y (with_stop stop x) x)) (find t left))) [
      | true ↦ then_began (t x) x (with_stop stop x) (find t xs) (find t left) refl there began
      | false ↦ then_began (t x) x x (find t xs) (find t left) refl there began
    ]

-- one that is not forgotten is still there
pub began-kept : (c name : List ℕ) (numbers : List ℕ) (txs : List TxRow) (b station : List ℕ) (number : ℕ) → bytes_eq b c && (bytes_eq station name && has_number numbers number) ≡ false
    → BeganAccepted (found (λ t. t.op) b (is_tx station number) txs) → BeganAccepted (found (λ t. t.op) b (is_tx station number) (without (λ r. r.op) c (is_one_of (λ r. r.station) (λ r. r.number) name numbers) txs))
began-kept c name numbers txs b station number other began =
    subst BeganAccepted (sym (find-kept (λ x. bytes_eq x.op b && is_tx station number x) (λ x. bytes_eq x.op c && is_one_of (λ r. r.station) (λ r. r.number) name numbers x)
    (λ x is.
    let parts = and_parts (bytes_eq x.op b) (is_tx station number x) is in
    let of_station = and_parts (bytes_eq x.station station) (x.number == number) parts.1 in
    let same : x.number ≡ number = grind (arith, nat_tests, of_station.1) in
    (λ i. bytes_eq (same_text x.op b parts.0 i) c && (bytes_eq (same_text x.station station of_station.0 i) name && has_number numbers (same i))) ∙ other) txs)) began
