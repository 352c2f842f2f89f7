-- What a meter value names, and that what may be forgotten has been stopped.
use Rattle.std.specs.Prelude.{◌≡◌, ◌&&◌, ◌==◌, ℕ, ℤ, pos, negsuc, unsigned_abs, ◌-◌, ◌≤◌, min, List, [], ◌∷◌, length, map, find, take, Bool, true, false, cond, Option, None, Some, is_none, suc, zero}
use Rattle.std.proofs.Common.{refl, sym, ◌∙◌, ap, subst, arith}
use Rattle.std.proofs.lemmas.Bool.{and_parts, true≢false}
use Rattle.std.proofs.lemmas.Bool.Decides.{Decides-eqb, Decides-int_eq}
use Rattle.std.proofs.lemmas.Cmp.{tied_itself}
use Rattle.std.specs.List.{AllByRecursion}
use Rattle.std.specs.List.Sorted.{IsStrictlySortedBy}
use Rattle.std.specs.Int.{is_negative}
use Rattle.std.specs.Option.{option_map}
use Rattle.std.specs.Ordering.{int_eq, is_eq}
use Rattle.std.specs.Str.{bytes_eq}
use Rattle.std.specs.declared.cmp.Ordering.TheVariants.{Less}
use Rattle.hub_rows.specs.declared.forgettable.TheConstants.{MAX_FORGOTTEN}
use Rattle.hub_rows.specs.declared.meter_value_row.MeterValueRow.{MeterValueRow}
use Rattle.hub_rows.specs.declared.tx_row.Stop.{Stop}
use Rattle.hub_rows.specs.declared.tx_row.TxRow.{TxRow}
use Rattle.hub_rows.specs.Changes.{IsStopped}
use Rattle.hub_rows.specs.Forgetting.{is_before, is_over, named_tx, numbers_of, oldest, old_meter_values, old_rows, old_txs, tx_goes, until_readings}
use Rattle.hub_rows.specs.Keyed.{by_key, key_cmp}
use Rattle.hub_rows.specs.Lookups.{forgettable_in}
use Rattle.hub_rows.specs.MeterValues.{meter_values_in}
use Rattle.hub_rows.specs.Rows.{Rows, tx_key}
use Rattle.hub_rows.specs.Transactions.{is_tx, state_of, tx_in, txs_in}
use Rattle.hub_rows.specs.WellFormed.{WellFormedRows}
use Rattle.hub_rows.proofs.FilterLaws.{all-passed}
use Rattle.hub_rows.proofs.ListLaws.{all-weaker, keys_total, same_text, three_parts}

-- ---- lists

all-take : {R : Type 0} (P : R → Type 0) (n : ℕ) (rs : List R) → AllByRecursion P rs → AllByRecursion P (take n rs)
all-take P zero rs all = tt
all-take P (suc n) [] all = tt
all-take P (suc n) (x ∷ xs) all = (all.0, all-take P n xs all.1)

-- no more are taken than are there
pub take-least : {R : Type 0} (n : ℕ) (rs : List R) → take (min (length rs) n) rs ≡ take n rs
take-least zero rs =
    let none : min (length rs) 0 ≡ 0 = omega arith in
    ap (λ m. take m rs) none
take-least (suc n) [] =
    let none : min 0 (suc n) ≡ 0 = omega arith in
    ap (λ m. take m []) none
take-least (suc n) (x ∷ xs) =
    let less : min (suc (length xs)) (suc n) ≡ suc (min (length xs) n) = omega arith in
    ap (λ m. take m (x ∷ xs)) less ∙ ap (λ ys. x ∷ ys) (take-least n xs)

-- `until_readings` gives a prefix
pub until-few : (n : ℕ) (rows : List MeterValueRow) → length (until_readings n rows) ≤ length rows
until-few zero rows = omega arith
until-few (suc n) [] = omega arith
until-few (suc n) (r ∷ rs) = let few = until-few (suc n - length r.value.sampled) rs in omega (arith, few)

pub until-front : (n : ℕ) (rows : List MeterValueRow) → take (length (until_readings n rows)) rows ≡ until_readings n rows
until-front zero rows = refl
until-front (suc n) [] = refl
until-front (suc n) (r ∷ rs) = ap (λ l. r ∷ l) (until-front (suc n - length r.value.sampled) rs)

all-map : {R S : Type 0} (P : S → Type 0) (f : R → S) (rs : List R) → AllByRecursion (λ r. P (f r)) rs → AllByRecursion P (map f rs)
all-map P f [] all = tt
all-map P f (x ∷ xs) all = (all.0, all-map P f xs all.1)

pub all-two : {R : Type 0} (P Q S : R → Type 0) → ((r : R) → P r → Q r → S r) → (rs : List R) → AllByRecursion P rs → AllByRecursion Q rs → AllByRecursion S rs
all-two P Q S joins [] first second = tt
all-two P Q S joins (x ∷ xs) first second = (joins x first.0 second.0, all-two P Q S joins xs first.1 second.1)

-- each row of a list in order is found by its key
pub each-found : {R : Type 0} (key : R → List (List ℕ)) (has_key : R → R → Bool) → ((t r : R) → has_key t r ≡ is_eq (key_cmp (key r) (key t))) → (rs : List R) → IsStrictlySortedBy (by_key key) rs → AllByRecursion (λ t. find (has_key t) rs ≡ Some t) rs
unfolding IsStrictlySortedBy
each-found key has_key by_its [] sorted = tt
each-found key has_key by_its (x ∷ xs) sorted = (
  ap (λ c. cond c (Some x) (find (has_key x) xs)) (by_its x x ∙ ap is_eq (tied_itself keys_total (key x))),
  all-two (λ y. by_key key x y ≡ Less) (λ y. find (has_key y) xs ≡ Some y) (λ y. find (has_key y) (x ∷ xs) ≡ Some y)
      (λ y below there. ap (λ c. cond c (Some x) (find (has_key y) xs)) (by_its y x ∙ ap is_eq below) ∙ there) xs sorted.0 (each-found key has_key by_its xs sorted.1),
)

-- ---- transactions

-- a transaction with the key of another
abbrev pub has_key_of : TxRow → TxRow → Bool
has_key_of t r = bytes_eq r.op t.op && is_tx t.station t.number r

by_its_key : (t r : TxRow) → has_key_of t r ≡ is_eq (key_cmp (tx_key r) (tx_key t))
by_its_key t r = three_parts r.op r.station t.op t.station r.number t.number

has_stop : (until : ℕ) (o : Option Stop) → is_before until o ≡ true → is_none o ≡ false
has_stop until None is = absurd (true≢false (sym is))
has_stop until (Some stop) is = refl

-- the transactions that may go are stopped
old-stopped : (b station : List ℕ) (until : ℕ) (rows : Rows) → WellFormedRows rows → AllByRecursion (λ t. IsStopped (tx_in b station t.number rows.transactions)) (old_txs until (txs_in b station rows.transactions) (meter_values_in b station None rows.meter_values))
old-stopped b station until rows good =
    let txs = rows.transactions in
    let mine = txs_in b station txs in
    let values = meter_values_in b station None rows.meter_values in
    let Here : TxRow → Type 0 = λ t. (find (has_key_of t) txs ≡ Some t) × (bytes_eq t.op b && bytes_eq t.station station ≡ true) in
    let here : AllByRecursion Here mine = all-passed (λ t. find (has_key_of t) txs ≡ Some t) (λ t. bytes_eq t.op b && bytes_eq t.station station) txs (each-found tx_key has_key_of by_its_key txs good.transactions.sorted) in
    all-weaker (λ t. Here t × (tx_goes until values t ≡ true)) (λ t. IsStopped (tx_in b station t.number txs))
    (λ t it.
    let of_station = and_parts (bytes_eq t.op b) (bytes_eq t.station station) it.0.1 in
    let over = and_parts (is_over until t) _ it.1 in
    subst (λ o. IsStopped (tx_in o station t.number txs)) (same_text t.op b of_station.0)
    (subst (λ s. IsStopped (tx_in t.op s t.number txs)) (same_text t.station station of_station.1)
    (subst (λ o. IsStopped (option_map state_of o)) (sym it.0.0) (has_stop until t.stop over.0)))) (old_txs until mine values)
    (all-passed Here (tx_goes until values) (oldest mine) (all-take Here MAX_FORGOTTEN (take (length mine - 1) mine) (all-take Here (length mine - 1) mine here)))

pub forgettable-stopped : (b station : List ℕ) (until : ℕ) (rows : Rows) → WellFormedRows rows → AllByRecursion (λ n. IsStopped (tx_in b station n rows.transactions)) (numbers_of (forgettable_in b station until rows)).transactions
forgettable-stopped b station until rows good = go (old_meter_values until (txs_in b station rows.transactions) values)
  where
    values : List MeterValueRow
    values = meter_values_in b station None rows.meter_values

    go : (gone : List MeterValueRow) → AllByRecursion (λ n. IsStopped (tx_in b station n rows.transactions)) (numbers_of (old_rows until (txs_in b station rows.transactions) values gone)).transactions
    go [] = all-map (λ n. IsStopped (tx_in b station n rows.transactions)) (λ t. t.number) (old_txs until (txs_in b station rows.transactions) values) (old-stopped b station until rows good)
    go (v ∷ vs) = tt

-- ---- what a reading names

-- a number as it is sent names the row with that number
sent-number : (n m : ℕ) → int_eq (pos n) (pos m) ≡ (m == n)
sent-number n m = both-or-none (int_eq (pos n) (pos m)) (m == n)
    (λ e. (Decides-eqb m n).1 (sym (same-pos n m ((Decides-int_eq (pos n) (pos m)).0 e))))
    (λ e. (Decides-int_eq (pos n) (pos m)).1 (ap pos (sym ((Decides-eqb m n).0 e))))
  where
    same-pos : (n m : ℕ) → pos n ≡ pos m → n ≡ m
    same-pos n m e = cc

    both-or-none : (a b : Bool) → (a ≡ true → b ≡ true) → (b ≡ true → a ≡ true) → a ≡ b
    both-or-none true b to from = sym (to refl)
    both-or-none false true to from = from refl
    both-or-none false false to from = refl

named-number : (n : ℕ) (txs : List TxRow) → named_tx (Some (pos n)) txs ≡ find (λ t. t.number == n) txs
named-number n [] = refl
named-number n (t ∷ txs) = λ i. cond (sent-number n t.number i) (Some t) (named-number n txs i)

not-negative : (n : ℕ) → is_negative (pos n) ≡ false
not-negative n = grind arith

pub named-some : (id : ℤ) (txs : List TxRow) → is_negative id ≡ false → named_tx (Some id) txs ≡ find (λ t. t.number == unsigned_abs id) txs
named-some (pos n) txs sign = named-number n txs
named-some (negsuc n) txs sign = absurd (true≢false sign)

-- a negative number names none
pub named-none : (id : ℤ) (txs : List TxRow) → is_negative id ≡ true → named_tx (Some id) txs ≡ None
named-none (pos n) txs sign = absurd (true≢false (sym sign ∙ not-negative n))
named-none (negsuc n) [] sign = refl
named-none (negsuc n) (t ∷ txs) sign = named-none (negsuc n) txs sign
