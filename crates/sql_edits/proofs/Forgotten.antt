-- What a station's history is without rows of several numbers.
use Rattle.std.proofs.Common.{◌≡◌, ◌∙◌, ◌&&◌, ◌||◌, ◌==◌, ◌∷◌, ℕ, nat_le, pos, Bool, true, false, List, [], arith, ap, cond, filter, not, refl, subst}
use Rattle.std.specs.Str.{bytes_eq}
use Rattle.std.proofs.lemmas.Bool.Decides.{nat_tests}
use Rattle.sqlite_trees.specs.Tree.{Trees}
use Rattle.sqlite_value.specs.declared.value.Value.TheVariants.{Int, Text}
use Rattle.hub_rows.specs.declared.meter_value_row.MeterValueRow.{MeterValueRow}
use Rattle.hub_rows.specs.declared.tx_row.TxOwnerRow.{TxOwnerRow}
use Rattle.hub_rows.specs.declared.tx_row.TxRow.{TxRow}
use Rattle.hub_rows.specs.Forgetting.{has_number}
use Rattle.hub_rows.specs.Keyed.{without}
use Rattle.hub_rows.specs.Rows.{Rows}
use Rattle.hub_rows.proofs.FilterLaws.{all-these, filter-all}
use Rattle.sql_rows.specs.Kept.{IsMade}
use Rattle.sql_rows.specs.TypedTables.{rows_of}
use Rattle.sql_rows.proofs.StoreLemmas.{Means}
use Rattle.sql_rows.proofs.TxTables.{drops_meter_values, drops_tx_owners, drops_txs}
use Rattle.sql_edits.specs.Forget.{drop_text, dropped}
use Rattle.sql_edits.specs.declared.forget.HistoryTable.{HistoryTable}
use Rattle.sql_edits.specs.declared.forget.HistoryTable.TheVariants.{MeterValues, Transactions, Owners}

-- ---- one test after another

kept : {X : Type 0} (f : X → Bool) (x : X) (xs : List X) (b : Bool) → filter f (cond b (x ∷ xs) xs) ≡ cond (b && f x) (x ∷ filter f xs) (filter f xs)
kept f x xs true = refl
kept f x xs false = refl

filter_twice : {X : Type 0} (f g : X → Bool) (xs : List X) → filter f (filter g xs) ≡ filter (λ x. g x && f x) xs
filter_twice f g [] = refl
filter_twice f g (x ∷ xs) = kept f x (filter g xs) (g x) ∙ ap (λ l. cond (g x && f x) (x ∷ l) l) (filter_twice f g xs)

neither : (a s p q : Bool) → not (a && (s && p)) && not (a && (s && q)) ≡ not (a && (s && (p || q)))
neither false s p q = refl
neither true false p q = refl
neither true true true q = refl
neither true true false q = refl

without_twice : {R : Type 0} (op station : R → List ℕ) (number : R → ℕ) (b s : List ℕ) (p q : ℕ → Bool) (rows : List R)
    → without op b (λ r. bytes_eq (station r) s && q (number r)) (without op b (λ r. bytes_eq (station r) s && p (number r)) rows) ≡ without op b (λ r. bytes_eq (station r) s && (p (number r) || q (number r))) rows
without_twice op station number b s p q rows =
    filter_twice (λ r. not (bytes_eq (op r) b && (bytes_eq (station r) s && q (number r)))) (λ r. not (bytes_eq (op r) b && (bytes_eq (station r) s && p (number r)))) rows
    ∙ ap (λ test. filter test rows) (λ i r. neither (bytes_eq (op r) b) (bytes_eq (station r) s) (p (number r)) (q (number r)) i)

dropped_twice : (history : HistoryTable) (op station : List ℕ) (p q : ℕ → Bool) (rows : Rows) → dropped history op station q (dropped history op station p rows) ≡ dropped history op station (λ n. p n || q n) rows
dropped_twice MeterValues op station p q rows = λ i. record rows { meter_values = without_twice {R = MeterValueRow} (λ r. r.op) (λ r. r.station) (λ r. r.first) op station p q rows.meter_values i }
dropped_twice Transactions op station p q rows = λ i. record rows { transactions = without_twice {R = TxRow} (λ r. r.op) (λ r. r.station) (λ r. r.number) op station p q rows.transactions i }
dropped_twice Owners op station p q rows = λ i. record rows { tx_owners = without_twice {R = TxOwnerRow} (λ r. r.op) (λ r. r.station) (λ r. r.number) op station p q rows.tx_owners i }

-- ---- no number, no row

none_passes : (a s : Bool) → not (a && (s && false)) ≡ true
none_passes false s = refl
none_passes true false = refl
none_passes true true = refl

without_none : {R : Type 0} (op station : R → List ℕ) (b s : List ℕ) (rows : List R) → without op b (λ r. bytes_eq (station r) s && false) rows ≡ rows
without_none op station b s rows = filter-all _ rows (all-these _ (λ r. none_passes (bytes_eq (op r) b) (bytes_eq (station r) s)) rows)

pub dropped_none : (history : HistoryTable) (op station : List ℕ) (rows : Rows) → dropped history op station (has_number []) rows ≡ rows
dropped_none MeterValues op station rows = λ i. record rows { meter_values = without_none {R = MeterValueRow} (λ r. r.op) (λ r. r.station) op station rows.meter_values i }
dropped_none Transactions op station rows = λ i. record rows { transactions = without_none {R = TxRow} (λ r. r.op) (λ r. r.station) op station rows.transactions i }
dropped_none Owners op station rows = λ i. record rows { tx_owners = without_none {R = TxOwnerRow} (λ r. r.op) (λ r. r.station) op station rows.tx_owners i }

-- ---- one number after the other

is_alone : (x n : ℕ) → nat_le x n && nat_le n x ≡ (x == n)
is_alone x n = grind (arith, nat_tests)

-- the statement drops the row of one number
pub drops_one : (history : HistoryTable) (op station : List ℕ) (x : ℕ) → Means (drop_text history) (Text op ∷ Text station ∷ Int (pos x) ∷ Int (pos x) ∷ []) (IsMade (dropped history op station (λ n. x == n)))
drops_one MeterValues op station x = subst (λ (test : ℕ → Bool). Means (drop_text MeterValues) (Text op ∷ Text station ∷ Int (pos x) ∷ Int (pos x) ∷ []) (IsMade (dropped MeterValues op station test))) (λ i n. is_alone x n i) (drops_meter_values op station x x)
drops_one Transactions op station x = subst (λ (test : ℕ → Bool). Means (drop_text Transactions) (Text op ∷ Text station ∷ Int (pos x) ∷ Int (pos x) ∷ []) (IsMade (dropped Transactions op station test))) (λ i n. is_alone x n i) (drops_txs op station x x)
drops_one Owners op station x = subst (λ (test : ℕ → Bool). Means (drop_text Owners) (Text op ∷ Text station ∷ Int (pos x) ∷ Int (pos x) ∷ []) (IsMade (dropped Owners op station test))) (λ i n. is_alone x n i) (drops_tx_owners op station x x)

-- once the rows of the numbers that are left are gone too, those of all are
abbrev pub AreBut : HistoryTable → List ℕ → List ℕ → List ℕ → List ℕ → Trees → Trees → Type 0
AreBut history op station left all old new = dropped history op station (has_number left) (rows_of new) ≡ dropped history op station (has_number all) (rows_of old)

pub one_less : (history : HistoryTable) (op station : List ℕ) (x : ℕ) (left all : List ℕ) (old mid new : Trees) → AreBut history op station (x ∷ left) all old mid → IsMade (dropped history op station (λ n. x == n)) mid new → AreBut history op station left all old new
one_less history op station x left all old mid new so_far made = ap (dropped history op station (has_number left)) made ∙ dropped_twice history op station (λ n. x == n) (has_number left) (rows_of mid) ∙ so_far
