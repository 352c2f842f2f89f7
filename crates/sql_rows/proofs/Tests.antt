-- What the WHERE of each statement is as a test of typed rows. A range is one key where both its ends are that key,
-- and all from a key on where it goes from that to a blob, which is above every text and every number.
use Rattle.std.proofs.Common.{◌≡◌, ◌∙◌, ◌&&◌, ◌==◌, ℕ, nat_le, ℤ, pos, negsuc, List, [], ◌∷◌, ◌++◌, ap, ap₂, subst, refl, sym, arith, Option, Some, None, Bool, true, false, true≢false, inl, inr, eqb-true, eq-eqb, Ordering, Less, Equal, Greater, int_cmp}
use Rattle.std.specs.Str.{bytes_eq}
use Rattle.std.specs.Ordering.{int_eq, is_eq, is_gt, is_le, is_ge, nat_cmp}
use Rattle.std.specs.Cmp.Lexicographic.{slice_cmp}
use Rattle.std.proofs.lemmas.Bool.{cases_Bool, false_from_ne_true}
use Rattle.std.proofs.lemmas.Bool.Decides.{nat_tests}
use Rattle.std.proofs.lemmas.Cmp.{int_cmp_total, tied_itself}
use Rattle.std.proofs.lemmas.Int.{ints}
use Rattle.std.proofs.lemmas.Map.Lookups.{exact_signed}
use Rattle.std.proofs.lemmas.Map.Text.{is_eq-slice_cmp}
use Rattle.sqlite_value.specs.Order.{value_cmp}
use Rattle.sqlite_value.specs.declared.value.Value.{Value}
use Rattle.sqlite_value.specs.declared.value.Value.TheVariants.{Int, Text, Blob}
use Rattle.sqlite_value.specs.declared.keys.Collation.TheVariants.{Binary}
use Rattle.sqlite_value.proofs.OrderLemmas.{value_cmp-Int}
use Rattle.sqlite_sql.specs.declared.ops.BinaryOp.TheVariants.{Compare}
use Rattle.sqlite_sql.specs.declared.ops.CompareOp.TheVariants.{Eq, Ge, Gt, Le}
use Rattle.sqlite_sql.specs.Ops.{binary, is_true, from_truth}
use Rattle.hub_rows.specs.Grants.{is_grant}
use Rattle.hub_rows.specs.Keyed.{text_cmp}
use Rattle.hub_rows.specs.Reservations.{shifted, unshifted, is_reservation}
use Rattle.hub_rows.specs.MeterValues.{is_meter_value, is_sent_with}
use Rattle.hub_rows.specs.Transactions.{is_open, counts, is_tx, is_started}
use Rattle.hub_rows.specs.Uses.{is_owner_of}
use Rattle.hub_rows.specs.declared.tx_row.StartKey.{StartKey}
use Rattle.sql_tables.specs.Forms.{above_is, from_is, where_is, range_is}
use Rattle.sql_rows.specs.TypedTables.{metas, stations, connectors, tags, grants, txs, readings, reservations, lists, entries, readers, reports, tx_owners, uses, meter_values}
use Rattle.sql_rows.specs.Kept.{is_between}
use Rattle.sql_rows.specs.Values.{flag, number_or_null}
use Rattle.sql_rows.proofs.ReadLaws.{IsTest}
use Rattle.sql_rows.proofs.TableLemmas.{equal_is}
use Rattle.sql_rows.proofs.ValueLaws.{shifted_back}

-- ---- one column

truth_is : (b : Bool) → is_true (from_truth (Some b)) ≡ b
truth_is true = refl
truth_is false = refl

and_true : (b : Bool) → b && true ≡ b
and_true true = refl
and_true false = refl

abbrev equals : Value → Value → Bool
equals v w = is_true (binary (Compare Eq Binary) v w)

-- what a range is true of
abbrev between : Value → Value → Value → Bool
between v low high = is_true (binary (Compare Ge Binary) v low) && (is_true (binary (Compare Le Binary) v high) && true)

text_test : (s t : List ℕ) → equals (Text s) (Text t) ≡ bytes_eq s t
unfolding binary value_cmp lib.Ieee.is_nan lib.Ieee.lt
text_test s t = truth_is (is_eq (slice_cmp nat_cmp s t)) ∙ is_eq-slice_cmp s t

number_test : (m n : ℤ) → equals (Int m) (Int n) ≡ int_eq m n
unfolding binary
number_test m n = truth_is (is_eq (value_cmp (Int m) (Int n))) ∙ ap is_eq (value_cmp-Int m n)

same_count : (m n : ℕ) → is_eq (int_cmp (pos m) (pos n)) ≡ (m == n)
same_count m n = grind (arith, nat_tests)

count_test : (m n : ℕ) → equals (Int (pos m)) (Int (pos n)) ≡ (m == n)
count_test m n = number_test (pos m) (pos n) ∙ same_count m n

same_signed : (m n : ℕ) → is_eq (int_cmp (unshifted m) (unshifted n)) ≡ (m == n)
same_signed m n = elim (cases_Bool (m == n)) [
  | inl e ↦ subst (λ k. is_eq (int_cmp (unshifted m) (unshifted k)) ≡ (m == k)) (eqb-true m n e) (ap is_eq (tied_itself int_cmp_total (unshifted m)) ∙ sym (eq-eqb m m refl))
  | inr e ↦ false_from_ne_true _ (λ equal. true≢false (sym (eq-eqb m n (sym (shifted_back m) ∙ ap shifted (exact_signed (unshifted m) (unshifted n) (equal_is _ equal)) ∙ shifted_back n)) ∙ e)) ∙ sym e
]

signed_test : (m n : ℕ) → equals (Int (unshifted m)) (Int (unshifted n)) ≡ (m == n)
signed_test m n = number_test (unshifted m) (unshifted n) ∙ same_signed m n

flag_test : (b : Bool) → equals (flag b) (Int (pos 1)) ≡ b
flag_test true = count_test 1 1
flag_test false = count_test 0 1

option_test : (o : Option ℤ) (n : ℕ) → equals (number_or_null o) (Int (pos n)) ≡ is_sent_with (Some n) o
unfolding binary
option_test None n = refl
option_test (Some z) n = number_test z (pos n)

both_ends : (o : Ordering) → is_ge o && (is_le o && true) ≡ is_eq o
both_ends Less = refl
both_ends Equal = refl
both_ends Greater = refl

-- ---- a range of texts

text_at_least : (s t : List ℕ) → is_true (binary (Compare Ge Binary) (Text s) (Text t)) ≡ is_ge (slice_cmp nat_cmp s t)
unfolding binary value_cmp lib.Ieee.is_nan lib.Ieee.lt
text_at_least s t = truth_is (is_ge (slice_cmp nat_cmp s t))

text_at_most : (s t : List ℕ) → is_true (binary (Compare Le Binary) (Text s) (Text t)) ≡ is_le (slice_cmp nat_cmp s t)
unfolding binary value_cmp lib.Ieee.is_nan lib.Ieee.lt
text_at_most s t = truth_is (is_le (slice_cmp nat_cmp s t))

text_below_blob : (s b : List ℕ) → is_true (binary (Compare Le Binary) (Text s) (Blob b)) ≡ true
unfolding binary value_cmp lib.Ieee.is_nan lib.Ieee.lt
text_below_blob s b = refl

from_empty : (s : List ℕ) → is_ge (slice_cmp nat_cmp s []) ≡ true
from_empty [] = refl
from_empty (b ∷ bs) = refl

one_text : (s t : List ℕ) → between (Text s) (Text t) (Text t) ≡ bytes_eq s t
one_text s t = ap₂ (λ a b. a && (b && true)) (text_at_least s t) (text_at_most s t) ∙ both_ends (slice_cmp nat_cmp s t) ∙ is_eq-slice_cmp s t

all_texts : (s : List ℕ) → between (Text s) (Text []) (Blob []) ≡ true
all_texts s = ap₂ (λ a b. a && (b && true)) (text_at_least s [] ∙ from_empty s) (text_below_blob s [])

-- ---- a range of numbers

at_least : (m n : ℤ) → is_true (binary (Compare Ge Binary) (Int m) (Int n)) ≡ is_ge (int_cmp m n)
unfolding binary
at_least m n = truth_is (is_ge (value_cmp (Int m) (Int n))) ∙ ap is_ge (value_cmp-Int m n)

at_most : (m n : ℤ) → is_true (binary (Compare Le Binary) (Int m) (Int n)) ≡ is_le (int_cmp m n)
unfolding binary
at_most m n = truth_is (is_le (value_cmp (Int m) (Int n))) ∙ ap is_le (value_cmp-Int m n)

below_blob : (n : ℤ) (b : List ℕ) → is_true (binary (Compare Le Binary) (Int n) (Blob b)) ≡ true
unfolding binary value_cmp lib.Ieee.is_nan lib.Ieee.lt
below_blob n b = refl

not_less : (m n : ℕ) → is_ge (int_cmp (pos m) (pos n)) ≡ nat_le n m
not_less m n = grind (arith, nat_tests)

-- no shifted number is below the least number of 32 bits
not_below_least : (n : ℕ) → is_ge (int_cmp (unshifted n) (negsuc 2147483647)) ≡ true
not_below_least n = grind (arith, nat_tests, ints)

one_number : (m n : ℤ) → between (Int m) (Int n) (Int n) ≡ int_eq m n
one_number m n = ap₂ (λ a b. a && (b && true)) (at_least m n) (at_most m n) ∙ both_ends (int_cmp m n)

counts_from : (m n : ℕ) → between (Int (pos m)) (Int (pos n)) (Blob []) ≡ nat_le n m
counts_from m n = ap₂ (λ a b. a && (b && true)) (at_least (pos m) (pos n) ∙ not_less m n) (below_blob (pos m) []) ∙ and_true (nat_le n m)

counts_on : (m n : ℕ) → is_true (binary (Compare Ge Binary) (Int (pos m)) (Int (pos n))) && true ≡ nat_le n m
counts_on m n = and_true _ ∙ at_least (pos m) (pos n) ∙ not_less m n

at_most_count : (m n : ℕ) → is_le (int_cmp (pos m) (pos n)) ≡ nat_le m n
at_most_count m n = grind (arith, nat_tests)

counts_between : (m low high : ℕ) → between (Int (pos m)) (Int (pos low)) (Int (pos high)) ≡ nat_le low m && nat_le m high
counts_between m low high = ap₂ (λ a b. a && (b && true)) (at_least (pos m) (pos low) ∙ not_less m low) (at_most (pos m) (pos high) ∙ at_most_count m high) ∙ ap (λ b. nat_le low m && b) (and_true (nat_le m high))

all_signed : (n : ℕ) → between (Int (unshifted n)) (Int (negsuc 2147483647)) (Blob []) ≡ true
all_signed n = ap₂ (λ a b. a && (b && true)) (at_least (unshifted n) (negsuc 2147483647) ∙ not_below_least n) (below_blob (unshifted n) [])

-- ---- by the last of its columns

last_text : (s t : List ℕ) → equals (Text s) (Text t) && true ≡ bytes_eq s t
last_text s t = ap (λ b. b && true) (text_test s t) ∙ and_true (bytes_eq s t)

-- ---- above a text

text_above : (s t : List ℕ) → is_true (binary (Compare Gt Binary) (Text s) (Text t)) ≡ is_gt (slice_cmp nat_cmp s t)
unfolding binary value_cmp lib.Ieee.is_nan lib.Ieee.lt
text_above s t = truth_is (is_gt (slice_cmp nat_cmp s t))

pub after_operator : (op : List ℕ) → IsTest stations (above_is 0 1) (Text op ∷ []) (λ r. is_gt (text_cmp r.op op))
after_operator op = λ id r. ap (λ b. b && true) (text_above r.op op) ∙ and_true (is_gt (slice_cmp nat_cmp r.op op))

pub of_metas : (name : List ℕ) → IsTest metas (where_is 0 (1 ∷ [])) (Text name ∷ []) (λ m. bytes_eq m.name name)
of_metas name = λ id m. last_text m.name name

-- ---- of an operator and a station

module _ (op station : List ℕ) where
  pub one_station : IsTest stations (where_is 0 (1 ∷ []) ++ range_is 1 2) (Text op ∷ Text station ∷ Text station ∷ []) (λ r. bytes_eq r.op op && bytes_eq r.station station)
  one_station = λ id r. ap₂ ◌&&◌ (text_test r.op op) (one_text r.station station)

  pub of_station : IsTest stations (where_is 0 (1 ∷ 2 ∷ [])) (Text op ∷ Text station ∷ []) (λ r. bytes_eq r.op op && bytes_eq r.station station)
  of_station = λ id r. ap₂ ◌&&◌ (text_test r.op op) (last_text r.station station)

  pub of_connectors : IsTest connectors (where_is 0 (1 ∷ 2 ∷ [])) (Text op ∷ Text station ∷ []) (λ r. bytes_eq r.op op && bytes_eq r.station station)
  of_connectors = λ id r. ap₂ ◌&&◌ (text_test r.op op) (last_text r.station station)

  pub of_lists : IsTest lists (where_is 0 (1 ∷ 2 ∷ [])) (Text op ∷ Text station ∷ []) (λ l. bytes_eq l.op op && bytes_eq l.station station)
  of_lists = λ id l. ap₂ ◌&&◌ (text_test l.op op) (last_text l.station station)

  pub of_entries : IsTest entries (where_is 0 (1 ∷ 2 ∷ [])) (Text op ∷ Text station ∷ []) (λ e. bytes_eq e.op op && bytes_eq e.station station)
  of_entries = λ id e. ap₂ ◌&&◌ (text_test e.op op) (last_text e.station station)

  pub of_reports : IsTest reports (where_is 0 (1 ∷ 2 ∷ [])) (Text op ∷ Text station ∷ []) (λ r. bytes_eq r.op op && bytes_eq r.station station)
  of_reports = λ id r. ap₂ ◌&&◌ (text_test r.op op) (last_text r.station station)

  pub one_reader : IsTest readers (where_is 0 (1 ∷ []) ++ range_is 1 2) (Text op ∷ Text station ∷ Text station ∷ []) (λ r. bytes_eq r.op op && bytes_eq r.station station)
  one_reader = λ id r. ap₂ ◌&&◌ (text_test r.op op) (one_text r.station station)

  pub of_reader : IsTest readers (where_is 0 (1 ∷ 2 ∷ [])) (Text op ∷ Text station ∷ []) (λ r. bytes_eq r.op op && bytes_eq r.station station)
  of_reader = λ id r. ap₂ ◌&&◌ (text_test r.op op) (last_text r.station station)

  pub one_reservation : (n : ℕ) → IsTest reservations (where_is 0 (1 ∷ 2 ∷ []) ++ range_is 2 3) (Text op ∷ Text station ∷ Int (unshifted n) ∷ Int (unshifted n) ∷ []) (λ r. bytes_eq r.op op && is_reservation station n r)
  one_reservation n = λ id r. ap₂ ◌&&◌ (text_test r.op op) (ap₂ ◌&&◌ (text_test r.station station) (one_number (unshifted r.id) (unshifted n) ∙ same_signed r.id n))

  pub all_reservations : IsTest reservations (where_is 0 (1 ∷ 2 ∷ []) ++ range_is 2 3) (Text op ∷ Text station ∷ Int (negsuc 2147483647) ∷ Blob [] ∷ []) (λ r. bytes_eq r.op op && bytes_eq r.station station)
  all_reservations = λ id r. ap₂ ◌&&◌ (text_test r.op op) (ap₂ ◌&&◌ (text_test r.station station) (all_signed r.id) ∙ and_true (bytes_eq r.station station))

  pub of_reservations : IsTest reservations (where_is 0 (1 ∷ 2 ∷ [])) (Text op ∷ Text station ∷ []) (λ r. bytes_eq r.op op && bytes_eq r.station station)
  of_reservations = λ id r. ap₂ ◌&&◌ (text_test r.op op) (last_text r.station station)

  pub of_reservation : (n : ℕ) → IsTest reservations (where_is 0 (1 ∷ 2 ∷ 3 ∷ [])) (Text op ∷ Text station ∷ Int (unshifted n) ∷ []) (λ r. bytes_eq r.op op && is_reservation station n r)
  of_reservation n = λ id r. ap₂ ◌&&◌ (text_test r.op op) (ap₂ ◌&&◌ (text_test r.station station) (ap (λ b. b && true) (signed_test r.id n) ∙ and_true (r.id == n)))

  -- ---- transactions

  pub one_tx : (n : ℕ) → IsTest txs (where_is 0 (1 ∷ 2 ∷ []) ++ range_is 2 3) (Text op ∷ Text station ∷ Int (pos n) ∷ Int (pos n) ∷ []) (λ r. bytes_eq r.op op && is_tx station n r)
  one_tx n = λ id r. ap₂ ◌&&◌ (text_test r.op op) (ap₂ ◌&&◌ (text_test r.station station) (one_number (pos r.number) (pos n) ∙ same_count r.number n))

  pub txs_from : (n : ℕ) → IsTest txs (where_is 0 (1 ∷ 2 ∷ []) ++ range_is 2 3) (Text op ∷ Text station ∷ Int (pos n) ∷ Blob [] ∷ []) (λ r. bytes_eq r.op op && (bytes_eq r.station station && nat_le n r.number))
  txs_from n = λ id r. ap₂ ◌&&◌ (text_test r.op op) (ap₂ ◌&&◌ (text_test r.station station) (counts_from r.number n))

  pub txs_between : (low high : ℕ) → IsTest txs (where_is 0 (1 ∷ 2 ∷ []) ++ range_is 2 3) (Text op ∷ Text station ∷ Int (pos low) ∷ Int (pos high) ∷ []) (λ r. bytes_eq r.op op && (bytes_eq r.station station && (nat_le low r.number && nat_le r.number high)))
  txs_between low high = λ id r. ap₂ ◌&&◌ (text_test r.op op) (ap₂ ◌&&◌ (text_test r.station station) (counts_between r.number low high))

  pub tx_owners_between : (low high : ℕ) → IsTest tx_owners (where_is 0 (1 ∷ 2 ∷ []) ++ range_is 2 3) (Text op ∷ Text station ∷ Int (pos low) ∷ Int (pos high) ∷ []) (λ r. bytes_eq r.op op && (bytes_eq r.station station && (nat_le low r.number && nat_le r.number high)))
  tx_owners_between low high = λ id r. ap₂ ◌&&◌ (text_test r.op op) (ap₂ ◌&&◌ (text_test r.station station) (counts_between r.number low high))

  pub readings_between : (low high : ℕ) → IsTest readings (where_is 0 (1 ∷ 2 ∷ []) ++ range_is 2 3) (Text op ∷ Text station ∷ Int (pos low) ∷ Int (pos high) ∷ []) (is_between (λ r. r.op) (λ r. r.station) (λ r. r.number) op station low high)
  readings_between low high = λ id r. ap₂ ◌&&◌ (text_test r.op op) (ap₂ ◌&&◌ (text_test r.station station) (counts_between r.number low high))

  pub of_txs : IsTest txs (where_is 0 (1 ∷ 2 ∷ [])) (Text op ∷ Text station ∷ []) (λ r. bytes_eq r.op op && bytes_eq r.station station)
  of_txs = λ id r. ap₂ ◌&&◌ (text_test r.op op) (last_text r.station station)

  pub open_txs : IsTest txs (where_is 0 (1 ∷ 2 ∷ 12 ∷ [])) (Text op ∷ Text station ∷ Int (pos 1) ∷ []) (λ r. bytes_eq r.op op && (bytes_eq r.station station && is_open r))
  open_txs = λ id r. ap₂ ◌&&◌ (text_test r.op op) (ap₂ ◌&&◌ (text_test r.station station) (ap (λ b. b && true) (flag_test (is_open r)) ∙ and_true (is_open r)))

  pub same_starts : (k : StartKey) → IsTest txs (where_is 0 (1 ∷ 2 ∷ 4 ∷ 5 ∷ 6 ∷ 7 ∷ [])) (Text op ∷ Text station ∷ Int (pos k.connector) ∷ Text k.key ∷ Int k.meter_start ∷ Int k.at ∷ []) (λ r. bytes_eq r.op op && is_started station k r)
  same_starts k = λ id r. ap₂ ◌&&◌ (text_test r.op op) (ap₂ ◌&&◌ (text_test r.station station) (ap₂ ◌&&◌ (count_test r.start.id.connector k.connector) (ap₂ ◌&&◌ (text_test r.start.id.key k.key)
      (ap₂ ◌&&◌ (number_test r.start.id.meter_start k.meter_start) (ap (λ b. b && true) (number_test r.start.id.at k.at) ∙ and_true (int_eq r.start.id.at k.at))))))

  pub of_tx_owner : (n : ℕ) → IsTest tx_owners (where_is 0 (1 ∷ 2 ∷ 3 ∷ [])) (Text op ∷ Text station ∷ Int (pos n) ∷ []) (λ r. bytes_eq r.op op && is_owner_of station n r)
  of_tx_owner n = λ id r. ap₂ ◌&&◌ (text_test r.op op) (ap₂ ◌&&◌ (text_test r.station station) (ap (λ b. b && true) (count_test r.number n) ∙ and_true (r.number == n)))

  pub txs_on : (n : ℕ) → IsTest txs (where_is 0 (1 ∷ 2 ∷ []) ++ from_is 2 3) (Text op ∷ Text station ∷ Int (pos n) ∷ []) (λ r. bytes_eq r.op op && (bytes_eq r.station station && nat_le n r.number))
  txs_on n = λ id r. ap₂ ◌&&◌ (text_test r.op op) (ap₂ ◌&&◌ (text_test r.station station) (counts_on r.number n))

  -- ---- meter values

  pub meter_values_between : (low high : ℕ) → IsTest meter_values (where_is 0 (1 ∷ 2 ∷ []) ++ range_is 2 3) (Text op ∷ Text station ∷ Int (pos low) ∷ Int (pos high) ∷ []) (is_between (λ m. m.op) (λ m. m.station) (λ m. m.first) op station low high)
  meter_values_between low high = λ id m. ap₂ ◌&&◌ (text_test m.op op) (ap₂ ◌&&◌ (text_test m.station station) (counts_between m.first low high))

  pub meter_values_on : (n : ℕ) → IsTest meter_values (where_is 0 (1 ∷ 2 ∷ []) ++ from_is 2 3) (Text op ∷ Text station ∷ Int (pos n) ∷ []) (λ m. bytes_eq m.op op && (bytes_eq m.station station && nat_le n m.first))
  meter_values_on n = λ id m. ap₂ ◌&&◌ (text_test m.op op) (ap₂ ◌&&◌ (text_test m.station station) (counts_on m.first n))

  pub of_meter_values : IsTest meter_values (where_is 0 (1 ∷ 2 ∷ [])) (Text op ∷ Text station ∷ []) (λ m. bytes_eq m.op op && is_meter_value station None m)
  of_meter_values = λ id m. ap₂ ◌&&◌ (text_test m.op op) (ap (λ b. b && true) (text_test m.station station))

  pub tx_meter_values : (n : ℕ) → IsTest meter_values (where_is 0 (1 ∷ 2 ∷ 5 ∷ [])) (Text op ∷ Text station ∷ Int (pos n) ∷ []) (λ m. bytes_eq m.op op && is_meter_value station (Some n) m)
  tx_meter_values n = λ id m. ap₂ ◌&&◌ (text_test m.op op) (ap₂ ◌&&◌ (text_test m.station station) (ap (λ b. b && true) (option_test m.value.transaction n) ∙ and_true (is_sent_with (Some n) m.value.transaction)))

  pub tx_meter_values_on : (n first : ℕ) → IsTest meter_values (where_is 0 (1 ∷ 2 ∷ 5 ∷ []) ++ from_is 3 3) (Text op ∷ Text station ∷ Int (pos n) ∷ Int (pos first) ∷ []) (λ m. bytes_eq m.op op && (bytes_eq m.station station && (is_sent_with (Some n) m.value.transaction && nat_le first m.first)))
  tx_meter_values_on n first = λ id m. ap₂ ◌&&◌ (text_test m.op op) (ap₂ ◌&&◌ (text_test m.station station) (ap₂ ◌&&◌ (option_test m.value.transaction n) (counts_on m.first first)))

-- ---- of an operator

module _ (op : List ℕ) where
  pub all_stations : IsTest stations (where_is 0 (1 ∷ []) ++ range_is 1 2) (Text op ∷ Text [] ∷ Blob [] ∷ []) (λ r. bytes_eq r.op op && true)
  all_stations = λ id r. ap₂ ◌&&◌ (text_test r.op op) (all_texts r.station)

  pub all_readers : IsTest readers (where_is 0 (1 ∷ []) ++ range_is 1 2) (Text op ∷ Text [] ∷ Blob [] ∷ []) (λ r. bytes_eq r.op op && true)
  all_readers = λ id r. ap₂ ◌&&◌ (text_test r.op op) (all_texts r.station)

  pub one_tag : (key : List ℕ) → IsTest tags (where_is 0 (1 ∷ []) ++ range_is 1 2) (Text op ∷ Text key ∷ Text key ∷ []) (λ r. bytes_eq r.op op && bytes_eq r.key key)
  one_tag key = λ id r. ap₂ ◌&&◌ (text_test r.op op) (one_text r.key key)

  pub all_tags : IsTest tags (where_is 0 (1 ∷ []) ++ range_is 1 2) (Text op ∷ Text [] ∷ Blob [] ∷ []) (λ r. bytes_eq r.op op && true)
  all_tags = λ id r. ap₂ ◌&&◌ (text_test r.op op) (all_texts r.key)

  pub of_tag : (key : List ℕ) → IsTest tags (where_is 0 (1 ∷ 2 ∷ [])) (Text op ∷ Text key ∷ []) (λ r. bytes_eq r.op op && bytes_eq r.key key)
  of_tag key = λ id r. ap₂ ◌&&◌ (text_test r.op op) (last_text r.key key)

  pub of_grant : (key to : List ℕ) → IsTest grants (where_is 0 (1 ∷ 2 ∷ 3 ∷ [])) (Text op ∷ Text key ∷ Text to ∷ []) (λ r. bytes_eq r.op op && is_grant key to r)
  of_grant key to = λ id r. ap₂ ◌&&◌ (text_test r.op op) (ap₂ ◌&&◌ (text_test r.key key) (last_text r.to to))

  pub all_grants : IsTest grants (where_is 0 (1 ∷ [])) (Text op ∷ []) (λ r. bytes_eq r.op op && true)
  all_grants = λ id r. ap (λ b. b && true) (text_test r.op op)

  pub received : (key : List ℕ) → IsTest grants (where_is 0 (3 ∷ []) ++ range_is 1 2) (Text op ∷ Text key ∷ Text key ∷ []) (λ r. bytes_eq r.to op && bytes_eq r.key key)
  received key = λ id r. ap₂ ◌&&◌ (text_test r.to op) (one_text r.key key)

  pub all_received : IsTest grants (where_is 0 (3 ∷ []) ++ range_is 1 2) (Text op ∷ Text [] ∷ Blob [] ∷ []) (λ r. bytes_eq r.to op)
  all_received = λ id r. ap₂ ◌&&◌ (text_test r.to op) (all_texts r.key) ∙ and_true (bytes_eq r.to op)

  pub used_txs : (key : List ℕ) → IsTest txs (where_is 0 (1 ∷ 5 ∷ 13 ∷ [])) (Text op ∷ Text key ∷ Int (pos 1) ∷ []) (λ r. bytes_eq r.op op && (bytes_eq r.start.id.key key && counts r))
  used_txs key = λ id r. ap₂ ◌&&◌ (text_test r.op op) (ap₂ ◌&&◌ (text_test r.start.id.key key) (ap (λ b. b && true) (flag_test (counts r)) ∙ and_true (counts r)))

  pub all_open_txs : IsTest txs (where_is 0 (1 ∷ 12 ∷ [])) (Text op ∷ Int (pos 1) ∷ []) (λ r. bytes_eq r.op op && is_open r)
  all_open_txs = λ id r. ap₂ ◌&&◌ (text_test r.op op) (ap (λ b. b && true) (flag_test (is_open r)) ∙ and_true (is_open r))

  pub of_uses : IsTest uses (where_is 0 (1 ∷ [])) (Text op ∷ []) (λ r. bytes_eq r.op op && true)
  of_uses = λ id r. ap (λ b. b && true) (text_test r.op op)
