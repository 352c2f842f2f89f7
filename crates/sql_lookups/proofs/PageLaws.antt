-- Rows in the order of their numbers: their pages, and the last one.
use Rattle.std.proofs.Common.{◌≡◌, ◌^◌, ◌&&◌, ◌++◌, ◌+◌, ◌-◌, ℕ, zero, suc, nat_le, ◌<◌, ◌≤◌, List, [], ◌∷◌, length, map, filter, take, drop, cond, Bool, true, Option, None, Some, Ordering, Less, refl, sym, ap, ◌∙◌, subst, inl, inr, arith, append-nil, append_assoc}
use Rattle.std.specs.List.{AllByRecursion, slice_get}
use Rattle.std.specs.List.Sorted.{IsStrictlySortedBy}
use Rattle.std.specs.Cmp.{ranked}
use Rattle.std.specs.Ordering.{MatchOrdering, nat_cmp}
use Rattle.std.specs.Str.{bytes_eq}
use Rattle.std.proofs.lemmas.List.{length-take, take_all, take-append-drop, take-take}
use Rattle.std.proofs.lemmas.Bool.{cases_lt, le-leb, leb-true, lt-leb}
use Rattle.std.proofs.lemmas.List.Kept.{IsStrictlySortedBy-filter}
use Rattle.sqlite_trees.specs.Tree.{Trees}
use Rattle.sqlite_trees.proofs.ListLemmas.{filter-filter}
use Rattle.sqlite_rules.specs.Lists.{Has}
use Rattle.hub_rows.specs.declared.forgettable.TheConstants.{MAX_FORGOTTEN}
use Rattle.hub_rows.specs.declared.meter_value_row.MeterValueRow.{MeterValueRow}
use Rattle.hub_rows.specs.Forgetting.{oldest}
use Rattle.hub_rows.specs.MeterValues.{is_meter_value, is_sent_with, last_number, meter_values_in, number_of_last}
use Rattle.hub_rows.proofs.FilterLaws.{all-both, all-passed, all-these, filter-all}
use Rattle.hub_rows.proofs.ListLaws.{all-weaker, and-true, by_key_total}
use Rattle.hub_rows.proofs.NumberLaws.{those-those}
use Rattle.sql_tables.specs.declared.pages.TheConstants.{PAGE_ROWS}
use Rattle.sql_rows.specs.TypedTable.{cmp, rows_in, typed}
use Rattle.sql_rows.specs.TypedTables.{meter_values}
use Rattle.sql_rows.proofs.MemberLaws.{is_arranged}
use Rattle.sql_rows.proofs.TxTables.{in_order}
use Rattle.sql_lookups.specs.Pages.{from, page_from, IsAfter}

-- ---- lists

all_tested : {R : Type 0} (q : R → Bool) (rows : List R) → AllByRecursion (λ r. q r ≡ true) (filter q rows)
all_tested q rows = all-weaker (λ r. (r ≡ r) × (q r ≡ true)) (λ r. q r ≡ true) (λ r at. at.1) (filter q rows) (all-passed (λ r. r ≡ r) q rows (all-these (λ r. r ≡ r) (λ r. refl) rows))

-- rows that one order has as another
reordered : {R : Type 0} (c d : R → R → Ordering) (p : R → Bool) → ((x y : R) → p x ≡ true → p y ≡ true → c x y ≡ d x y) → (rows : List R) → AllByRecursion (λ r. p r ≡ true) rows → IsStrictlySortedBy c rows → IsStrictlySortedBy d rows
unfolding IsStrictlySortedBy
reordered c d p same [] all up = tt
reordered c d p same (x ∷ rows) all up = (
  all-weaker (λ y. (p y ≡ true) × (c x y ≡ Less)) (λ y. d x y ≡ Less) (λ y at. sym (same x y all.0 at.0) ∙ at.1) rows (all-both (λ y. p y ≡ true) (λ y. c x y ≡ Less) rows all.1 up.0),
  reordered c d p same rows all.1 up.1,
)

under : (m n : ℕ) → nat_cmp m n ≡ Less → m < n
under m n e = subst (λ o. MatchOrdering o (m < n) (m ≡ n) (n < m)) e (ranked m n (nat_cmp m n) refl)

-- ---- pages

module _ {R : Type 0} (number : R → ℕ) where
  abbrev pub IsInOrder : List R → Type 0
  IsInOrder rows = IsStrictlySortedBy (λ x y. nat_cmp (number x) (number y)) rows

  abbrev last_row : R → List R → R
  last_row x [] = x
  last_row x (y ∷ ys) = last_row y ys

  last_is : (x : R) (xs : List R) (r : R) → Some r ≡ slice_get (x ∷ xs) (length xs) → r ≡ last_row x xs
  last_is x [] r is = cc
  last_is x (y ∷ ys) r is = last_is y ys r is

  not_below : (x : R) (xs : List R) (k : ℕ) → IsInOrder (x ∷ xs) → number x ≤ number (last_row x (take k xs))
  unfolding IsStrictlySortedBy
  not_below x xs zero up = omega arith
  not_below x [] (suc k) up = omega arith
  not_below x (y ∷ ys) (suc k) up =
      let low = under (number x) (number y) up.0.0 in
      let high = not_below y ys k up.1 in
      omega (arith, low, high)

  -- the rows behind the first are those with greater numbers
  behind : (x : R) (xs : List R) (k : ℕ) → IsInOrder (x ∷ xs) → drop k xs ≡ from number (number (last_row x (take k xs)) + 1) (x ∷ xs)
  unfolding IsStrictlySortedBy
  behind x xs zero up =
      sym (ap (λ b. cond b (x ∷ from number (number x + 1) xs) (from number (number x + 1) xs)) (lt-leb (number x + 1) (number x) (omega arith))
      ∙ filter-all (λ r. nat_le (number x + 1) (number r)) xs (all-weaker (λ y. nat_cmp (number x) (number y) ≡ Less) (λ y. nat_le (number x + 1) (number y) ≡ true)
      (λ y less. let over = under (number x) (number y) less in le-leb (number x + 1) (number y) (omega (arith, over))) xs up.0))
  behind x [] (suc k) up = sym (ap (λ b. cond b (x ∷ []) []) (lt-leb (number x + 1) (number x) (omega arith)))
  behind x (y ∷ ys) (suc k) up =
      let last : ℕ = number (last_row y (take k ys)) in
      let low = under (number x) (number y) up.0.0 in
      let high = not_below y ys k up.1 in
      behind y ys k up.1 ∙ sym (ap (λ b. cond b (x ∷ from number (last + 1) (y ∷ ys)) (from number (last + 1) (y ∷ ys))) (lt-leb (last + 1) (number x) (omega (arith, low, high))))

  -- the last of the first rows is there, and behind it are the rows with greater numbers
  page_end : (n low : ℕ) (xs : List R) (r : R) → IsInOrder xs → AllByRecursion (λ x. low ≤ number x) xs → Some r ≡ slice_get (take n xs) (length (take n xs) - 1) → (low ≤ number r) × (drop n xs ≡ from number (number r + 1) xs)
  page_end zero low xs r up all is = absurd cc
  page_end (suc n) low [] r up all is = absurd cc
  page_end (suc n) low (x ∷ xs) r up all is =
      let here : length (take (suc n) (x ∷ xs)) - 1 ≡ length (take n xs) = omega arith in
      let last : r ≡ last_row x (take n xs) = last_is x (take n xs) r (is ∙ ap (slice_get (x ∷ take n xs)) here) in
      let first = all.0 in
      let end = not_below x xs n up in
      (subst (λ l. low ≤ number l) (sym last) (omega (arith, first, end)), behind x xs n up ∙ ap (λ l. from number (number l + 1) (x ∷ xs)) (sym last))

  pub from_none : (rows : List R) → from number 0 rows ≡ rows
  from_none rows = filter-all (λ r. nat_le 0 (number r)) rows (all-these (λ r. nat_le 0 (number r) ≡ true) (λ r. le-leb 0 (number r) (omega arith)) rows)

  -- one page has the oldest rows
  pub oldest_is : (rows page : List R) → page ≡ page_from PAGE_ROWS number 0 rows → oldest page ≡ oldest rows
  oldest_is rows page is = ap oldest (is ∙ ap (take PAGE_ROWS) (from_none rows)) ∙ elim (cases_lt PAGE_ROWS (length rows)) [
    | inl long ↦
        let whole : length (take PAGE_ROWS rows) - 1 ≡ 255 = (let many = length-take PAGE_ROWS rows in omega (arith, long, many)) in
        let past : MAX_FORGOTTEN ≤ length rows - 1 = omega (arith, long) in
        ap (λ n. take MAX_FORGOTTEN (take n (take PAGE_ROWS rows))) whole
        ∙ take-take MAX_FORGOTTEN 255 (take PAGE_ROWS rows) (omega arith)
        ∙ take-take MAX_FORGOTTEN PAGE_ROWS rows (omega arith)
        ∙ sym (take-take MAX_FORGOTTEN (length rows - 1) rows past)
    | inr short ↦ ap oldest (take_all PAGE_ROWS rows short)
  ]

-- the rows from the next page on; none where there is none
abbrev pub rest : Option ℕ → List MeterValueRow → List MeterValueRow
rest None rows = []
rest (Some next) rows = from (λ m. m.first) next rows

-- how many numbers are left
abbrev pub numbers_left : Option ℕ → ℕ
numbers_left None = 0
numbers_left (Some next) = 2 ^ 32 - next

-- a page, and then the rows from the next one on, are the rows from its first number on
pub follows : (size : ℕ) (rows : List MeterValueRow) → IsInOrder (λ m. m.first) rows → (first : ℕ) (page : List MeterValueRow) → page ≡ page_from size (λ m. m.first) first rows → (next : Option ℕ) → IsAfter size first page next → page ++ rest next rows ≡ from (λ m. m.first) first rows
follows size rows up first page is None short =
    let those : List MeterValueRow = from (λ m. m.first) first rows in
    let many = ap length is in
    let most = length-take size those in
    append-nil page ∙ is ∙ take_all size those (omega (arith, short, many, most))
follows size rows up first page is (Some next) after =
    let number : MeterValueRow → ℕ = λ m. m.first in
    let r : MeterValueRow = after.0 in
    let those : List MeterValueRow = from number first rows in
    let ends = page_end number size first those r (IsStrictlySortedBy-filter (λ x y. nat_cmp (number x) (number y)) (λ m. nat_le first (number m)) rows up)
    (all-weaker (λ m. nat_le first (number m) ≡ true) (λ m. first ≤ number m) (λ m low. leb-true first (number m) low) those (all_tested (λ m. nat_le first (number m)) rows))
    (subst (λ l. Some r ≡ slice_get l (length l - 1)) is after.1) in
    let low = ends.0 in
    let begins = after.2 in
    let next_is : next ≡ r.first + 1 = omega (arith, begins, low) in
    (λ i. is i ++ from number (next_is i) rows)
    ∙ ap (λ l. take size those ++ l) (sym (ends.1 ∙ filter-filter (λ m. nat_le (r.first + 1) (number m)) (λ m. nat_le first (number m)) (λ m e. let over = leb-true (r.first + 1) (number m) e in le-leb first (number m) (omega (arith, low, over))) rows))
    ∙ take-append-drop size those

-- with one page more
pub listed_more : (own : List MeterValueRow) (was : Option ℕ) (first : ℕ) (next : Option ℕ) (found page more : List MeterValueRow) → was ≡ Some first → found ++ rest was own ≡ own → page ++ rest next own ≡ from (λ m. m.first) first own → more ≡ found ++ page
    → more ++ rest next own ≡ own
listed_more own was first next found page more is so_far follow new =
    ap (λ l. l ++ rest next own) new ∙ append_assoc found page (rest next own) ∙ ap (λ l. found ++ l) follow ∙ sym (ap (λ o. found ++ rest o own) is) ∙ so_far

-- ---- the meter values of a station

module _ (b st : List ℕ) (n : Option ℕ) where
  pub own_up : (db : Trees) → IsInOrder (λ m. m.first) (meter_values_in b st n (rows_in meter_values db))
  own_up db =
      let p : MeterValueRow → Bool = λ m. bytes_eq m.op b && is_meter_value st n m in
      let all : List MeterValueRow = rows_in meter_values db in
      reordered (cmp meter_values) (λ x y. nat_cmp x.first y.first) p (in_order (λ m. m.op) (λ m. m.station) (λ m. m.first) b st (λ m. is_sent_with n m.value.transaction)) (filter p all) (all_tested p all)
      (IsStrictlySortedBy-filter (cmp meter_values) p all (is_arranged (cmp meter_values) (by_key_total meter_values.key) (map (typed meter_values) (db meter_values.table.tree))))

  -- a page of them
  pub values_are : (size first : ℕ) (shown : MeterValueRow → Bool) → ((m : MeterValueRow) → shown m ≡ is_meter_value st n m && nat_le first m.first) → (rows : List MeterValueRow)
      → take size (filter (λ m. bytes_eq m.op b && shown m) rows) ≡ page_from size (λ m. m.first) first (meter_values_in b st n rows)
  values_are size first shown same rows = ap (take size) ((λ i. filter (λ m. bytes_eq m.op b && same m i) rows) ∙ those-those (λ m. m.op) b (is_meter_value st n) (λ m. nat_le first m.first) rows)

-- those that were sent with a number, of all of a station
pub sent_of : (b st : List ℕ) (n : ℕ) (rows : List MeterValueRow) → filter (λ m. is_sent_with (Some n) m.value.transaction) (meter_values_in b st None rows) ≡ meter_values_in b st (Some n) rows
sent_of b st n rows =
    sym (those-those (λ m. m.op) b (λ m. bytes_eq m.station st && true) (λ m. is_sent_with (Some n) m.value.transaction) rows)
    ∙ (λ i. filter (λ m. bytes_eq m.op b && (and-true (bytes_eq m.station st) i && is_sent_with (Some n) m.value.transaction)) rows)

-- the last of them is the one with the greatest number
pub top_last : (values : List MeterValueRow) → IsInOrder (λ m. m.first) values → (t : MeterValueRow) → Has values t → ((u : MeterValueRow) → Has values u → u.first ≤ t.first) → number_of_last values ≡ last_number t
unfolding IsStrictlySortedBy
top_last [] up t none most = absurd none
top_last (r ∷ []) up t (inl same) most = ap last_number (sym same)
top_last (r ∷ []) up t (inr none) most = absurd none
top_last (r ∷ s ∷ rs) up t (inl same) most =
    let low = under r.first s.first up.0.0 in
    let high = most s (inr (inl refl)) in
    let here = ap (λ (m : MeterValueRow). m.first) same in
    absurd (omega (arith, low, high, here))
top_last (r ∷ s ∷ rs) up t (inr later) most = top_last (s ∷ rs) up.1 t later (λ u h. most u (inr h))
