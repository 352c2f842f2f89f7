-- New rows of one station, behind those that it has.
use Rattle.std.specs.Prelude.{◌≡◌, ◌&&◌, ℕ, ◌+◌, ◌-◌, ◌<◌, ◌≤◌, List, [], ◌∷◌, length, map, None, Some}
use Rattle.std.specs.List.{AllByRecursion, slice_get}
use Rattle.std.specs.List.Sorted.{IsStrictlySortedBy}
use Rattle.std.specs.Str.{bytes_eq}
use Rattle.std.specs.declared.cmp.Ordering.TheVariants.{Less}
use Rattle.std.proofs.Common.{refl, sym, ◌∙◌, ap, subst, arith, ⊎_elim}
use Rattle.std.proofs.Math.Nat.{le-max_left}
use Rattle.hub_rows.specs.declared.meter_value_row.MeterValue.{MeterValue}
use Rattle.hub_rows.specs.declared.meter_value_row.MeterValueRow.{MeterValueRow}
use Rattle.hub_rows.specs.Keyed.{by_key, those, greatest, number_key}
use Rattle.hub_rows.specs.MeterValues.{all_taken, is_meter_value, last_number, last_reading_in, meter_values_in, meter_value_rows, number_of_last, numbers_taken}
use Rattle.hub_rows.specs.Transactions.{last_of_all, AreNext}
use Rattle.hub_rows.specs.WellFormed.{IsGoodMeterValue}
use Rattle.hub_rows.proofs.ListLaws.{all-filter, all-weaker, and-true}
use Rattle.hub_rows.proofs.NumberLaws.{less-number, number-less}
use Rattle.store_mem.specs.declared.named_groups.NamedGroup.{NamedGroup}
use Rattle.store_mem.specs.NamedGroups.{all_rows, AreGrouped, AreOf}
use Rattle.store_mem.proofs.StationRowsLaws.{rows-sorted, rows-those}

-- numbers that follow the last are above it
pub follows-above : (last first count : ℕ) → 1 ≤ count → AreNext last first count → last < first
follows-above last first count some next =
    ⊎_elim (λ none. absurd (omega (arith, none, some))) (λ follow. let from = follow.from_one in ⊎_elim (λ zero. omega (arith, zero, from)) (λ more. omega (arith, more)) follow.next) next

-- ---- one row

module _ {R : Type 0} (op station : R → List ℕ) (number : R → ℕ) where
  -- the last number of a station's rows
  abbrev last_at : List ℕ → List ℕ → List R → ℕ
  last_at b st all = greatest (map number (those op b (λ x. bytes_eq (station x) st) all))

  pub one_row : (b st o s : List ℕ) (r : R) (rows : List R) → rows ≡ r ∷ [] → op r ≡ b → station r ≡ st → o ≡ b → s ≡ st → AreOf op station number o s rows
  unfolding IsStrictlySortedBy
  one_row b st o s r rows are its_op its_station same_op same_station =
      subst (AreOf op station number o s) (sym are) (record { mine = ((its_op ∙ sym same_op, its_station ∙ sym same_station), tt); sorted = (tt, tt) })

  pub one_behind : (b st o s : List ℕ) (r : R) (rows all : List R) → rows ≡ r ∷ [] → o ≡ b → s ≡ st → last_at b st all < number r → AllByRecursion (λ x. last_at o s all < number x) rows
  one_behind b st o s r rows all are same_op same_station below =
      subst (AllByRecursion (λ x. last_at o s all < number x)) (sym are) (subst (λ p. last_at p s all < number r) (sym same_op) (subst (λ q. last_at b q all < number r) (sym same_station) below), tt)

-- ---- meter values

abbrev pub first_of : MeterValueRow → ℕ
first_of r = r.first

firsts_from : (m : ℕ) (b st : List ℕ) (first : ℕ) (values : List MeterValue) → m ≤ first → AllByRecursion (λ r. m ≤ r.first) (meter_value_rows b st first values)
firsts_from m b st first [] from = tt
firsts_from m b st first (v ∷ vs) from = (from, firsts_from m b st (first + numbers_taken v) vs (omega (arith, from)))

numbered : (b st : List ℕ) (first : ℕ) (values : List MeterValue) → AreOf (λ x. x.op) (λ x. x.station) first_of b st (meter_value_rows b st first values)
unfolding IsStrictlySortedBy
numbered b st first [] = record { mine = tt; sorted = tt }
numbered b st first (v ∷ vs) =
    let next = first + numbers_taken v in
    let rest = numbered b st next vs in
    let row : MeterValueRow = record { op = b; station = st; first = first; value = v } in
    record {
      mine = ((refl, refl), rest.mine);
      sorted = (all-weaker (λ x. first + 1 ≤ x.first) (λ x. by_key (number_key first_of) row x ≡ Less) (λ x from. number-less first x.first (omega (arith, from))) (meter_value_rows b st next vs) (firsts_from (first + 1) b st next vs (omega arith)), rest.sorted);
    }

pub are_values : (b st : List ℕ) (first : ℕ) (values : List MeterValue) (rows : List MeterValueRow) → rows ≡ meter_value_rows b st first values → AreOf (λ x. x.op) (λ x. x.station) first_of b st rows
are_values b st first values rows are = subst (AreOf (λ x. x.op) (λ x. x.station) first_of b st) (sym are) (numbered b st first values)

-- no meter value begins behind the last reading
none-behind : (rs : List MeterValueRow) → IsStrictlySortedBy (by_key (number_key first_of)) rs → greatest (map first_of rs) ≤ number_of_last rs
unfolding IsStrictlySortedBy
none-behind [] sorted = omega arith
none-behind (r ∷ []) sorted = omega arith
none-behind (r ∷ s ∷ rs) sorted =
    let later : r.first < s.first = less-number r.first s.first sorted.0.0 in
    let among : s.first ≤ greatest (map first_of (s ∷ rs)) = le-max_left s.first (greatest (map first_of rs)) in
    let rest = none-behind (s ∷ rs) sorted.1 in
    omega (arith, later, among, rest)

some_taken : (values : List MeterValue) → 1 ≤ length values → 1 ≤ all_taken values
some_taken [] some = some
some_taken (v ∷ vs) some = omega arith

pub values_fit : (last first : ℕ) (values : List MeterValue) → 1 ≤ length values → AreNext last first (all_taken values) → first + all_taken values ≤ last_of_all + 1
values_fit last first values some next = let taken = some_taken values some in ⊎_elim (λ none. absurd (omega (arith, none, taken))) (λ follow. follow.to_the_end) next

pub values_behind : (b st : List ℕ) (first : ℕ) (values : List MeterValue) (rows : List MeterValueRow) (groups : List (NamedGroup MeterValueRow)) → rows ≡ meter_value_rows b st first values → 1 ≤ length values → AreGrouped (λ x. x.op) (λ x. x.station) first_of groups
    → AreNext (last_reading_in b st (all_rows groups)) first (all_taken values) → AllByRecursion (λ x. last_at (λ x. x.op) (λ x. x.station) first_of b st (all_rows groups) < x.first) rows
values_behind b st first values rows groups are some grouped next =
    let mine = those (λ x. x.op) b (λ x. bytes_eq x.station st) (all_rows groups) in
    let same : meter_values_in b st None (all_rows groups) ≡ mine = (λ i. those (λ x. x.op) b (λ x. and-true (bytes_eq x.station st) i) (all_rows groups)) in
    let sorted = subst (IsStrictlySortedBy (by_key (number_key first_of))) (rows-those (λ x. x.op) (λ x. x.station) first_of b st groups grouped) (rows-sorted (λ x. x.op) (λ x. x.station) first_of b st groups grouped) in
    let low = none-behind mine sorted in
    let above : number_of_last mine < first = subst (λ rs. number_of_last rs < first) same (follows-above _ first (all_taken values) (some_taken values some) next) in
    subst (AllByRecursion (λ x. greatest (map first_of mine) < x.first)) (sym are)
    (all-weaker (λ x. first ≤ x.first) (λ x. greatest (map first_of mine) < x.first) (λ x from. omega (arith, from, low, above)) (meter_value_rows b st first values) (firsts_from first b st first values (omega arith)))

-- ---- the last reading

some_same : {R : Type 0} (r x : R) → Some r ≡ Some x → r ≡ x
some_same r x e = cc

-- it is that of the last meter value
of-last : (rs : List MeterValueRow) (r : MeterValueRow) → Some r ≡ slice_get rs (length rs - 1) → AllByRecursion IsGoodMeterValue rs → (number_of_last rs ≡ last_number r) × IsGoodMeterValue r
of-last [] r is good = absurd (cc)
of-last (x ∷ []) r is good = let same = some_same r x is in (ap last_number (sym same), subst IsGoodMeterValue (sym same) good.0)
of-last (x ∷ y ∷ rs) r is good =
    let here : length (x ∷ y ∷ rs) - 1 ≡ length (y ∷ rs) = omega arith in
    let there : length (y ∷ rs) - 1 ≡ length rs = omega arith in
    of-last (y ∷ rs) r (is ∙ ap (slice_get (x ∷ y ∷ rs)) here ∙ ap (slice_get (y ∷ rs)) (sym there)) good.1

pub last-reading : (b st : List ℕ) (all : List MeterValueRow) → AllByRecursion IsGoodMeterValue all → (rs : List MeterValueRow) → rs ≡ meter_values_in b st None all → (r : MeterValueRow) → Some r ≡ slice_get rs (length rs - 1)
    → (last_reading_in b st all ≡ last_number r) × IsGoodMeterValue r
last-reading b st all good rs are r is =
    let its = of-last rs r is (subst (AllByRecursion IsGoodMeterValue) (sym are) (all-filter IsGoodMeterValue (λ x. bytes_eq x.op b && is_meter_value st None x) all good)) in
    (ap number_of_last (sym are) ∙ its.0, its.1)
