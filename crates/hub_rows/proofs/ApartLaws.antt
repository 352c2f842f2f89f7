-- Meter values that are added after those of their station end before others begin.
use Rattle.std.specs.Prelude.{◌≡◌, ℕ, ◌+◌, ◌-◌, ◌<◌, ◌≤◌, ◌⊎◌, List, [], ◌∷◌, filter, Bool, true, false, cond, ◌&&◌}
use Rattle.std.specs.List.{AllByRecursion}
use Rattle.std.specs.List.Sorted.{IsStrictlySortedBy}
use Rattle.std.specs.Ordering.{match_ordering, nat_cmp, ordering_reverse, ordering_then, MatchOrdering}
use Rattle.std.specs.Cmp.{ranked}
use Rattle.std.specs.Str.{bytes_eq}
use Rattle.std.specs.declared.cmp.Ordering.{Ordering}
use Rattle.std.specs.declared.cmp.Ordering.TheVariants.{Less, Equal, Greater}
use Rattle.std.specs.FinMap.{slice_cmp-IsAntisymmetric}
use Rattle.std.proofs.lemmas.Map.Lookups.{exact_unsigned}
use Rattle.std.proofs.lemmas.Bool.{and_parts, true≢false}
use Rattle.std.proofs.lemmas.Cmp.{nat_list_cmp_total}
use Rattle.std.proofs.lemmas.List.Kept.{IsStrictlySortedBy-filter}
use Rattle.std.proofs.Common.{refl, sym, ◌∙◌, ap, subst, arith, inl, inr, ⊎_elim}
use Rattle.hub_rows.specs.declared.meter_value_row.MeterValue.{MeterValue}
use Rattle.hub_rows.specs.declared.meter_value_row.MeterValueRow.{MeterValueRow}
use Rattle.hub_rows.specs.Keyed.{by_key, key_cmp, put, put_all, text_cmp}
use Rattle.hub_rows.specs.MeterValues.{all_taken, last_number, last_reading_in, meter_value_rows, number_of_last, numbers_taken}
use Rattle.hub_rows.specs.Rows.{meter_value_key}
use Rattle.hub_rows.specs.Transactions.{AreNext}
use Rattle.hub_rows.specs.WellFormed.{end_cmp, end_key}
use Rattle.hub_rows.proofs.ListLaws.{all-filter, all-put, all-weaker, keys_total, same_text, text_itself}
use Rattle.hub_rows.proofs.NumberLaws.{less-number, number-less, number_order, same_station}

abbrev by : MeterValueRow → MeterValueRow → Ordering
by = by_key meter_value_key

-- ---- an end and a beginning

less≢greater : Less ≡ Greater → ⊥
less≢greater e = cc

-- what ends before another begins, begins before it
ends-begins : (x y : MeterValueRow) → end_cmp x y ≡ Less → by x y ≡ Less
ends-begins x y ends =
    let begins : key_cmp (meter_value_key x) (end_key x) ≡ nat_cmp x.first (last_number x)
    = same_station x.op x.station ((x.first ∷ []) ∷ []) ((last_number x ∷ []) ∷ []) ∙ number_order x.first (last_number x) in
    elim (nat_cmp x.first (last_number x)) as (λ o. nat_cmp x.first (last_number x) ≡ o → by x y ≡ Less) [
      | Less ↦ λ e. keys_total.trans (meter_value_key x) (end_key x) (meter_value_key y) (begins ∙ e) ends
      | Equal ↦ λ e. keys_total.congr (meter_value_key x) (end_key x) (meter_value_key y) (begins ∙ e) ∙ ends
      | Greater ↦ λ e. absurd (past x (subst (λ o. MatchOrdering o (x.first < last_number x) (x.first ≡ last_number x) (last_number x < x.first)) e (ranked x.first (last_number x) (nat_cmp x.first (last_number x)) refl)))
    ] refl
  where
    past : (x : MeterValueRow) → last_number x < x.first → ⊥
    past x low = omega (arith, low)

-- one of two meter values ends before the other begins
abbrev pub AreApart : MeterValueRow → MeterValueRow → Type 0
AreApart r x = (end_cmp x r ≡ Less) ⊎ (end_cmp r x ≡ Less)

reversed : (r x : MeterValueRow) → by x r ≡ Less → by r x ≡ Greater
reversed r x less = keys_total.antisymm (meter_value_key r) (meter_value_key x) ∙ ap ordering_reverse less

-- the one that begins before the other ends before it
ends-before : (r x : MeterValueRow) → AreApart r x → by r x ≡ Less → end_cmp r x ≡ Less
ends-before r x apart less = ⊎_elim (λ after. absurd (less≢greater (sym less ∙ reversed r x (ends-begins x r after)))) (λ before. before) apart

ends-after : (r x : MeterValueRow) → AreApart r x → by r x ≡ Greater → end_cmp x r ≡ Less
ends-after r x apart greater = ⊎_elim (λ after. after) (λ before. absurd (less≢greater (sym (ends-begins r x before) ∙ greater))) apart

never-equal : (r x : MeterValueRow) → AreApart r x → by r x ≡ Equal → ⊥
never-equal r x apart same = ⊎_elim (λ after. differ (sym same ∙ reversed r x (ends-begins x r after))) (λ before. differ' (sym same ∙ ends-begins r x before)) apart
  where
    differ : Equal ≡ Greater → ⊥
    differ e = cc

    differ' : Equal ≡ Less → ⊥
    differ' e = cc

-- a meter value that is apart from all is put
pub apart-put : (r : MeterValueRow) (xs : List MeterValueRow) → AllByRecursion (AreApart r) xs → IsStrictlySortedBy end_cmp xs → IsStrictlySortedBy end_cmp (put by r xs)
unfolding IsStrictlySortedBy
apart-put r [] all sorted = (tt, tt)
apart-put r (x ∷ xs) all sorted =
    elim (by r x) as (λ o. by r x ≡ o → IsStrictlySortedBy end_cmp (match_ordering o (r ∷ x ∷ xs) (r ∷ xs) (x ∷ put by r xs))) [
      | Less ↦ λ e. ((ends-before r x all.0 e, later e xs all.1 sorted.0), sorted)
      | Equal ↦ λ e. absurd (never-equal r x all.0 e)
      | Greater ↦ λ e. (all-put by (λ y. end_cmp x y ≡ Less) r xs (ends-after r x all.0 e) sorted.0, apart-put r xs all.1 sorted.1)
    ] refl
  where
    later : by r x ≡ Less → (ys : List MeterValueRow) → AllByRecursion (AreApart r) ys → AllByRecursion (λ y. end_cmp x y ≡ Less) ys → AllByRecursion (λ y. end_cmp r y ≡ Less) ys
    later e [] apart below = tt
    later e (y ∷ ys) apart below = (ends-before r y apart.0 (keys_total.trans (meter_value_key r) (meter_value_key x) (meter_value_key y) e (ends-begins x y below.0)), later e ys apart.1 below.1)

-- ---- those of other stations, and those with lower numbers

exact_text : (s t : List ℕ) → text_cmp s t ≡ Equal → s ≡ t
exact_text = slice_cmp-IsAntisymmetric exact_unsigned

abbrev EndsBelow : List ℕ → List ℕ → ℕ → MeterValueRow → Type 0
EndsBelow b station n x = x.op ≡ b → x.station ≡ station → last_number x < n

-- a meter value of a station is apart from those of others, and from those of its own that end below its first number
apart-new : (r x : MeterValueRow) → EndsBelow r.op r.station r.first x → AreApart r x
apart-new r x below =
    elim (text_cmp x.op r.op) as (λ o. text_cmp x.op r.op ≡ o → AreApart r x) [
      | Less ↦ λ e. inl (λ i. ordering_then (e i) (ordering_then (text_cmp x.station r.station) (key_cmp ((last_number x ∷ []) ∷ []) ((r.first ∷ []) ∷ []))))
      | Greater ↦ λ e. inr (λ i. ordering_then (turned r.op x.op e i) (ordering_then (text_cmp r.station x.station) (key_cmp ((last_number r ∷ []) ∷ []) ((x.first ∷ []) ∷ []))))
      | Equal ↦ λ op. elim (text_cmp x.station r.station) as (λ o. text_cmp x.station r.station ≡ o → AreApart r x) [
        | Less ↦ λ e. inl (λ i. ordering_then (op i) (ordering_then (e i) (key_cmp ((last_number x ∷ []) ∷ []) ((r.first ∷ []) ∷ []))))
        | Greater ↦ λ e. inr (λ i. ordering_then (tied x.op r.op op i) (ordering_then (turned r.station x.station e i) (key_cmp ((last_number r ∷ []) ∷ []) ((x.first ∷ []) ∷ []))))
        | Equal ↦ λ st. inl ((λ i. ordering_then (op i) (ordering_then (st i) (key_cmp ((last_number x ∷ []) ∷ []) ((r.first ∷ []) ∷ [])))) ∙ number-less (last_number x) r.first (below (exact_text x.op r.op op) (exact_text x.station r.station st)))
      ] refl
    ] refl
  where
    turned : (s t : List ℕ) → text_cmp t s ≡ Greater → text_cmp s t ≡ Less
    turned s t e = nat_list_cmp_total.antisymm s t ∙ ap ordering_reverse e

    tied : (s t : List ℕ) → text_cmp s t ≡ Equal → text_cmp t s ≡ Equal
    tied s t e = nat_list_cmp_total.antisymm t s ∙ ap ordering_reverse e

-- those that are added, one after the other
pub apart-put_all : (b station : List ℕ) (first : ℕ) (values : List MeterValue) (rows : List MeterValueRow) → AllByRecursion (EndsBelow b station first) rows → IsStrictlySortedBy end_cmp rows → IsStrictlySortedBy end_cmp (put_all by (meter_value_rows b station first values) rows)
apart-put_all b station first [] rows below sorted = sorted
apart-put_all b station first (v ∷ vs) rows below sorted =
    let r : MeterValueRow = record { op = b; station = station; first = first; value = v } in
    apart-put_all b station (first + numbers_taken v) vs (put by r rows)
    (all-put by (EndsBelow b station (first + numbers_taken v)) r rows (λ op st. omega arith) (all-weaker (EndsBelow b station first) (EndsBelow b station (first + numbers_taken v)) (λ x low op st. let l = low op st in omega (arith, l)) rows below))
    (apart-put r rows (all-weaker (EndsBelow b station first) (AreApart r) (λ x low. apart-new r x low) rows below) sorted)

-- ---- the last number of a station

-- no meter value of a station ends after its last
ends-last : (x : MeterValueRow) (xs : List MeterValueRow) (b station : List ℕ) → AllByRecursion (λ y. (y.op ≡ b) × (y.station ≡ station)) (x ∷ xs) → IsStrictlySortedBy end_cmp (x ∷ xs) → last_number x ≤ number_of_last (x ∷ xs)
unfolding IsStrictlySortedBy
ends-last x [] b station mine sorted = omega arith
ends-last x (y ∷ ys) b station mine sorted =
    let beyond : last_number x < y.first = less-number (last_number x) y.first (sym (of_one x y (mine.0.0 ∙ sym mine.1.0.0) (mine.0.1 ∙ sym mine.1.0.1)) ∙ sorted.0.0) in
    let rest = ends-last y ys b station mine.1 sorted.1 in
    omega (arith, beyond, rest)
  where
    of_one : (x y : MeterValueRow) → x.op ≡ y.op → x.station ≡ y.station → end_cmp x y ≡ key_cmp ((last_number x ∷ []) ∷ []) ((y.first ∷ []) ∷ [])
    of_one x y op st = (λ i. key_cmp (op i ∷ st i ∷ (last_number x ∷ []) ∷ []) (meter_value_key y)) ∙ same_station y.op y.station ((last_number x ∷ []) ∷ []) ((y.first ∷ []) ∷ [])

module _ (b station : List ℕ) where
  abbrev is_mine : MeterValueRow → Bool
  is_mine x = bytes_eq x.op b && (bytes_eq x.station station && true)

  abbrev IsMine : MeterValueRow → Type 0
  IsMine x = (x.op ≡ b) × (x.station ≡ station)

  mine-is : (x : MeterValueRow) → is_mine x ≡ true → IsMine x
  mine-is x is =
      let parts = and_parts (bytes_eq x.op b) (bytes_eq x.station station && true) is in
      (same_text x.op b parts.0, same_text x.station station (and_parts (bytes_eq x.station station) true parts.1).0)

  is-mine : (x : MeterValueRow) → x.op ≡ b → x.station ≡ station → is_mine x ≡ true
  is-mine x op st = λ i. text_itself x.op b op i && (text_itself x.station station st i && true)

  all-mine : (xs : List MeterValueRow) → AllByRecursion IsMine (filter is_mine xs)
  all-mine [] = tt
  all-mine (x ∷ xs) =
      elim (is_mine x) as (λ t. is_mine x ≡ t → AllByRecursion IsMine (cond t (x ∷ filter is_mine xs) (filter is_mine xs))) [
        | true ↦ λ is. (mine-is x is, all-mine xs)
        | false ↦ λ no. all-mine xs
      ] refl

  rest-low : (x : MeterValueRow) (xs : List MeterValueRow) (n : ℕ) → number_of_last (x ∷ xs) < n → number_of_last xs < n
  rest-low x [] n low = omega (arith, low)
  rest-low x (y ∷ ys) n low = low

  -- each meter value of the station ends below a number that follows its last
  pub below-last : (n : ℕ) (rows : List MeterValueRow) → IsStrictlySortedBy end_cmp rows → last_reading_in b station rows < n → AllByRecursion (EndsBelow b station n) rows
  unfolding IsStrictlySortedBy
  below-last n [] sorted low = tt
  below-last n (x ∷ xs) sorted low =
      let rest = filter is_mine xs in
      elim (is_mine x) as (λ t. is_mine x ≡ t → number_of_last (cond t (x ∷ rest) rest) < n → EndsBelow b station n x × AllByRecursion (EndsBelow b station n) xs) [
        | true ↦ λ is lower. (
          (λ op st. let most = ends-last x rest b station (mine-is x is, all-mine xs) (all-filter (λ y. end_cmp x y ≡ Less) is_mine xs sorted.0, IsStrictlySortedBy-filter end_cmp is_mine xs sorted.1) in omega (arith, most, lower)),
          below-last n xs sorted.1 (rest-low x rest n lower),
        )
        | false ↦ λ no lower. ((λ op st. absurd (true≢false (sym (is-mine x op st) ∙ no))), below-last n xs sorted.1 lower)
      ] refl low

-- ---- all that are added

pub apart-added : (b station : List ℕ) (first : ℕ) (values : List MeterValue) (rows : List MeterValueRow) → AreNext (last_reading_in b station rows) first (all_taken values) → IsStrictlySortedBy end_cmp rows → IsStrictlySortedBy end_cmp (put_all by (meter_value_rows b station first values) rows)
apart-added b station first [] rows next sorted = sorted
apart-added b station first (v ∷ vs) rows next sorted =
    ⊎_elim (λ none. absurd (some v vs none)) (λ follow. apart-put_all b station first (v ∷ vs) rows (below-last b station first rows sorted (above (last_reading_in b station rows) follow.next follow.from_one)) sorted) next
  where
    some : (v : MeterValue) (vs : List MeterValue) → all_taken (v ∷ vs) ≡ 0 → ⊥
    some v vs none = omega (arith, none)

    above : (last : ℕ) → (last ≡ 0) ⊎ (first ≡ last + 1) → 1 ≤ first → last < first
    above last next from = ⊎_elim (λ none. omega (arith, none, from)) (λ after. omega (arith, after)) next
