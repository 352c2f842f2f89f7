-- Answers on last readings that an edit leaves right, and the last reading once meter values are added.
use Rattle.std.specs.Prelude.{◌≡◌, ℕ, ◌+◌, ◌<◌, List, [], ◌∷◌, ◌++◌, length, filter, Bool, true, false, ◌&&◌, not, None, IfSome}
use Rattle.std.proofs.Common.{refl, sym, ◌∙◌, ap, arith, ⊎_elim, true≢false}
use Rattle.std.specs.List.{AllByRecursion}
use Rattle.std.specs.List.Sorted.{IsStrictlySortedBy}
use Rattle.std.proofs.lemmas.List.Kept.{IsStrictlySortedBy-filter}
use Rattle.std.specs.declared.cmp.Ordering.TheVariants.{Greater}
use Rattle.std.specs.Str.{bytes_eq}
use Rattle.hub_rows.specs.declared.change.Edit.{Edit}
use Rattle.hub_rows.specs.declared.change.Edit.TheVariants.{Stations, Tags, Transactions, Holdings}
use Rattle.hub_rows.specs.declared.change.StationEdit.TheVariants.{ReportSeen}
use Rattle.hub_rows.specs.declared.change.TagEdit.TheVariants.{TagDropped}
use Rattle.hub_rows.specs.declared.change.TransactionEdit.TheVariants.{TxStopped, MeterValuesAdded, Forgotten}
use Rattle.hub_rows.specs.declared.change.HoldingEdit.TheVariants.{ReservationDropped}
use Rattle.hub_rows.specs.declared.meter_value_row.MeterValue.{MeterValue}
use Rattle.hub_rows.specs.declared.meter_value_row.MeterValueRow.{MeterValueRow}
use Rattle.hub_rows.specs.declared.tx_row.Stop.{Stop}
use Rattle.hub_rows.specs.Changes.{edit, with_meter_values}
use Rattle.hub_rows.specs.Forgetting.{has_number, is_one_of}
use Rattle.hub_rows.specs.Keyed.{by_key, key_cmp, put, put_all, without}
use Rattle.hub_rows.specs.MeterValues.{all_taken, is_meter_value, last_number, last_reading_in, meter_values_in, meter_value_rows, number_of_last, numbers_taken}
use Rattle.hub_rows.specs.Rows.{Rows, meter_value_key}
use Rattle.hub_rows.specs.Transactions.{AreNext}
use Rattle.hub_rows.proofs.FilterLaws.{all-passed, all-these}
use Rattle.hub_rows.proofs.GrantLaws.{second}
use Rattle.hub_rows.proofs.ListLaws.{RespectsTies, all-put, all-weaker, and-true, by_key_total, filter-put, filter-put_not, head, put-last, same_text, sorted-put, text_itself, ties_key}
use Rattle.hub_rows.proofs.NumberLaws.{less-number, number-greater, same_station}
use Rattle.cached.specs.declared.reading_answer.ReadingAnswer.{ReadingAnswer}
use Rattle.cached.specs.ReadingAnswers.{changed_readings, IsAt, IsLast, IsNewLast}
use Rattle.cached.proofs.StationLaws.{flipped}

-- a meter value of a station
abbrev pub of_station : List ℕ → List ℕ → MeterValueRow → Bool
of_station a s r = bytes_eq r.op a && is_meter_value s None r

ties : (a s : List ℕ) → RespectsTies (by_key meter_value_key) (of_station a s)
ties a s = ties_key meter_value_key (λ ks. bytes_eq (head ks) a && (bytes_eq (second ks) s && true))

-- ---- meter values of another station

values-added : (a s b t : List ℕ) → bytes_eq b a && bytes_eq t s ≡ false → (first : ℕ) (values : List MeterValue) (xs : List MeterValueRow) → meter_values_in a s None (with_meter_values b t first values xs) ≡ meter_values_in a s None xs
values-added a s b t other first [] xs = refl
values-added a s b t other first (v ∷ vs) xs =
    let row : MeterValueRow = record { op = b; station = t; first = first; value = v } in
    values-added a s b t other (first + numbers_taken v) vs (put (by_key meter_value_key) row xs)
    ∙ filter-put_not (by_key meter_value_key) (of_station a s) (ties a s) row xs (ap (λ c. bytes_eq b a && c) (and-true (bytes_eq t s)) ∙ other)

-- those that pass the first test are none of those that are dropped
filter-kept : {R : Type 0} (p d : R → Bool) → ((r : R) → p r ≡ true → d r ≡ false) → (xs : List R) → filter p (filter (λ r. not (d r)) xs) ≡ filter p xs
filter-kept p d apart [] = refl
filter-kept p d apart (x ∷ xs) = grind (arith, filter-kept p d apart xs, apart x)

named_both : (p q : Bool) → p && (q && true) ≡ true → (p ≡ true) × (q ≡ true)
named_both true true e = (refl, refl)
named_both true false e = (refl, e)
named_both false q e = absurd (true≢false (sym e))

left_out : (p q h : Bool) → p && q ≡ false → p && (q && h) ≡ false
left_out p q h e = grind (arith, e)

values-forgotten : (a s b t : List ℕ) → bytes_eq a b && bytes_eq s t ≡ false → (numbers : List ℕ) (xs : List MeterValueRow) → meter_values_in a s None (without (λ r. r.op) b (is_one_of (λ r. r.station) (λ r. r.first) t numbers) xs) ≡ meter_values_in a s None xs
values-forgotten a s b t other numbers xs =
    filter-kept (of_station a s) (λ r. bytes_eq r.op b && is_one_of (λ x. x.station) (λ x. x.first) t numbers r)
    (λ r is.
    let named = named_both (bytes_eq r.op a) (bytes_eq r.station s) is in
    left_out (bytes_eq r.op b) (bytes_eq r.station t) (has_number numbers r.first) ((λ i. bytes_eq (same_text r.op a named.0 i) b && bytes_eq (same_text r.station s named.1 i) t) ∙ other)) xs

-- ---- the last number once meter values of the station are added

last-of_more : (rs : List MeterValueRow) (r : MeterValueRow) → number_of_last (rs ++ r ∷ []) ≡ last_number r
last-of_more [] r = refl
last-of_more (x ∷ []) r = refl
last-of_more (x ∷ y ∷ rs) r = last-of_more (y ∷ rs) r

module _ (b station : List ℕ) where
  abbrev IsMine : MeterValueRow → Type 0
  IsMine r = (r.op ≡ b) × (r.station ≡ station)

  -- one that begins before a number
  abbrev IsBefore : ℕ → MeterValueRow → Type 0
  IsBefore n r = IsMine r × (r.first < n)

  order : (r s : MeterValueRow) → IsMine r → IsMine s → by_key meter_value_key r s ≡ key_cmp ((r.first ∷ []) ∷ []) ((s.first ∷ []) ∷ [])
  order r s m n = (λ i. key_cmp (m.0 i ∷ m.1 i ∷ (r.first ∷ []) ∷ []) (n.0 i ∷ n.1 i ∷ (s.first ∷ []) ∷ [])) ∙ same_station b station ((r.first ∷ []) ∷ []) ((s.first ∷ []) ∷ [])

  -- all begin before a number that is behind the last
  all-before : (n : ℕ) (rs : List MeterValueRow) → AllByRecursion IsMine rs → IsStrictlySortedBy (by_key meter_value_key) rs → number_of_last rs < n → AllByRecursion (IsBefore n) rs
  unfolding IsStrictlySortedBy
  all-before n [] mine sorted behind = tt
  all-before n (r ∷ []) mine sorted behind = ((mine.0, omega (arith, behind)), tt)
  all-before n (r ∷ s ∷ rs) mine sorted behind =
      let rest = all-before n (s ∷ rs) mine.1 sorted.1 behind in
      let later : r.first < s.first = less-number r.first s.first (sym (order r s mine.0 mine.1.0) ∙ sorted.0.0) in
      let before : s.first < n = rest.0.1 in
      ((mine.0, omega (arith, later, before)), rest)

  last-added : (first : ℕ) (v : MeterValue) (vs : List MeterValue) (rs : List MeterValueRow) → AllByRecursion (IsBefore first) rs → number_of_last (put_all (by_key meter_value_key) (meter_value_rows b station first (v ∷ vs)) rs) + 1 ≡ first + all_taken (v ∷ vs)
  last-added first v [] rs before =
      let row : MeterValueRow = record { op = b; station = station; first = first; value = v } in
      let last = ap number_of_last (put-last (by_key meter_value_key) row rs (all-weaker (IsBefore first) (λ y. by_key meter_value_key row y ≡ Greater) (λ y at. order row y (refl, refl) at.0 ∙ number-greater first y.first at.1) rs before)) ∙ last-of_more rs row in
      omega (arith, last)
  last-added first v (w ∷ ws) rs before =
      let row : MeterValueRow = record { op = b; station = station; first = first; value = v } in
      let next = first + numbers_taken v in
      let all = all-put (by_key meter_value_key) (IsBefore next) row rs ((refl, refl), omega arith) (all-weaker (IsBefore first) (IsBefore next) (λ y at. let low = at.1 in (at.0, omega (arith, low))) rs before) in
      let more = last-added next w ws (put (by_key meter_value_key) row rs) all in
      omega (arith, more)

  values-put : (first : ℕ) (values : List MeterValue) (xs : List MeterValueRow) → IsStrictlySortedBy (by_key meter_value_key) xs → meter_values_in b station None (with_meter_values b station first values xs) ≡ put_all (by_key meter_value_key) (meter_value_rows b station first values) (meter_values_in b station None xs)
  values-put first [] xs sorted = refl
  values-put first (v ∷ vs) xs sorted =
      let row : MeterValueRow = record { op = b; station = station; first = first; value = v } in
      let next = first + numbers_taken v in
      values-put next vs (put (by_key meter_value_key) row xs) (sorted-put (by_key meter_value_key) (by_key_total meter_value_key) row xs sorted)
      ∙ ap (put_all (by_key meter_value_key) (meter_value_rows b station next vs))
      (filter-put (by_key meter_value_key) (by_key_total meter_value_key) (of_station b station) (ties b station) row xs sorted (λ i. text_itself b b refl i && (text_itself station station refl i && true)))

  -- the last of readings that are next is the station's last
  last-next : (first last : ℕ) (values : List MeterValue) (xs : List MeterValueRow) → IsStrictlySortedBy (by_key meter_value_key) xs → 0 < length values → last + 1 ≡ first + all_taken values → AreNext (last_reading_in b station xs) first (all_taken values)
      → last ≡ last_reading_in b station (with_meter_values b station first values xs)
  last-next first last [] xs sorted some count next = absurd (omega (arith, some))
  last-next first last (v ∷ vs) xs sorted some count next =
      let mine = all-weaker (λ r. Unit {0} × (of_station b station r ≡ true)) IsMine
      (λ r at. let named = named_both (bytes_eq r.op b) (bytes_eq r.station station) at.1 in (same_text r.op b named.0, same_text r.station station named.1))
      (meter_values_in b station None xs) (all-passed (λ r. Unit {0}) (of_station b station) xs (all-these (λ r. Unit {0}) (λ r. tt) xs)) in
      let before = all-before first (meter_values_in b station None xs) mine (IsStrictlySortedBy-filter (by_key meter_value_key) (of_station b station) xs sorted) (behind next) in
      let added = last-added first v vs (meter_values_in b station None xs) before in
      let here = ap number_of_last (values-put first (v ∷ vs) xs sorted) in
      omega (arith, count, added, here)
    where
      behind : AreNext (last_reading_in b station xs) first (all_taken (v ∷ vs)) → last_reading_in b station xs < first
      behind = ⊎_elim (λ none. absurd (omega (arith, none))) (λ follow. let one = follow.from_one in ⊎_elim (λ zero. omega (arith, zero, one)) (λ after. omega (arith, after)) follow.next)

abbrev pub IsLastOf : ℕ → List MeterValue → ℕ → Type 0
IsLastOf first values last = (0 < length values) × (last + 1 ≡ first + all_taken values)

pub last-by_added : (station : List ℕ) (first last : ℕ) (values : List MeterValue) → IsLastOf first values last → IsNewLast (MeterValuesAdded station first values) station last
last-by_added station first last values of b rows good fits = last-next b station first last values rows.meter_values good.meter_values.sorted of.0 of.1 fits.1

pub last-by_stop : (station : List ℕ) (number : ℕ) (stop : Stop) (first last : ℕ) (values : List MeterValue) → IsLastOf first values last → IsNewLast (TxStopped station number stop first values) station last
last-by_stop station number stop first last values of b rows good fits = last-next b station first last values rows.meter_values good.meter_values.sorted of.0 of.1 fits.1

-- what the rows give of the station that an answer is of
pub last_at : (rows : Rows) (answer : ReadingAnswer) (a name : List ℕ) → IsAt a name answer → last_reading_in answer.op answer.station rows.meter_values ≡ last_reading_in a name rows.meter_values
last_at rows answer a name at = λ i. last_reading_in (at.op i) (at.station i) rows.meter_values

-- an answer that is of a station is right where it has the number of its last reading
pub right_last : (rows : Rows) (answer : ReadingAnswer) (a name : List ℕ) (last : ℕ) → IsAt a name answer → answer.last ≡ last → last ≡ last_reading_in a name rows.meter_values → IsLast rows answer
right_last rows answer a name last at is found = is ∙ found ∙ sym (last_at rows answer a name at)

-- ---- the edits

-- an edit that changes no readings, or those of another station than that of an answer, leaves it right
pub kept_last : (b : List ℕ) (e : Edit) (rows : Rows) (answer : ReadingAnswer) → IfSome (changed_readings e) (λ t. bytes_eq answer.op b && bytes_eq answer.station t ≡ false) → IsLast rows answer → IsLast (edit b e rows) answer
kept_last b (Transactions (TxStopped station number stop first values)) rows answer other right =
    right ∙ sym (ap number_of_last (values-added answer.op answer.station b station (flipped answer.op answer.station b station other) first values rows.meter_values))
kept_last b (Transactions (MeterValuesAdded station first values)) rows answer other right =
    right ∙ sym (ap number_of_last (values-added answer.op answer.station b station (flipped answer.op answer.station b station other) first values rows.meter_values))
kept_last b (Transactions (Forgotten station gone)) rows answer other right =
    right ∙ sym (ap number_of_last (values-forgotten answer.op answer.station b station other gone.meter_values rows.meter_values))
kept_last b (Stations (ReportSeen station status moment)) rows answer other right = right
kept_last b (Tags (TagDropped key)) rows answer other right = right
kept_last b (Holdings (ReservationDropped station id)) rows answer other right = right
kept_last b e rows answer other right = right
