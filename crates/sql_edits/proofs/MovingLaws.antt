-- The readings of hub_reading that become meter values: none is lost, and none is new.
use Rattle.std.proofs.Common.{◌≡◌, ◌∙◌, ◌&&◌, ◌==◌, ℕ, nat_le, Bool, true, false, not, List, [], ◌∷◌, map, filter, Ordering, Less, Equal, Greater, refl, sym, ap, cond, subst, inl, inr, arith}
use Rattle.std.specs.Cmp.{IsTotalOrder}
use Rattle.std.specs.Ordering.{is_eq, ordering_reverse}
use Rattle.std.specs.List.Sorted.{IsStrictlySortedBy}
use Rattle.std.specs.Str.{bytes_eq}
use Rattle.std.proofs.lemmas.Bool.Decides.{nat_tests}
use Rattle.std.proofs.lemmas.Cmp.{tied_back, tied_itself}
use Rattle.sqlite_rules.specs.Lists.{Has}
use Rattle.sqlite_rules.proofs.ListLemmas.{all_from, all_has}
use Rattle.sqlite_rules.proofs.ProbeLemmas.{has_mapped}
use Rattle.sqlite_trees.specs.Tree.{Trees}
use Rattle.hub_rows.specs.declared.meter_value_row.MeterValueRow.{MeterValueRow}
use Rattle.hub_rows.specs.Keyed.{put, put_all}
use Rattle.hub_rows.specs.Rows.{Rows}
use Rattle.hub_rows.proofs.FilterLaws.{filter-all}
use Rattle.hub_rows.proofs.ListLaws.{by_key_total, sorted-put, three_parts}
use Rattle.sql_rows.specs.declared.reading_rows.ReadingRow.{ReadingRow}
use Rattle.sql_rows.specs.Kept.{IsDropped, IsPutIn, is_between}
use Rattle.sql_rows.specs.Opening.{as_meter_value}
use Rattle.sql_rows.specs.TypedTable.{cmp, rows_in, typed}
use Rattle.sql_rows.specs.TypedTables.{meter_values, readings, rows_of}
use Rattle.sql_rows.proofs.HubTables.{rest_is, same_in, spared}
use Rattle.sql_rows.proofs.MemberLaws.{arranged_from, arranged_has, has_new, is_arranged, put_from, put_spares, same_elements, sorted_single}
use Rattle.sql_rows.proofs.TxTables.{meter_values_made, on_meter_values, on_readings}
use Rattle.sql_edits.specs.Moving.{AreMoved, AreMoving, IsMoved}

-- ---- rows of different keys may be put in either order

module _ {R : Type 0} (c : R → R → Ordering) (order : IsTotalOrder c) where
  other_way : (a b : R) → (c a b ≡ Equal → ⊥) → (xs : List R) → IsStrictlySortedBy c xs → (x : R) → Has (put c a (put c b xs)) x → Has (put c b (put c a xs)) x
  other_way a b apart xs up x h = elim (put_from c order a (put c b xs) x (sorted-put c order b xs up) h) [
    | inl same ↦ subst (Has (put c b (put c a xs))) (sym same) (put_spares c order b (put c a xs) a (has_new c order a xs) apart)
    | inr before ↦ elim (put_from c order b xs x up before.0) [
      | inl same ↦ subst (Has (put c b (put c a xs))) (sym same) (has_new c order b (put c a xs))
      | inr was ↦ put_spares c order b (put c a xs) x (put_spares c order a xs x was.0 before.1) was.1
    ]
  ]

  swapped : (a b : R) → c a b ≡ Less → (xs : List R) → IsStrictlySortedBy c xs → put c a (put c b xs) ≡ put c b (put c a xs)
  swapped a b below xs up =
      let apart : c a b ≡ Equal → ⊥ = λ tie. let e = sym below ∙ tie in cc in
      same_elements c order (put c a (put c b xs)) (put c b (put c a xs)) (sorted-put c order a (put c b xs) (sorted-put c order b xs up)) (sorted-put c order b (put c a xs) (sorted-put c order a xs up))
      (other_way a b apart xs up) (other_way b a (λ tie. apart (tied_back order b a tie)) xs up)

-- ---- a reading that is moved

abbrev AreReadings : List ReadingRow → Type 0
AreReadings = IsStrictlySortedBy (cmp readings)

abbrev AreValues : List MeterValueRow → Type 0
AreValues = IsStrictlySortedBy (cmp meter_values)

abbrev is_it : ReadingRow → ReadingRow → Bool
is_it x = is_between (λ r. r.op) (λ r. r.station) (λ r. r.number) x.op x.station x.number x.number

one_number : (m n : ℕ) → nat_le m n && nat_le n m ≡ (n == m)
one_number m n = grind (arith, nat_tests)

by_its_key : (x r : ReadingRow) → is_it x r ≡ is_eq (cmp readings r x)
by_its_key x r = ap (λ b. bytes_eq r.op x.op && (bytes_eq r.station x.station && b)) (one_number x.number r.number) ∙ three_parts r.op r.station x.op x.station r.number x.number

other_key : (x r : ReadingRow) (o : Ordering) → cmp readings r x ≡ o → is_eq o ≡ false → not (is_it x r) ≡ true
other_key x r o e other = ap not (by_its_key x r ∙ ap is_eq e ∙ other)

-- the readings but one, which is put: they become the same meter values
one_put : (x : ReadingRow) (rows : List ReadingRow) → AreReadings rows → Has rows x → (values : List MeterValueRow) → AreValues values
    → put_all (cmp meter_values) (map as_meter_value (filter (λ r. not (is_it x r)) rows)) (put (cmp meter_values) (as_meter_value x) values) ≡ put_all (cmp meter_values) (map as_meter_value rows) values
unfolding IsStrictlySortedBy
one_put x [] up none values values_up = absurd none
one_put x (r ∷ rows) up (inl same) values values_up =
    let rest : List ReadingRow = filter (λ y. not (is_it x y)) rows in
    let order = by_key_total readings.key in
    let its : is_it x r ≡ true = by_its_key x r ∙ ap (λ y. is_eq (cmp readings y x)) (sym same) ∙ ap is_eq (tied_itself order x) in
    let others : rest ≡ rows = filter-all (λ y. not (is_it x y)) rows
    (all_from (λ y. not (is_it x y) ≡ true) rows (λ y h. other_key x y Greater (order.antisymm y x ∙ ap ordering_reverse (ap (λ z. cmp readings z y) same ∙ all_has (λ z. cmp readings r z ≡ Less) rows y up.0 h)) refl)) in
    (λ i. put_all (cmp meter_values) (map as_meter_value (cond (not (its i)) (r ∷ rest) rest)) (put (cmp meter_values) (as_meter_value x) values))
    ∙ (λ i. put_all (cmp meter_values) (map as_meter_value (others i)) (put (cmp meter_values) (as_meter_value (same i)) values))
one_put x (r ∷ rows) up (inr later) values values_up =
    let rest : List ReadingRow = filter (λ y. not (is_it x y)) rows in
    let below : cmp readings r x ≡ Less = all_has (λ z. cmp readings r z ≡ Less) rows x up.0 later in
    let stays : not (is_it x r) ≡ true = other_key x r Less below refl in
    (λ i. put_all (cmp meter_values) (map as_meter_value (cond (stays i) (r ∷ rest) rest)) (put (cmp meter_values) (as_meter_value x) values))
    ∙ ap (put_all (cmp meter_values) (map as_meter_value rest)) (swapped (cmp meter_values) (by_key_total meter_values.key) (as_meter_value r) (as_meter_value x) below values values_up)
    ∙ one_put x rows up.1 later (put (cmp meter_values) (as_meter_value r) values) (sorted-put (cmp meter_values) (by_key_total meter_values.key) (as_meter_value r) values values_up)

readings_up : (db : Trees) → AreReadings (rows_in readings db)
readings_up db = is_arranged (cmp readings) (by_key_total readings.key) (map (typed readings) (db readings.table.tree))

values_up : (db : Trees) → AreValues (rows_in meter_values db)
values_up db = is_arranged (cmp meter_values) (by_key_total meter_values.key) (map (typed meter_values) (db meter_values.table.tree))

pub row_moved : (row : ReadingRow) (a b c : Trees) → IsDropped readings (is_it row) a b → IsPutIn meter_values (as_meter_value row) b c → IsMoved row a c
row_moved row a b c dropped added = record {
  left = same_in readings 26 b c on_readings.listed added.frame (λ e. cc) ∙ dropped.rows;
  values = added.rows ∙ ap (put (cmp meter_values) (as_meter_value row)) (same_in meter_values 12 a b on_meter_values.listed dropped.frame (λ e. cc));
  others = meter_values_made b c (rows_in meter_values c) refl added.frame ∙ ap (λ (rows : Rows). record rows { meter_values = rows_in meter_values c }) (ap rows_of (rest_is (12 ∷ []) a b (spared 12 a b dropped.frame)));
}

-- ---- one after the other

pub one_moved : (row : ReadingRow) (a b : Trees) → Has (rows_in readings a) row → IsMoved row a b → AreMoving a b
one_moved row a b there moved = record {
  all = (λ i. put_all (cmp meter_values) (map as_meter_value (moved.left i)) (moved.values i)) ∙ one_put row (rows_in readings a) (readings_up a) there (rows_in meter_values a) (values_up a);
  others = moved.others;
}

pub more_moved : (a b c : Trees) → AreMoving a b → AreMoving b c → AreMoving a c
more_moved a b c p q = record { all = q.all ∙ p.all; others = q.others ∙ ap (λ (rows : Rows). record rows { meter_values = rows_in meter_values c }) p.others }

become_up : (rows : List ReadingRow) → AreReadings rows → AreValues (map as_meter_value rows)
unfolding IsStrictlySortedBy
become_up [] up = tt
become_up (r ∷ rows) up = (
  all_from (λ v. cmp meter_values (as_meter_value r) v ≡ Less) (map as_meter_value rows) (λ v h. let m = has_mapped as_meter_value rows v h in ap (cmp meter_values (as_meter_value r)) m.2 ∙ all_has (λ y. cmp readings r y ≡ Less) rows m.0 up.0 m.1),
  become_up rows up.1,
)

-- rows that are in order stay
all_put : (values : List MeterValueRow) → AreValues values → put_all (cmp meter_values) values [] ≡ values
all_put values up =
    let order = by_key_total meter_values.key in
    same_elements (cmp meter_values) order (put_all (cmp meter_values) values []) values (is_arranged (cmp meter_values) order values) up (arranged_from (cmp meter_values) order values)
    (λ v h. arranged_has (cmp meter_values) order values v (sorted_single (cmp meter_values) order values up) h)

-- once none is left
pub all_moved : (old new : Trees) → rows_in meter_values old ≡ [] → AreMoving old new → rows_in readings new ≡ [] → AreMoved old new
all_moved old new none moved left_none =
    let each : List MeterValueRow = map as_meter_value (rows_in readings old) in
    moved.others
    ∙ ap (λ values. record (rows_of old) { meter_values = values })
    ((λ i. put_all (cmp meter_values) (map as_meter_value (sym left_none i)) (rows_in meter_values new)) ∙ moved.all ∙ ap (put_all (cmp meter_values) each) none ∙ all_put each (become_up (rows_in readings old) (readings_up old)))
