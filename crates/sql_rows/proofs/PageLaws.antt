-- What ORDER BY .. LIMIT shows of typed rows: the first of those that pass.
use Rattle.std.proofs.Common.{◌≡◌, ℕ, zero, suc, ◌<◌, ◌≤◌, pos, List, [], ◌∷◌, ◌++◌, map, flat_map, filter, take, Bool, true, false, cond, refl, sym, ap, ◌∙◌, subst, subst₂, arith, inl, inr, Ordering, Less, Equal, IsPermutation}
use Rattle.std.specs.List.{AllByRecursion, list_all}
use Rattle.std.specs.List.Sorted.{IsSortedBy, IsStrictlySortedBy}
use Rattle.std.specs.Cmp.{IsTotalOrder, nat_cmp_is}
use Rattle.std.specs.Ordering.{is_lt, nat_cmp}
use Rattle.std.proofs.lemmas.Cmp.{tied_back, tied_itself}
use Rattle.std.proofs.lemmas.List.{take-map}
use Rattle.std.proofs.lemmas.List.Sorted.{IsPermutation-sym}
use Rattle.sqlite_value.specs.declared.value.Value.TheVariants.{Int}
use Rattle.sqlite_value.specs.Order.{Row, column, value_cmp}
use Rattle.sqlite_value.proofs.OrderLemmas.{value_cmp_total, value_cmp-Int}
use Rattle.sqlite_trees.specs.Tree.{Trees, rowid, IsAscending}
use Rattle.sqlite_trees.proofs.ListLemmas.{along_permutation, ascending-filter, ascending_weaker, pull_back}
use Rattle.sqlite_schema.specs.Rules.{Obeys}
use Rattle.sqlite_sql.specs.Term.{Term, lit, holds}
use Rattle.sqlite_sql.specs.Query.{IsAnswer, Output, output, output_cmp}
use Rattle.sqlite_sql.specs.Program.{overlay}
use Rattle.sqlite_rules.specs.Lists.{Has}
use Rattle.sqlite_rules.proofs.ListLemmas.{all_from, all_has, has_filtered, has_kept}
use Rattle.sqlite_rules.proofs.ProbeLemmas.{has_mapped, mapped_has}
use Rattle.hub_rows.specs.Keyed.{put_all}
use Rattle.hub_rows.proofs.ListLaws.{by_key_total}
use Rattle.sql_tables.specs.Tables.{hub_schema}
use Rattle.sql_tables.specs.Forms.{by_column, page_query}
use Rattle.sql_rows.specs.TypedTable.{TypedTable, typed, cmp, rows_in, AreTyped}
use Rattle.sql_rows.specs.TypedTables.{hub_good}
use Rattle.sql_rows.proofs.DownLaws.{not_above}
use Rattle.sql_rows.proofs.LastLaws.{first_most, less_not, not_less, on_and_on, rest_sorted}
use Rattle.sql_rows.proofs.MemberLaws.{arranged_from, arranged_has, is_arranged, same_elements, sorted_filter, sorted_single}
use Rattle.sql_rows.proofs.QueryLemmas.{has_permuted, ordered_from, ordered_has}
use Rattle.sql_rows.proofs.ReadLaws.{IsNumbered, IsTest, IsWhole, number_of, passes, read_is}
use Rattle.sql_rows.proofs.TypedTableLemmas as typed_table
use Rattle.sql_rows.proofs.TypedTableLemmas.{IsTypedTable}

-- ---- lists

-- one of each that passes
each_kept : {X E O : Type 0} (w : X → Bool) (env : X → E) (f : E → O) (xs : List X) → map f (flat_map (λ x. cond (w x) (env x ∷ []) []) xs) ≡ map (λ x. f (env x)) (filter w xs)
each_kept w env f [] = refl
each_kept w env f (x ∷ xs) =
    elim (w x) as (λ b. map f (cond b (env x ∷ []) [] ++ flat_map (λ y. cond (w y) (env y ∷ []) []) xs) ≡ map (λ y. f (env y)) (cond b (x ∷ filter w xs) (filter w xs))) [
      | true ↦ ap (λ l. f (env x) ∷ l) (each_kept w env f xs)
      | false ↦ each_kept w env f xs
    ]

module _ {X : Type 0} (R : X → X → Type 0) (turned : (x y : X) → R x y → R y x) where
  abbrev Carries : List X → List X → Type 0
  Carries xs ys = ((x : X) → AllByRecursion (R x) xs → AllByRecursion (R x) ys) × (IsAscending R xs → IsAscending R ys)

  -- what holds of each two of a list holds of each two of its permutations
  ascending_permuted : (xs ys : List X) → IsPermutation xs ys → IsAscending R xs → IsAscending R ys
  ascending_permuted xs ys same = (along_permutation Carries
      (λ xs. (λ x h. h, λ h. h))
      (λ x xs ys h. (λ z k. (k.0, h.0 z k.1), λ k. (h.0 x k.0, h.1 k.1)))
      (λ x y xs. (λ z k. (k.1.0, (k.0, k.1.1)), λ k. ((turned x y k.0.0, k.1.0), (k.0.1, k.1.1))))
      (λ xs ys zs h k. (λ x l. k.0 x (h.0 x l), λ l. k.1 (h.1 l))) xs ys same).1

module _ {R : Type 0} (c : R → R → Ordering) (o : IsTotalOrder c) where
  -- a list in order is arranged already
  arranged_is : (xs : List R) → IsStrictlySortedBy c xs → put_all c xs [] ≡ xs
  arranged_is xs up = same_elements c o (put_all c xs []) xs (is_arranged c o xs) up (arranged_from c o xs) (λ x h. arranged_has c o xs x (sorted_single c o xs up) h)

  front_all : (P : R → Type 0) (n : ℕ) (xs : List R) → AllByRecursion P xs → AllByRecursion P (take n xs)
  front_all P zero xs all = tt
  front_all P (suc n) [] all = tt
  front_all P (suc n) (x ∷ xs) all = (all.0, front_all P n xs all.1)

  front_sorted : (n : ℕ) (xs : List R) → IsStrictlySortedBy c xs → IsStrictlySortedBy c (take n xs)
  unfolding IsStrictlySortedBy
  front_sorted zero xs up = tt
  front_sorted (suc n) [] up = tt
  front_sorted (suc n) (x ∷ xs) up = (front_all (λ y. c x y ≡ Less) n xs up.0, front_sorted n xs up.1)

-- ---- what is shown, and what stands behind it

module _ (tree : ℕ) (wanted project : List Term) (at most : ℕ) (db : Trees) (params : Row) (rows : List Row) (answer : IsAnswer (page_query tree wanted project at most) db params rows) where
  abbrev pub passing : Row → Type 0
  passing r = list_all (holds (params ∷ r ∷ [])) wanted ≡ true

  abbrev pub out_of : Row → Output
  out_of r = output (page_query tree wanted project at most) (params ∷ r ∷ [])

  abbrev pub lt : Output → Output → Bool
  lt x y = is_lt (output_cmp (page_query tree wanted project at most) x y)

  pub still : (a b c : Output) → lt b a ≡ false → lt c b ≡ false → lt c a ≡ false
  still a b c p q =
      less_not (value_cmp (column c.0 0) (column a.0 0)) (on_and_on value_cmp value_cmp_total (column c.0 0) (column b.0 0) (column a.0 0) (not_less (value_cmp (column c.0 0) (column b.0 0)) q) (not_less (value_cmp (column b.0 0) (column a.0 0)) p))

  pub there_is : (r : Row) → Has (db tree) r → passing r → Has answer.ordered (out_of r)
  there_is = ordered_has wanted project (by_column at ∷ []) (lit (Int (pos most))) db tree params rows answer

  pub comes_from : (o : Output) → Has answer.ordered o → (r : Row) × Has (db tree) r × passing r × (o ≡ out_of r)
  comes_from = ordered_from wanted project (by_column at ∷ []) (lit (Int (pos most))) db tree params rows answer

  abbrev that_pass : List Row
  that_pass = filter (λ r. list_all (holds (params ∷ r ∷ [])) wanted) (db tree)

  -- the rows that pass, in their order
  pub in_turn : (to : List Row) × IsPermutation that_pass to × (answer.ordered ≡ map out_of to)
  in_turn = pull_back out_of answer.kept answer.ordered answer.same that_pass
      (answer.distinct ∙ ap (map (output (page_query tree wanted project at most))) answer.grouped
      ∙ each_kept (λ r. list_all (holds (params ∷ r ∷ [])) wanted) (λ r. params ∷ r ∷ []) (output (page_query tree wanted project at most)) (db tree))

-- ---- a page of typed rows

-- rows that pass are in the order of their numbers
abbrev pub IsOrdered : {T : Type 0} → TypedTable T → (T → ℕ) → (T → Bool) → Type 0
IsOrdered {T} s number p = (a b : T) → p a ≡ true → p b ≡ true → cmp s a b ≡ nat_cmp (number a) (number b)

module _ {T : Type 0} (at : ℕ) (s : TypedTable T) (is : IsTypedTable hub_schema hub_good at s) (wanted project : List Term) (whole : IsWhole s project) (params : Row) (p : T → Bool) (test : IsTest s wanted params p)
    (place most : ℕ) (number : T → ℕ) (numbered : IsNumbered s number place) (ordered : IsOrdered s number p)
    (db : Trees) (kept : AreTyped hub_schema hub_good db) (obeys : Obeys hub_schema db) (rows : List Row) (answer : IsAnswer (page_query s.table.tree wanted project place most) (overlay db []) params rows) where
  abbrev out : Row → Output
  out = out_of s.table.tree wanted project place most (overlay db []) params rows answer

  abbrev below : Output → Output → Bool
  below = lt s.table.tree wanted project place most (overlay db []) params rows answer

  going_on : (a b c : Output) → below b a ≡ false → below c b ≡ false → below c a ≡ false
  going_on = still s.table.tree wanted project place most (overlay db []) params rows answer

  abbrev found : (to : List Row) × IsPermutation (that_pass s.table.tree wanted project place most (overlay db []) params rows answer) to × (answer.ordered ≡ map out to)
  found = in_turn s.table.tree wanted project place most (overlay db []) params rows answer

  abbrev to : List Row
  to = found.0

  abbrev passed : List Row
  passed = filter (λ r. list_all (holds (params ∷ r ∷ [])) wanted) (db s.table.tree)

  same : IsPermutation passed to
  same = subst (λ l. IsPermutation (filter (λ r. list_all (holds (params ∷ r ∷ [])) wanted) l) to) (is.base db) found.1

  abbrev those : List T
  those = filter p (rows_in s db)

  test_is : (r : Row) → Has (db s.table.tree) r → list_all (holds (params ∷ r ∷ [])) wanted ≡ p (typed s r)
  test_is = passes hub_schema hub_good at s is wanted params p test db kept

  number_is : (r : Row) → Has (db s.table.tree) r → column r place ≡ Int (pos (number (typed s r)))
  number_is = number_of hub_schema hub_good at s is wanted params p test db kept place number numbered

  -- each is of the table, and passes
  abbrev IsThere : Row → Type 0
  IsThere r = Has (db s.table.tree) r × (p (typed s r) ≡ true)

  is_there : (r : Row) → Has to r → IsThere r
  is_there r h =
      let f = has_filtered (λ r. list_all (holds (params ∷ r ∷ [])) wanted) (db s.table.tree) r (has_permuted to passed r (IsPermutation-sym passed to same) h) in
      (f.0, sym (test_is r f.0) ∙ f.1)

  abbrev Differ : Row → Row → Type 0
  Differ a b = value_cmp (rowid a) (rowid b) ≡ Equal → ⊥

  each_once : IsAscending Differ to
  each_once = ascending_permuted Differ (λ a b apart tie. apart (tied_back value_cmp_total (rowid b) (rowid a) tie)) passed to same
      (ascending_weaker (λ a b. value_cmp (rowid a) (rowid b) ≡ Less) Differ (λ a b less tie. let e = sym less ∙ tie in cc) passed
      (ascending-filter (λ a b. value_cmp (rowid a) (rowid b) ≡ Less) (λ r. list_all (holds (params ∷ r ∷ [])) wanted) (db s.table.tree) (typed_table.table_in hub_schema hub_good at s is db kept)))

  -- a row is below a later one
  before : (r u : Row) → IsThere r → IsThere u → Differ r u → below (out u) (out r) ≡ false → cmp s (typed s r) (typed s u) ≡ Less
  before r u h k apart order = ordered (typed s r) (typed s u) h.1 k.1 ∙ sym (nat_cmp_is (number (typed s r)) (number (typed s u)) Less lower)
    where
      high : number (typed s r) ≤ number (typed s u)
      high = not_above (number (typed s u)) (number (typed s r)) (λ less. not_less (value_cmp (column u place) (column r place)) order
          (subst₂ (λ a b. value_cmp a b ≡ Less) (sym (number_is u k.0)) (sym (number_is r h.0)) (value_cmp-Int (pos (number (typed s u))) (pos (number (typed s r))) ∙ less)))

      other : number (typed s r) ≡ number (typed s u) → ⊥
      other one =
          let tie : cmp s (typed s r) (typed s u) ≡ Equal = ordered (typed s r) (typed s u) h.1 k.1 ∙ sym (nat_cmp_is (number (typed s r)) (number (typed s u)) Equal one) in
          let first = typed_table.typed_is hub_schema hub_good at s is db kept r h.0 in
          let second = typed_table.typed_is hub_schema hub_good at s is db kept u k.0 in
          let one_row : r ≡ u = typed_table.one_row hub_schema hub_good at s is db kept obeys r u h.0 k.0 (rw (first, second) at tie) in
          apart (ap (λ x. value_cmp (rowid r) (rowid x)) (sym one_row) ∙ tied_itself value_cmp_total (rowid r))

      lower : number (typed s r) < number (typed s u)
      lower = omega (arith, high, other)

  up : (rs : List Row) → ((r : Row) → Has rs r → IsThere r) → IsAscending Differ rs → IsSortedBy below (map out rs) → IsStrictlySortedBy (cmp s) (map (typed s) rs)
  unfolding IsStrictlySortedBy
  up [] each once order = tt
  up (r ∷ rs) each once order = (
    all_from (λ t. cmp s (typed s r) t ≡ Less) (map (typed s) rs) (λ t h.
        let u = has_mapped (typed s) rs t h in
        subst (λ x. cmp s (typed s r) x ≡ Less) (sym u.2)
        (before r u.0 (each r (inl refl)) (each u.0 (inr u.1)) (all_has (Differ r) rs u.0 once.0 u.1) (first_most below going_on (map out rs) (out r) order (out u.0) (mapped_has out rs u.0 u.1)))),
    up rs (λ u h. each u (inr h)) once.1 (rest_sorted below going_on (out r) (map out rs) order),
  )

  -- they are the typed rows that pass
  all_those : map (typed s) to ≡ those
  all_those =
      same_elements (cmp s) (by_key_total s.key) (map (typed s) to) those (up to is_there each_once (subst (IsSortedBy below) found.2 answer.sorted))
      (sorted_filter (cmp s) (by_key_total s.key) p (rows_in s db) (is_arranged (cmp s) (by_key_total s.key) (map (typed s) (db s.table.tree))))
      (λ t h.
      let r = has_mapped (typed s) to t h in
      let there = is_there r.0 r.1 in
      subst (Has those) (sym r.2) (has_kept p (rows_in s db) (typed s r.0) (typed_table.rows_have hub_schema hub_good at s is db kept obeys r.0 there.0) there.1))
      (λ t h.
      let f = has_filtered p (rows_in s db) t h in
      let r = typed_table.rows_from hub_schema hub_good at s is db kept obeys t f.0 in
      subst (Has (map (typed s) to)) (sym r.2) (mapped_has (typed s) to r.0 (has_permuted passed to r.0 same
      (has_kept (λ r. list_all (holds (params ∷ r ∷ [])) wanted) (db s.table.tree) r.0 r.1 (test_is r.0 r.1 ∙ subst (λ u. p u ≡ true) r.2 f.1)))))

  read_each : (rs : List Row) → ((r : Row) → Has rs r → IsThere r) → map s.read (map (λ (o : Output). o.1) (map out rs)) ≡ map (typed s) rs
  read_each [] each = refl
  read_each (r ∷ rs) each = λ i. read_is hub_schema hub_good at s is wanted params p test db kept project whole r (each r (inl refl)).0 i ∷ read_each rs (λ u h. each u (inr h)) i

  pub page_is : put_all (cmp s) (map s.read rows) [] ≡ take most those
  page_is =
      ap (λ l. put_all (cmp s) l [])
      (ap (map s.read) (answer.shown ∙ ap (λ (l : List Output). take most (map (λ o. o.1) l)) found.2)
      ∙ sym (take-map s.read most (map (λ (o : Output). o.1) (map out to)))
      ∙ ap (take most) (read_each to is_there ∙ all_those))
      ∙ arranged_is (cmp s) (by_key_total s.key) (take most those)
      (front_sorted (cmp s) (by_key_total s.key) most those (sorted_filter (cmp s) (by_key_total s.key) p (rows_in s db) (is_arranged (cmp s) (by_key_total s.key) (map (typed s) (db s.table.tree)))))
