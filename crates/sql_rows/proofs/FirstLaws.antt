-- What ORDER BY .. LIMIT 1 shows of a text that the rows are in the order of: that of the first row that passes.
use Rattle.std.proofs.Common.{◌≡◌, ◌⊎◌, ℕ, List, [], ◌∷◌, map, filter, find, take, option_map, Some, ℤ, Bool, true, false, refl, sym, ap, ◌∙◌, subst, subst₂, inl, inr, Ordering, Less, Equal, Greater}
use Rattle.std.specs.List.Sorted.{IsSortedBy, IsStrictlySortedBy}
use Rattle.std.specs.Ordering.{ordering_reverse, ordering_then}
use Rattle.std.proofs.lemmas.Cmp.{nat_list_cmp_total, tied_itself}
use Rattle.std.proofs.lemmas.Map.Lookups.{exact_bytes}
use Rattle.sqlite_value.specs.declared.value.Value.TheVariants.{Int, Text}
use Rattle.sqlite_value.specs.Order.{Row, column, value_cmp}
use Rattle.sqlite_value.proofs.OrderLemmas.{value_cmp_total}
use Rattle.sqlite_trees.specs.Tree.{Trees}
use Rattle.sqlite_trees.proofs.TreeLemmas.{above}
use Rattle.sqlite_schema.specs.Rules.{Obeys}
use Rattle.sqlite_sql.specs.Term.{Term, eval_all}
use Rattle.sqlite_sql.specs.Query.{IsAnswer, Output}
use Rattle.sqlite_sql.specs.Program.{overlay}
use Rattle.sqlite_rules.specs.Lists.{Has}
use Rattle.sqlite_rules.proofs.ListLemmas.{all_has, has_filtered, has_kept}
use Rattle.hub_rows.specs.Keyed.{first, text_cmp}
use Rattle.hub_rows.proofs.ListLaws.{by_key_total}
use Rattle.hub_rows.proofs.OrderLaws.{find-first}
use Rattle.sql_tables.specs.Tables.{hub_schema}
use Rattle.sql_tables.specs.Forms.{page_query}
use Rattle.sql_rows.specs.TypedTable.{TypedTable, typed, cmp, rows_in, AreTyped}
use Rattle.sql_rows.specs.TypedTables.{hub_good}
use Rattle.sql_rows.specs.Values.{first_text}
use Rattle.sql_rows.proofs.DownLaws.{none_left}
use Rattle.sql_rows.proofs.LastLaws.{first_most, less_not, not_less}
use Rattle.sql_rows.proofs.MemberLaws.{is_arranged, sorted_filter}
use Rattle.sql_rows.proofs.PageLaws.{comes_from, lt, out_of, passing, still, there_is}
use Rattle.sql_rows.proofs.ReadLaws.{AreCells, IsTest, based, cells_are, passes}
use Rattle.sql_rows.proofs.TypedTableLemmas as typed_table
use Rattle.sql_rows.proofs.TypedTableLemmas.{IsTypedTable}

-- ---- texts in order

text_order : (s t : List ℕ) → value_cmp (Text s) (Text t) ≡ text_cmp s t
unfolding value_cmp lib.Ieee.is_nan lib.Ieee.lt
text_order s t = refl

-- texts that are below each other in neither way are one
one_of_neither : (s t : List ℕ) → (text_cmp s t ≡ Less → ⊥) → (text_cmp t s ≡ Less → ⊥) → s ≡ t
one_of_neither s t p q = go (text_cmp s t) refl
  where
    go : (o : Ordering) → text_cmp s t ≡ o → s ≡ t
    go Less e = absurd (p e)
    go Equal e = exact_bytes s t e
    go Greater e = absurd (q (above nat_list_cmp_total s t e))

-- a text that leads keys in order isn't above that of a later one
pub led_by : (s t : List ℕ) (rest : Ordering) → ordering_then (text_cmp s t) rest ≡ Less → text_cmp t s ≡ Less → ⊥
led_by s t rest less low =
    let over : text_cmp s t ≡ Greater = nat_list_cmp_total.antisymm s t ∙ ap ordering_reverse low in
    let never : Greater ≡ Less = sym (ap (λ o. ordering_then o rest) over) ∙ less in
    cc

-- ---- the first row that is shown

module _ (tree : ℕ) (wanted project : List Term) (at : ℕ) (db : Trees) (params : Row) (rows : List Row) (answer : IsAnswer (page_query tree wanted project at 1) db params rows) where
  abbrev Passing : Row → Type 0
  Passing = passing tree wanted project at 1 db params rows answer

  abbrev shown_of : Row → Output
  shown_of = out_of tree wanted project at 1 db params rows answer

  abbrev below : Output → Output → Bool
  below = lt tree wanted project at 1 db params rows answer

  -- no row passes, or the one that is shown passes and no other that does is below it
  abbrev pub IsFirst : Type 0
  IsFirst = ((rows ≡ []) × ((r : Row) → Has (db tree) r → Passing r → ⊥))
      ⊎ ((r : Row) × Has (db tree) r × Passing r × (rows ≡ eval_all project (params ∷ r ∷ []) ∷ []) × ((u : Row) → Has (db tree) u → Passing u → value_cmp (column u at) (column r at) ≡ Less → ⊥))

  pub first_shown : IsFirst
  first_shown = go answer.ordered refl
    where
      go : (os : List Output) → answer.ordered ≡ os → IsFirst
      go [] e = inl (answer.shown ∙ ap (λ (l : List Output). take 1 (map (λ o. o.1) l)) e, λ r h test. subst (λ l. Has l (shown_of r)) e (there_is tree wanted project at 1 db params rows answer r h test))
      go (o ∷ os) e =
          let r = comes_from tree wanted project at 1 db params rows answer o (subst (λ l. Has l o) (sym e) (inl refl)) in
          let up : IsSortedBy below (o ∷ os) = subst (λ l. IsSortedBy below l) e answer.sorted in
          inr (
            r.0,
            r.1,
            r.2,
            answer.shown ∙ ap (λ (l : List Output). take 1 (map (λ o. o.1) l)) e ∙ ap (λ (x : Output). x.1 ∷ []) r.3,
            λ u h test.
                let place = subst (λ l. Has l (shown_of u)) e (there_is tree wanted project at 1 db params rows answer u h test) in
                let over : below (shown_of u) (shown_of r.0) ≡ false = elim place [
                  | inl same ↦ subst (λ w. below w (shown_of r.0) ≡ false) (sym (same ∙ r.3)) (less_not (value_cmp (column r.0 at) (column r.0 at)) (λ low. let tie = tied_itself value_cmp_total (column r.0 at) in cc))
                  | inr later ↦ subst (λ w. below (shown_of u) w ≡ false) r.3 (first_most below (still tree wanted project at 1 db params rows answer) os o up (shown_of u) later)
                ] in
                not_less (value_cmp (column u at) (column r.0 at)) over,
          )

-- ---- the text of the first row

-- the column at that place is the text of a row
abbrev pub IsTexted : {T : Type 0} → TypedTable T → (T → List ℕ) → ℕ → Type 0
IsTexted {T} s text place = (id : ℤ) (t : T) → column (Int id ∷ s.row t) place ≡ Text (text t)

-- no row has a text below that of a row before it
abbrev pub IsLed : {T : Type 0} → TypedTable T → (T → List ℕ) → Type 0
IsLed {T} s text = (a b : T) → cmp s a b ≡ Less → text_cmp (text b) (text a) ≡ Less → ⊥

module _ {T : Type 0} (at : ℕ) (s : TypedTable T) (is : IsTypedTable hub_schema hub_good at s) (wanted project : List Term) (params : Row) (p : T → Bool) (test : IsTest s wanted params p)
    (place : ℕ) (text : T → List ℕ) (texted : IsTexted s text place) (shown : AreCells s project (λ t. Text (text t) ∷ [])) (led : IsLed s text)
    (db : Trees) (kept : AreTyped hub_schema hub_good db) (obeys : Obeys hub_schema db) (rows : List Row) (answer : IsAnswer (page_query s.table.tree wanted project place 1) (overlay db []) params rows) where
  abbrev those : List T
  those = filter p (rows_in s db)

  row_of : (t : T) → Has those t → (r : Row) × Has (db s.table.tree) r × (t ≡ typed s r) × (p t ≡ true)
  row_of t h =
      let f = has_filtered p (rows_in s db) t h in
      let r = typed_table.rows_from hub_schema hub_good at s is db kept obeys t f.0 in
      (r.0, r.1, r.2, f.1)

  test_is : (r : Row) → Has (db s.table.tree) r → (t : T) → t ≡ typed s r → p t ≡ true → passing s.table.tree wanted project place 1 (overlay db []) params rows answer r
  test_is r h t e good = passes hub_schema hub_good at s is wanted params p test db kept r h ∙ subst (λ u. p u ≡ true) e good

  text_at : (r : Row) → Has (db s.table.tree) r → column r place ≡ Text (text (typed s r))
  text_at r h =
      let u = typed_table.row_in hub_schema hub_good at s is db kept r h in
      ap (λ (x : Row). column x place) u.2 ∙ texted u.0 u.1 ∙ ap (λ t. Text (text t)) (sym (typed_table.typed_is hub_schema hub_good at s is db kept r h))

  in_order : IsStrictlySortedBy (cmp s) those
  in_order = sorted_filter (cmp s) (by_key_total s.key) p (rows_in s db) (is_arranged (cmp s) (by_key_total s.key) (map (typed s) (db s.table.tree)))

  -- a row that passes and whose text none is below has the text of the first
  leads : (t : T) → ((u : T) → Has those u → text_cmp (text u) (text t) ≡ Less → ⊥) → (l : List T) → those ≡ l → Has l t → option_map text (first l) ≡ Some (text t)
  unfolding IsStrictlySortedBy
  leads t least [] e h = absurd h
  leads t least (x ∷ xs) e (inl same) = ap (λ u. Some (text u)) (sym same)
  leads t least (x ∷ xs) e (inr later) =
      let up : IsStrictlySortedBy (cmp s) (x ∷ xs) = subst (IsStrictlySortedBy (cmp s)) e in_order in
      ap Some (one_of_neither (text x) (text t) (least x (subst (λ l. Has l x) (sym e) (inl refl))) (led x t (all_has (λ r. cmp s x r ≡ Less) xs t up.0 later)))

  shown_first : option_map first_text (first rows) ≡ option_map text (first those)
  shown_first = elim (first_shown s.table.tree wanted project place (overlay db []) params rows answer) [
    | inl none ↦
        let empty : those ≡ [] = none_left those (λ t h. let r = row_of t h in none.1 r.0 (based hub_schema hub_good at s is wanted params p test db kept r.0 r.1) (test_is r.0 r.1 t r.2 r.3)) in
        ap (λ l. option_map first_text (first l)) none.0 ∙ ap (λ l. option_map text (first l)) (sym empty)
    | inr one ↦
        let r = one.0 in
        let there : Has (db s.table.tree) r = subst (λ l. Has l r) (is.base db) one.1 in
        let cells : rows ≡ (Text (text (typed s r)) ∷ []) ∷ [] = one.3 ∙ ap (λ (x : Row). x ∷ []) (cells_are hub_schema hub_good at s is wanted params p test db kept project (λ t. Text (text t) ∷ []) shown r there) in
        let good : p (typed s r) ≡ true = sym (passes hub_schema hub_good at s is wanted params p test db kept r there) ∙ one.2 in
        let here : Has those (typed s r) = has_kept p (rows_in s db) (typed s r) (typed_table.rows_have hub_schema hub_good at s is db kept obeys r there) good in
        let least : (u : T) → Has those u → text_cmp (text u) (text (typed s r)) ≡ Less → ⊥ = (λ u h low.
        let v = row_of u h in
        one.4 v.0 (based hub_schema hub_good at s is wanted params p test db kept v.0 v.1) (test_is v.0 v.1 u v.2 v.3)
        (subst₂ (λ a b. value_cmp a b ≡ Less) (sym (text_at v.0 v.1)) (sym (text_at r there)) (text_order (text (typed s v.0)) (text (typed s r)) ∙ subst (λ w. text_cmp (text w) (text (typed s r)) ≡ Less) v.2 low))) in
        ap (λ l. option_map first_text (first l)) cells ∙ sym (leads (typed s r) least those refl here)
  ]

  pub first_is : option_map first_text (first rows) ≡ option_map text (find p (rows_in s db))
  first_is = shown_first ∙ ap (option_map text) (sym (find-first p (rows_in s db)))
