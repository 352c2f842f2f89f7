-- What a SELECT of the last row says of the numbers of typed rows.
use Rattle.std.proofs.Common.{◌≡◌, ℕ, ◌≤◌, pos, List, [], ◌∷◌, map, filter, max, Bool, true, refl, sym, ap, ◌∙◌, subst, subst₂, inl, inr, arith, Ordering, Less, Equal, Greater, int_cmp}
use Rattle.std.specs.List.{list_all}
use Rattle.sqlite_value.specs.declared.value.Value.TheVariants.{Int}
use Rattle.sqlite_value.specs.Order.{Row, column, value_cmp}
use Rattle.std.proofs.lemmas.Bool.Decides.{nat_tests}
use Rattle.sqlite_value.proofs.OrderLemmas.{value_cmp-Int}
use Rattle.sqlite_trees.specs.Tree.{Trees}
use Rattle.sqlite_schema.specs.Rules.{Obeys}
use Rattle.sqlite_sql.specs.Term.{Term, holds}
use Rattle.sqlite_sql.specs.Query.{IsAnswer}
use Rattle.sqlite_sql.specs.Program.{overlay}
use Rattle.sqlite_rules.specs.Lists.{Has}
use Rattle.sqlite_rules.proofs.ListLemmas.{has_filtered, has_kept}
use Rattle.sqlite_rules.proofs.ProbeLemmas.{has_mapped, mapped_has}
use Rattle.hub_rows.specs.Keyed.{greatest}
use Rattle.sql_tables.specs.Tables.{hub_schema}
use Rattle.sql_tables.specs.Forms.{last_query}
use Rattle.sql_rows.specs.TypedTable.{TypedTable, typed, rows_in, AreTyped}
use Rattle.sql_rows.specs.TypedTables.{hub_good}
use Rattle.sql_rows.specs.Kept.{AreTopCells, IsTop}
use Rattle.sql_rows.specs.Values.{count_in}
use Rattle.sql_rows.proofs.TypedTableLemmas as typed_table
use Rattle.sql_rows.proofs.TypedTableLemmas.{IsTypedTable}
use Rattle.sql_rows.proofs.ReadLaws.{AreCells, IsNumbered, IsTest, based, cells_are, number_of, passes}
use Rattle.sql_rows.proofs.LastLaws.{last_shown, greatest_is}

pub not_above : (m n : ℕ) → (int_cmp (pos m) (pos n) ≡ Less → ⊥) → n ≤ m
not_above m n h = go (int_cmp (pos m) (pos n)) refl
  where
    go : (o : Ordering) → int_cmp (pos m) (pos n) ≡ o → n ≤ m
    go Less e = absurd (h e)
    go Equal e = grind (arith, nat_tests, e)
    go Greater e = grind (arith, nat_tests, e)

pub none_left : {X : Type 0} (xs : List X) → ((x : X) → Has xs x → ⊥) → xs ≡ []
none_left [] h = refl
none_left (x ∷ xs) h = absurd (h x (inl refl))

-- its number is the greatest
top_greatest : {T : Type 0} (number : T → ℕ) (all ts : List T) → IsTop number all ts → greatest (map number ts) ≡ greatest (map number all)
top_greatest number all [] none = ap (λ l. greatest (map number l)) (sym none)
top_greatest number all (t ∷ ts) top =
    ap (λ l. greatest (map number (t ∷ l))) top.0
    ∙ (let one : max (number t) 0 ≡ number t = omega arith in one)
    ∙ sym (greatest_is (map number all) (number t) (mapped_has number all t top.1) (λ m h. let u = has_mapped number all m h in subst (λ k. k ≤ number t) (sym u.2) (top.2 u.0 u.1)))

-- the numbers in that column of the cells
numbers_shown : {T : Type 0} (cells : T → Row) (number : T → ℕ) (column_at : ℕ) → ((t : T) → count_in (column (cells t) column_at) ≡ number t) → (ts : List T) → map (λ r. count_in (column r column_at)) (map cells ts) ≡ map number ts
numbers_shown cells number column_at counted [] = refl
numbers_shown cells number column_at counted (t ∷ ts) = λ i. counted t i ∷ numbers_shown cells number column_at counted ts i

module _ {T : Type 0} (at : ℕ) (s : TypedTable T) (is : IsTypedTable hub_schema hub_good at s) (wanted project : List Term) (cells : T → Row) (shown : AreCells s project cells) (params : Row) (p : T → Bool) (test : IsTest s wanted params p)
    (place : ℕ) (number : T → ℕ) (numbered : IsNumbered s number place)
    (db : Trees) (kept : AreTyped hub_schema hub_good db) (obeys : Obeys hub_schema db) (rows : List Row) (answer : IsAnswer (last_query s.table.tree wanted project place) (overlay db []) params rows) where
  passing : (r : Row) → Has (db s.table.tree) r → list_all (holds (params ∷ r ∷ [])) wanted ≡ p (typed s r)
  passing r h = passes hub_schema hub_good at s is wanted params p test db kept r h

  numbered_is : (r : Row) → Has (db s.table.tree) r → column r place ≡ Int (pos (number (typed s r)))
  numbered_is = number_of hub_schema hub_good at s is wanted params p test db kept place number numbered

  -- the row that is shown has the greatest number
  pub top_is : AreTopCells cells number (filter p (rows_in s db)) rows
  top_is = elim (last_shown s.table.tree wanted project place (overlay db []) params rows answer) [
    | inl none ↦ (
      [],
      none_left (filter p (rows_in s db)) (λ t h.
          let f = has_filtered p (rows_in s db) t h in
          let r = typed_table.rows_from hub_schema hub_good at s is db kept obeys t f.0 in
          none.1 r.0 (based hub_schema hub_good at s is wanted params p test db kept r.0 r.1) (passing r.0 r.1 ∙ subst (λ u. p u ≡ true) r.2 f.1)),
      none.0,
    )
    | inr one ↦
        let r = one.0 in
        let there : Has (db s.table.tree) r = subst (λ l. Has l r) (is.base db) one.1 in (
          typed s r ∷ [],
          (
            refl,
            has_kept p (rows_in s db) (typed s r) (typed_table.rows_have hub_schema hub_good at s is db kept obeys r there) (sym (passing r there) ∙ one.2),
            λ t h.
                let f = has_filtered p (rows_in s db) t h in
                let u = typed_table.rows_from hub_schema hub_good at s is db kept obeys t f.0 in
                let high : number (typed s u.0) ≤ number (typed s r) = not_above (number (typed s r)) (number (typed s u.0)) (λ low.
                one.4 u.0 (based hub_schema hub_good at s is wanted params p test db kept u.0 u.1) (passing u.0 u.1 ∙ subst (λ w. p w ≡ true) u.2 f.1)
                (subst₂ (λ a b. value_cmp a b ≡ Less) (sym (numbered_is r there)) (sym (numbered_is u.0 u.1)) (value_cmp-Int (pos (number (typed s r))) (pos (number (typed s u.0))) ∙ low))) in
                subst (λ k. k ≤ number (typed s r)) (sym (ap number u.2)) high,
          ),
          one.3 ∙ ap (λ (x : Row). x ∷ []) (cells_are hub_schema hub_good at s is wanted params p test db kept project cells shown r there),
        )
  ]

  -- the number that is shown in that column is the greatest
  pub last_is : (column_at : ℕ) → ((t : T) → count_in (column (cells t) column_at) ≡ number t) → greatest (map (λ r. count_in (column r column_at)) rows) ≡ greatest (map number (filter p (rows_in s db)))
  last_is column_at counted =
      ap (λ l. greatest (map (λ r. count_in (column r column_at)) l)) top_is.2
      ∙ ap greatest (numbers_shown cells number column_at counted top_is.0)
      ∙ top_greatest number (filter p (rows_in s db)) top_is.0 top_is.1
