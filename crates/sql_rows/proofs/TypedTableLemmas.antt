-- What the rules of a schema say of the typed rows of one table.
use Rattle.std.proofs.Common.{◌≡◌, ℕ, ℤ, zero, suc, ◌&&◌, ◌||◌, not, pos, List, [], ◌∷◌, drop, take, map, length, slice_get, Bool, true, false, cond, Some, refl, sym, ap, ap₂, ◌∙◌, subst, true≢false, arith, inl, inr, Ordering, Less, Equal, Greater}
use Rattle.std.specs.List.{AllByRecursion}
use Rattle.std.specs.Prelude.{◌==◌}
use Rattle.std.specs.Ordering.{is_eq, is_ne}
use Rattle.std.proofs.lemmas.Bool.{and_parts, and_from, cases_Bool, not-true, false_from_ne_true}
use Rattle.std.proofs.lemmas.Cmp.{tied_itself}
use Rattle.std.proofs.lemmas.Map.Lookups.{exact_signed}
use Rattle.sqlite_value.specs.declared.value.Value.{Value}
use Rattle.sqlite_value.specs.declared.value.Value.TheVariants.{Null, Int, Text}
use Rattle.sqlite_value.specs.declared.keys.Collation.TheVariants.{Binary}
use Rattle.sqlite_value.specs.Order.{Row, column, value_cmp}
use Rattle.sqlite_value.specs.Keys.{plain, first_key}
use Rattle.sqlite_value.proofs.OrderLemmas.{value_cmp_total, value_cmp-Int}
use Rattle.sqlite_trees.specs.Tree.{Trees, rowid, IsTable}
use Rattle.sqlite_sql.specs.Ops.{binary, is_null, is_true, from_truth}
use Rattle.sqlite_sql.specs.Program.{overlay}
use Rattle.sqlite_schema.specs.declared.schema.Keys.TheVariants.{Enforced}
use Rattle.sqlite_schema.specs.declared.schema.Constraint.TheVariants.{Unique, ForeignKey}
use Rattle.sqlite_schema.specs.declared.schema.Schema.{Schema}
use Rattle.sqlite_schema.specs.declared.schema.Index.{Index}
use Rattle.sqlite_schema.specs.Rules.{Obeys, Fits, agree, clashes, differ, equal, guards}
use Rattle.sqlite_rules.specs.Lists.{Has}
use Rattle.sqlite_rules.specs.Action.{works}
use Rattle.sqlite_rules.specs.Cast.{cast_all}
use Rattle.sqlite_rules.proofs.ListLemmas.{all_has, test_has, some_from}
use Rattle.sqlite_rules.proofs.ProbeLemmas.{has_mapped, mapped_has}
use Rattle.sqlite_rules.proofs.PlaceLemmas.{tied_same}
use Rattle.sqlite_rules.proofs.RuleLemmas.{keeps_at}
use Rattle.hub_rows.proofs.ListLaws.{keys_total, by_key_total, same_key}
use Rattle.hub_rows.specs.Keyed.{key_cmp}
use Rattle.hub_rows.specs.Reservations.{unshifted}
use Rattle.sql_rows.specs.TypedTable.{Key, Part, text_part, count_part, signed_part, parts_in, number_of, value_for, values_for, TypedTable, typed, cmp, rows_in, IsRowOf, AreTyped}
use Rattle.sql_rows.proofs.MemberLaws.{IsSingle, arranged_from, arranged_has}
use Rattle.sql_rows.proofs.QueryLemmas.{text_is}
use Rattle.sql_tables.specs.Tables.{places}

-- ---- = on values

pub tied_from : (a b : Value) → equal Binary a b ≡ true → value_cmp a b ≡ Equal
unfolding binary
tied_from a b h = go (is_null a || is_null b) (value_cmp a b) h
  where
    go : (null : Bool) (o : Ordering) → is_true (cond null Null (from_truth (Some (is_eq o)))) ≡ true → o ≡ Equal
    go true o h = absurd (true≢false (sym h))
    go false Less h = absurd (true≢false (sym h))
    go false Equal h = refl
    go false Greater h = absurd (true≢false (sym h))

pub tied_to : (a : Value) → is_null a ≡ false → equal Binary a a ≡ true
unfolding binary
tied_to a h = rw (h, tied_itself value_cmp_total a) refl

untied : (o : Ordering) → is_true (from_truth (Some (is_ne o))) ≡ false → o ≡ Equal
untied Less h = absurd (true≢false h)
untied Equal h = refl
untied Greater h = absurd (true≢false h)

not_differ : (a b : Value) → is_null a ≡ false → is_null b ≡ false → differ a b ≡ false → value_cmp a b ≡ Equal
unfolding binary
not_differ a b p q h = untied (value_cmp a b) (rw (p, q) at h)

value_there : (b : Part) (p : List ℕ) → equal Binary (value_for b p) (value_for b p) ≡ true
value_there text_part p = tied_to (Text p) refl
value_there count_part p = tied_to (Int (pos (number_of p))) refl
value_there signed_part p = tied_to (Int (unshifted (number_of p))) refl

int_same : (m n : ℤ) → equal Binary (Int m) (Int n) ≡ true → Int m ≡ Int n
int_same m n h = ap Int (exact_signed m n (sym (value_cmp-Int m n) ∙ tied_from (Int m) (Int n) h))

value_same : (b : Part) (p q : List ℕ) → equal Binary (value_for b p) (value_for b q) ≡ true → value_for b p ≡ value_for b q
value_same text_part p q h = text_is (Text p) q h
value_same count_part p q h = int_same (pos (number_of p)) (pos (number_of q)) h
value_same signed_part p q h = int_same (unshifted (number_of p)) (unshifted (number_of q)) h

-- ---- the columns of a key

pub head_at : (at : ℕ) (row : Row) (n : ℕ) (v : Value) (rest : Row) → take (suc n) (drop at row) ≡ v ∷ rest → (column row at ≡ v) × (take n (drop (suc at) row) ≡ rest)
head_at zero [] n v rest h = absurd cc
head_at zero (x ∷ row) n v rest h = (cc, cc)
head_at (suc at) [] n v rest h = absurd cc
head_at (suc at) (x ∷ row) n v rest h = head_at at row n v rest h

-- rows agree at their keys exactly where the keys are one
pub keys_agree : (bs : List Part) (at to : ℕ) (a b : Row) (k : Key) → length k ≡ length bs → take (length bs) (drop at a) ≡ values_for bs k → take (length bs) (drop to b) ≡ values_for bs k
    → agree plain (places at (length bs)) a (places to (length bs)) b ≡ true
unfolding first_key
keys_agree [] at to a b k long p q = refl
keys_agree (c ∷ bs) at to a b [] long p q = absurd (omega (arith, long))
keys_agree (c ∷ bs) at to a b (x ∷ k) long p q =
    let one = head_at at a (length bs) _ _ p in
    let two = head_at to b (length bs) _ _ q in
    and_from _ _ (rw (one.0, two.0) (value_there c x)) (keys_agree bs (suc at) (suc to) a b k (omega (arith, long)) one.1 two.1)

pub agree_keys : (bs : List Part) (at to : ℕ) (a b : Row) (k l : Key) → length k ≡ length bs → length l ≡ length bs → take (length bs) (drop at a) ≡ values_for bs k → take (length bs) (drop to b) ≡ values_for bs l
    → agree plain (places at (length bs)) a (places to (length bs)) b ≡ true → values_for bs k ≡ values_for bs l
unfolding first_key
agree_keys [] at to a b k l long also p q h = refl
agree_keys (c ∷ bs) at to a b [] l long also p q h = absurd (omega (arith, long))
agree_keys (c ∷ bs) at to a b (x ∷ k) [] long also p q h = absurd (omega (arith, also))
agree_keys (c ∷ bs) at to a b (x ∷ k) (y ∷ l) long also p q h =
    let one = head_at at a (length bs) _ _ p in
    let two = head_at to b (length bs) _ _ q in
    let parts : (equal Binary (column a at) (column b to) ≡ true) × (agree plain (places (suc at) (length bs)) a (places (suc to) (length bs)) b ≡ true) = and_parts _ _ h in
    let here : equal Binary (value_for c x) (value_for c y) ≡ true = rw (one.0, two.0) at parts.0 in
    ap₂ ◌∷◌ (value_same c x y here) (agree_keys bs (suc at) (suc to) a b k l (omega (arith, long)) (omega (arith, also)) one.1 two.1 parts.1)

-- ---- a typed table of a schema

-- of tables that are written out each is `refl`
pub record IsTypedTable {T : Type 0} (schema : Schema) (good : ℕ → Row → Type 0) (at : ℕ) (s : TypedTable T) : Type 1 where
  pub key_row : (t : T) → take (length s.parts) (s.row t) ≡ values_for s.parts (s.key t)
  pub row_key : (t : T) → parts_in s.parts (take (length s.parts) (s.row t)) ≡ s.key t
  pub long : (t : T) → length (s.key t) ≡ length s.parts
  pub round : (t : T) → s.read (s.row t) ≡ t
  pub casts : (t : T) → cast_all s.table.columns (s.row t) ≡ s.row t
  pub good_is : good s.table.tree ≡ IsRowOf s
  pub here : slice_get schema.tables at ≡ Some s.table
  pub listed : Has schema.tables s.table
  pub index : Index
  pub guarded : Has schema.indexes index
  pub guards_it : guards index s.table ≡ true
  pub columns : index.columns ≡ places 1 (length s.parts)
  pub order : index.order ≡ plain
  pub orders : AllByRecursion (λ i. i.order ≡ plain) schema.indexes
  pub base : (db : Trees) → overlay db [] s.table.tree ≡ db s.table.tree
  pub counted : s.table.is_counted ≡ false
  pub still : (olds news : List Row) → (length news == 0) ≡ false → works schema Enforced 0 s.table.tree olds news ≡ []

module _ {T : Type 0} (schema : Schema) (good : ℕ → Row → Type 0) (at : ℕ) (s : TypedTable T) (is : IsTypedTable schema good at s) where
  pub same_values : (t u : T) → cmp s t u ≡ Equal → take (length s.parts) (s.row t) ≡ take (length s.parts) (s.row u)
  same_values t u tie = is.key_row t ∙ ap (values_for s.parts) (same_key _ _ tie) ∙ sym (is.key_row u)

  pub values_same : (t u : T) → take (length s.parts) (s.row t) ≡ take (length s.parts) (s.row u) → cmp s t u ≡ Equal
  values_same t u h = subst (λ k. key_cmp (s.key t) k ≡ Equal) (sym (is.row_key t) ∙ ap (parts_in s.parts) h ∙ is.row_key u) (tied_itself keys_total (s.key t))

  module _ (db : Trees) (kept : AreTyped schema good db) where
    pub table_in : IsTable (db s.table.tree)
    table_in = (all_has _ schema.tables s.table kept is.listed).0

    pub row_in : (r : Row) → Has (db s.table.tree) r → IsRowOf s r
    row_in r h = subst (λ (P : Row → Type 0). P r) is.good_is (all_has _ (db s.table.tree) r (all_has _ schema.tables s.table kept is.listed).1 h)

    pub typed_is : (r : Row) (h : Has (db s.table.tree) r) → typed s r ≡ (row_in r h).1
    typed_is r h = let x = row_in r h in ap (typed s) x.2 ∙ is.round x.1

    module _ (obeys : Obeys schema db) where
      -- two rows with one key are one row
      pub one_row : (r u : Row) (k : Has (db s.table.tree) r) (l : Has (db s.table.tree) u) → cmp s (row_in r k).1 (row_in u l).1 ≡ Equal → r ≡ u
      one_row r u k l tie =
          let x = row_in r k in
          let y = row_in u l in
          let same = same_key _ _ tie in
          let agreed : agree plain (places 1 (length s.parts)) r (places 1 (length s.parts)) u ≡ true =
          rw (x.2, y.2) (keys_agree s.parts 1 1 (Int x.0 ∷ s.row x.1) (Int y.0 ∷ s.row y.1) (s.key y.1) (is.long y.1) (is.key_row x.1 ∙ ap (values_for s.parts) same) (is.key_row y.1)) in
          let unique : not (guards is.index s.table && clashes is.index.order is.index.columns (db s.table.tree) u) ≡ true =
          test_has (λ (i : Index). not (guards i s.table && clashes i.order i.columns (db s.table.tree) u)) schema.indexes is.index (keeps_at Unique schema db s.table u (obeys.rules Unique) is.listed l) is.guarded in
          let apart : clashes plain (places 1 (length s.parts)) (db s.table.tree) u ≡ false = not-true _ (rw (is.guards_it, is.order, is.columns) at unique) in
          let agreed_id : differ (rowid r) (rowid u) ≡ false = false_from_ne_true _ (λ differs.
          true≢false (sym (some_from (λ z. agree plain (places 1 (length s.parts)) z (places 1 (length s.parts)) u && differ (rowid z) (rowid u)) (db s.table.tree) r k (and_from _ _ agreed differs)) ∙ apart)) in
          tied_same (db s.table.tree) r u table_in k l (not_differ (rowid r) (rowid u) (rw x.2 refl) (rw y.2 refl) agreed_id)

      pub single : IsSingle (cmp s) (by_key_total s.key) (map (typed s) (db s.table.tree))
      single a b h k tie =
          let x = has_mapped (typed s) (db s.table.tree) a h in
          let y = has_mapped (typed s) (db s.table.tree) b k in
          let first = x.2 ∙ typed_is x.0 x.1 in
          let second = y.2 ∙ typed_is y.0 y.1 in
          x.2 ∙ ap (typed s) (one_row x.0 y.0 x.1 y.1 (rw (first, second) at tie)) ∙ sym y.2

      -- the typed rows are those of the table
      pub rows_from : (t : T) → Has (rows_in s db) t → (r : Row) × Has (db s.table.tree) r × (t ≡ typed s r)
      rows_from t h = has_mapped (typed s) (db s.table.tree) t (arranged_from (cmp s) (by_key_total s.key) _ t h)

      pub rows_have : (r : Row) → Has (db s.table.tree) r → Has (rows_in s db) (typed s r)
      rows_have r h = arranged_has (cmp s) (by_key_total s.key) _ (typed s r) single (mapped_has (typed s) (db s.table.tree) r h)

  -- where a new row is there, no row from before has its key
  module _ (db next : Trees) (kept : AreTyped schema good db) (fits : Fits schema next) (t : T) (i : ℤ) where
    pub apart_from : Has (next s.table.tree) (Int i ∷ s.row t) → (r : Row) (h : Has (db s.table.tree) r) → Has (next s.table.tree) r → (value_cmp (rowid r) (Int i) ≡ Equal → ⊥) → cmp s (row_in db kept r h).1 t ≡ Equal → ⊥
    apart_from there r h still other tie =
        let x = row_in db kept r h in
        let new : Row = Int i ∷ s.row t in
        let agreed : agree plain (places 1 (length s.parts)) r (places 1 (length s.parts)) new ≡ true =
        rw x.2 (keys_agree s.parts 1 1 (Int x.0 ∷ s.row x.1) new (s.key t) (is.long t) (is.key_row x.1 ∙ ap (values_for s.parts) (same_key _ _ tie)) (is.key_row t)) in
        let unique : not (guards is.index s.table && clashes is.index.order is.index.columns (next s.table.tree) new) ≡ true =
        test_has (λ (j : Index). not (guards j s.table && clashes j.order j.columns (next s.table.tree) new)) schema.indexes is.index (keeps_at Unique schema next s.table new (fits.rules Unique (λ e. let clash : Unique ≡ ForeignKey = e in cc)) is.listed there) is.guarded in
        let apart : clashes plain (places 1 (length s.parts)) (next s.table.tree) new ≡ false = not-true _ (rw (is.guards_it, is.order, is.columns) at unique) in
        let differs : differ (rowid r) (Int i) ≡ true =
        elim (cases_Bool (differ (rowid r) (Int i))) [
          | inl e ↦ e
          | inr e ↦ absurd (other (not_differ (rowid r) (Int i) (rw x.2 refl) refl e))
        ] in
        true≢false (sym (some_from (λ z. agree plain (places 1 (length s.parts)) z (places 1 (length s.parts)) new && differ (rowid z) (rowid new)) (next s.table.tree) r still (and_from _ _ agreed differs)) ∙ apart)
