-- What a query over one table or two shows, as members.
use Rattle.std.proofs.Common.{◌≡◌, ℕ, List, [], ◌∷◌, map, flat_map, Bool, true, false, cond, Some, refl, sym, ap, ◌∙◌, subst, inl, inr, true≢false}
use Rattle.std.specs.List.{list_all}
use Rattle.std.specs.List.Sorted.{IsPermutation}
use Rattle.std.proofs.lemmas.List.Sorted.{IsPermutation-sym, Contains-permutation}
use Rattle.std.specs.Ordering.{is_eq, nat_cmp}
use Rattle.std.specs.Cmp.Lexicographic.{slice_cmp}
use Rattle.sqlite_value.specs.declared.value.Value.{Value}
use Rattle.sqlite_value.specs.declared.value.Value.TheVariants.{Null, Int, Real, Text, Blob}
use Rattle.sqlite_value.specs.Order.{Row, value_cmp}
use Rattle.sqlite_value.specs.declared.keys.Collation.TheVariants.{Binary}
use Rattle.sqlite_value.specs.declared.keys.Key.{Key}
use Rattle.sqlite_trees.specs.Tree.{Trees}
use Rattle.sqlite_sql.specs.declared.ops.BinaryOp.TheVariants.{Compare}
use Rattle.sqlite_sql.specs.declared.ops.CompareOp.TheVariants.{Eq}
use Rattle.sqlite_sql.specs.Ops.{binary, is_true, from_truth}
use Rattle.std.proofs.lemmas.Map.Text.{is_eq-slice_cmp}
use Rattle.std.proofs.lemmas.Slice.Eq.{bytes_eq-Decides}
use Rattle.sqlite_sql.specs.Term.{Term, Env, eval_all, holds}
use Rattle.sqlite_sql.specs.Query.{Query, Join, inner, end, IsAnswer, Output, output, matches}
use Rattle.sqlite_rules.specs.Lists.{Has}
use Rattle.sql_tables.specs.Forms.{plain_query}
use Rattle.sqlite_rules.proofs.ListLemmas.{has_contained, contains_had, has_left, has_right, has_either}
use Rattle.sqlite_rules.proofs.ProbeLemmas.{has_mapped, mapped_has}

pub has_permuted : {X : Type 0} (xs ys : List X) (x : X) → IsPermutation xs ys → Has xs x → Has ys x
has_permuted xs ys x same h = has_contained ys x (Contains-permutation xs ys x same (contains_had xs x h))

module _ (from : Join) (filter project : List Term) (order : List (Term × Key)) (db : Trees) (params : Row) (rows : List Row) (answer : IsAnswer (plain_query from filter project order) db params rows) where
  kept : answer.kept ≡ map (output (plain_query from filter project order)) (matches db filter from (params ∷ []))
  kept = answer.distinct ∙ ap (map (output (plain_query from filter project order))) answer.grouped

  pub shown_from : (x : Row) → Has rows x → (e : Env) × Has (matches db filter from (params ∷ [])) e × (x ≡ eval_all project e)
  shown_from x h =
      let o = has_mapped (λ (k : Output). k.1) answer.ordered x (subst (λ l. Has l x) answer.shown h) in
      let e = has_mapped (output (plain_query from filter project order)) (matches db filter from (params ∷ [])) o.0
      (subst (λ l. Has l o.0) kept (has_permuted answer.ordered answer.kept o.0 (IsPermutation-sym _ _ answer.same) o.1)) in
      (e.0, e.1, o.2 ∙ ap (λ (k : Output). k.1) e.2)

  pub shown_has : (e : Env) → Has (matches db filter from (params ∷ [])) e → Has rows (eval_all project e)
  shown_has e h =
      let o = output (plain_query from filter project order) e in
      let there = has_permuted answer.kept answer.ordered o answer.same (subst (λ l. Has l o) (sym kept) (mapped_has (output (plain_query from filter project order)) _ e h)) in
      subst (λ l. Has l (eval_all project e)) (sym answer.shown) (mapped_has (λ (k : Output). k.1) answer.ordered o there)

module _ {X Y : Type 0} (f : X → List Y) where
  pub has_each : (xs : List X) (y : Y) → Has (flat_map f xs) y → (x : X) × Has xs x × Has (f x) y
  has_each [] y h = absurd h
  has_each (x ∷ xs) y h = elim (has_either (f x) (flat_map f xs) y h) [ inl here ↦ (x, inl refl, here) | inr later ↦ let r = has_each xs y later in (r.0, inr r.1, r.2) ]

  pub each_has : (xs : List X) (x : X) (y : Y) → Has xs x → Has (f x) y → Has (flat_map f xs) y
  each_has [] x y h k = absurd h
  each_has (z ∷ xs) x y (inl same) k = has_left (f z) (flat_map f xs) y (subst (λ w. Has (f w) y) same k)
  each_has (z ∷ xs) x y (inr later) k = has_right (f z) (flat_map f xs) y (each_has xs x y later k)

has_cond : {Y : Type 0} (b : Bool) (e y : Y) → Has (cond b (e ∷ []) []) y → (b ≡ true) × (y ≡ e)
has_cond true e y (inl same) = (refl, same)
has_cond true e y (inr none) = absurd none
has_cond false e y none = absurd none

cond_has : {Y : Type 0} (b : Bool) (e : Y) → b ≡ true → Has (cond b (e ∷ []) []) e
cond_has true e h = inl refl
cond_has false e h = absurd (true≢false (sym h))

-- the matches of one table
module _ (db : Trees) (filter : List Term) (tree : ℕ) (params : Row) where
  pub one_from : (e : Env) → Has (matches db filter (inner tree end) (params ∷ [])) e → (r : Row) × Has (db tree) r × (list_all (holds (params ∷ r ∷ [])) filter ≡ true) × (e ≡ params ∷ r ∷ [])
  one_from e h = let r = has_each (λ r. cond (list_all (holds (params ∷ r ∷ [])) filter) ((params ∷ r ∷ []) ∷ []) []) (db tree) e h in
      let t = has_cond _ (params ∷ r.0 ∷ []) e r.2 in (r.0, r.1, t.0, t.1)

  pub one_has : (r : Row) → Has (db tree) r → list_all (holds (params ∷ r ∷ [])) filter ≡ true → Has (matches db filter (inner tree end) (params ∷ [])) (params ∷ r ∷ [])
  one_has r h test = each_has (λ r. cond (list_all (holds (params ∷ r ∷ [])) filter) ((params ∷ r ∷ []) ∷ []) []) (db tree) r _ h (cond_has _ _ test)

-- what a query over one table shows
module _ (filter project : List Term) (order : List (Term × Key)) (db : Trees) (tree : ℕ) (params : Row) (rows : List Row) (answer : IsAnswer (plain_query (inner tree end) filter project order) db params rows) where
  pub rows_from : (x : Row) → Has rows x → (r : Row) × Has (db tree) r × (list_all (holds (params ∷ r ∷ [])) filter ≡ true) × (x ≡ eval_all project (params ∷ r ∷ []))
  rows_from x h =
      let e = shown_from (inner tree end) filter project order db params rows answer x h in
      let r = one_from db filter tree params e.0 e.1 in
      (r.0, r.1, r.2, e.2 ∙ ap (eval_all project) r.3)

  pub rows_have : (r : Row) → Has (db tree) r → list_all (holds (params ∷ r ∷ [])) filter ≡ true → Has rows (eval_all project (params ∷ r ∷ []))
  rows_have r h test = shown_has (inner tree end) filter project order db params rows answer (params ∷ r ∷ []) (one_has db filter tree params r h test)

-- what a query over one table puts in an order, before LIMIT
module _ (filter project : List Term) (order : List (Term × Key)) (limit : Term) (db : Trees) (tree : ℕ) (params : Row) (rows : List Row)
    (answer : IsAnswer (record (plain_query (inner tree end) filter project order) { limit = limit }) db params rows) where
  abbrev limited_query : Query
  limited_query = record (plain_query (inner tree end) filter project order) { limit = limit }

  all_kept : answer.kept ≡ map (output limited_query) (matches db filter (inner tree end) (params ∷ []))
  all_kept = answer.distinct ∙ ap (map (output limited_query)) answer.grouped

  pub ordered_has : (r : Row) → Has (db tree) r → list_all (holds (params ∷ r ∷ [])) filter ≡ true → Has answer.ordered (output limited_query (params ∷ r ∷ []))
  ordered_has r h test =
      let o = output limited_query (params ∷ r ∷ []) in
      has_permuted answer.kept answer.ordered o answer.same (subst (λ l. Has l o) (sym all_kept) (mapped_has (output limited_query) _ (params ∷ r ∷ []) (one_has db filter tree params r h test)))

  pub ordered_from : (o : Output) → Has answer.ordered o → (r : Row) × Has (db tree) r × (list_all (holds (params ∷ r ∷ [])) filter ≡ true) × (o ≡ output limited_query (params ∷ r ∷ []))
  ordered_from o h =
      let e = has_mapped (output limited_query) (matches db filter (inner tree end) (params ∷ [])) o (subst (λ l. Has l o) all_kept (has_permuted answer.ordered answer.kept o (IsPermutation-sym _ _ answer.same) h)) in
      let r = one_from db filter tree params e.0 e.1 in
      (r.0, r.1, r.2, e.2 ∙ ap (output limited_query) r.3)

-- ---- = on texts

truth_is : (b : Bool) → is_true (from_truth (Some b)) ≡ b
truth_is true = refl
truth_is false = refl

pub text_is : (v : Value) (t : List ℕ) → is_true (binary (Compare Eq Binary) v (Text t)) ≡ true → v ≡ Text t
unfolding binary value_cmp lib.Ieee.is_nan lib.Ieee.lt
text_is Null t h = absurd (true≢false (sym h))
text_is (Int n) t h = absurd (true≢false (sym h))
text_is (Real x) t h = absurd (true≢false (sym h))
text_is (Text s) t h = ap Text ((bytes_eq-Decides s t).0 (sym (is_eq-slice_cmp s t) ∙ sym (truth_is (is_eq (slice_cmp nat_cmp s t))) ∙ h))
text_is (Blob b) t h = absurd (true≢false (sym h))
