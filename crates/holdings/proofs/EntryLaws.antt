-- Entries put one after the other, under their keys and in a list.
use Rattle.std.specs.Prelude.{ℕ, List, [], ◌∷◌, ◌++◌, Bool, true, false, cond, not, ◌||◌}
use Rattle.std.specs.BTreeMap.{insert_entry}
use Rattle.std.specs.BTreeSet.{BTreeSet, contains, Updates}
use Rattle.std.specs.Cmp.Lexicographic.{slice_cmp, texts_ties}
use Rattle.std.specs.FinMap.{slice_cmp-IsAntisymmetric}
use Rattle.std.specs.List.Sorted.{IsStrictlySortedBy}
use Rattle.std.specs.Map.{values_of}
use Rattle.std.specs.Ordering.{nat_cmp, ordering_then, match_ordering}
use Rattle.std.specs.declared.cmp.Ordering.{Ordering}
use Rattle.std.specs.declared.cmp.Ordering.TheVariants.{Less, Equal, Greater}
use Rattle.std.specs.Str.{bytes_eq}
use Rattle.std.proofs.Common.{◌≡◌, refl, ap, sym, subst, ◌∙◌, Result, Ok, Err, OnOk, OnErr}
use Rattle.std.proofs.lemmas.List.Elements.{filter-append}
use Rattle.std.proofs.lemmas.Map.Lookups.{exact_unsigned}
use Rattle.ocpp_types.specs.TagKey.{key_of}
use Rattle.hub_rows.specs.Keyed.{text_cmp, by_key, put, put_all}
use Rattle.hub_rows.specs.LocalLists.{AreEntries, entry_key}
use Rattle.hub_rows.proofs.ListLaws.{by_key_total, sorted-put_all}
use Rattle.hub_rows.specs.declared.list_row.LocalTag.{LocalTag}
use Rattle.holdings.specs.Entries.{AreKeyed}
use Rattle.holdings.specs.LocalList.{in_key_order, names, not_named}
use Rattle.operator_cmds.specs.declared.local_list.AuthorizationData.{AuthorizationData}

-- ---- one entry

then_equal : (o : Ordering) → ordering_then o Equal ≡ o
then_equal Less = refl
then_equal Equal = refl
then_equal Greater = refl

module _ (v : LocalTag) where
  same_order : (e : List ℕ × LocalTag) → e.0 ≡ key_of e.1.tag → text_cmp (key_of v.tag) e.0 ≡ by_key entry_key v e.1
  same_order e here = ap (text_cmp (key_of v.tag)) here ∙ sym (then_equal (text_cmp (key_of v.tag) (key_of e.1.tag)))

  -- an entry put under its key is put into the list
  pub insert_put : (es : List (List ℕ × LocalTag)) → AreKeyed es → values_of (insert_entry (slice_cmp nat_cmp) es (key_of v.tag) v) ≡ put (by_key entry_key) v (values_of es)
  insert_put [] all = refl
  insert_put (e ∷ es) all =
      elim (text_cmp (key_of v.tag) e.0) as (λ o. values_of (match_ordering o ((key_of v.tag, v) ∷ e ∷ es) ((e.0, v) ∷ es) (e ∷ insert_entry (slice_cmp nat_cmp) es (key_of v.tag) v)) ≡ match_ordering o (v ∷ e.1 ∷ values_of es) (v ∷ values_of es) (e.1 ∷ put (by_key entry_key) v (values_of es))) [
        | Less ↦ refl
        | Equal ↦ refl
        | Greater ↦ ap (λ vs. e.1 ∷ vs) (insert_put es all.1)
      ]
      ∙ ap (λ o. match_ordering o (v ∷ e.1 ∷ values_of es) (v ∷ values_of es) (e.1 ∷ put (by_key entry_key) v (values_of es))) (same_order e all.0)

  -- each entry still stands under its key
  pub keyed_insert : (es : List (List ℕ × LocalTag)) → AreKeyed es → AreKeyed (insert_entry (slice_cmp nat_cmp) es (key_of v.tag) v)
  keyed_insert [] all = (refl, tt)
  keyed_insert (e ∷ es) all =
      elim (text_cmp (key_of v.tag) e.0) as (λ o. text_cmp (key_of v.tag) e.0 ≡ o → AreKeyed (match_ordering o ((key_of v.tag, v) ∷ e ∷ es) ((e.0, v) ∷ es) (e ∷ insert_entry (slice_cmp nat_cmp) es (key_of v.tag) v))) [
        | Less ↦ λ q. (refl, all)
        | Equal ↦ λ q. (sym (slice_cmp-IsAntisymmetric exact_unsigned (key_of v.tag) e.0 q), all.1)
        | Greater ↦ λ q. (all.0, keyed_insert es all.1)
      ] refl

-- the same, where the map stays as it was without memory
pub keyed_by : {T E : Type 0} (r : Result T E) (v : LocalTag) (k : List ℕ) (old new : List (List ℕ × LocalTag)) → k ≡ key_of v.tag → AreKeyed old
    → OnOk r (new ≡ insert_entry (slice_cmp nat_cmp) old k v) → OnErr r (new ≡ old) → AreKeyed new
keyed_by (Ok x) v k old new is all to same = subst AreKeyed (sym (to ∙ ap (λ q. insert_entry (slice_cmp nat_cmp) old q v) is)) (keyed_insert v old all)
keyed_by (Err e) v k old new is all to same = subst AreKeyed (sym same) all

-- ---- several

pub put_all-append : (xs ys zs : List LocalTag) → put_all (by_key entry_key) (xs ++ ys) zs ≡ put_all (by_key entry_key) ys (put_all (by_key entry_key) xs zs)
put_all-append [] ys zs = refl
put_all-append (x ∷ xs) ys zs = put_all-append xs ys (put (by_key entry_key) x zs)

-- entries in the order of their keys are so
pub sorted-entries : (xs : List LocalTag) → AreEntries (in_key_order xs)
unfolding IsStrictlySortedBy
sorted-entries xs = sorted-put_all (by_key entry_key) (by_key_total entry_key) xs [] tt

-- one more of the kept entries: it is put unless the command names its key
module _ (sent : List AuthorizationData) (ys zs : List LocalTag) (e : LocalTag) where
  more : not_named sent (ys ++ e ∷ []) ≡ not_named sent ys ++ cond (not (names sent (key_of e.tag))) (e ∷ []) []
  more = filter-append (λ x. not (names sent (key_of x.tag))) ys (e ∷ [])

  abbrev all_of : Bool → List LocalTag
  all_of t = put_all (by_key entry_key) (not_named sent ys ++ cond (not t) (e ∷ []) []) zs

  pub kept_more : names sent (key_of e.tag) ≡ false → put (by_key entry_key) e (put_all (by_key entry_key) (not_named sent ys) zs) ≡ put_all (by_key entry_key) (not_named sent (ys ++ e ∷ [])) zs
  kept_more is =
      sym (put_all-append (not_named sent ys) (e ∷ []) zs) ∙ ap all_of (sym is) ∙ ap (λ xs. put_all (by_key entry_key) xs zs) (sym more)

-- ---- the keys of a command

or_cond : (b x : Bool) → cond b true x ≡ x || b
or_cond true true = refl
or_cond true false = refl
or_cond false true = refl
or_cond false false = refl

or_assoc : (a b c : Bool) → (a || b) || c ≡ a || (b || c)
or_assoc true b c = refl
or_assoc false b c = refl

-- the set n is s with the key of e: what is still to come names as much
pub names_more : (s n : BTreeSet (List ℕ)) (e : AuthorizationData) (es : List AuthorizationData) → Updates (slice_cmp nat_cmp) s n (key_of e.id_tag) true
    → (q : List ℕ) → contains (slice_cmp nat_cmp) n q || names es q ≡ contains (slice_cmp nat_cmp) s q || names (e ∷ es) q
names_more s n e es added q =
    ap (λ b. b || names es q) (added.0 q ∙ or_cond _ (contains (slice_cmp nat_cmp) s q) ∙ ap (λ b. contains (slice_cmp nat_cmp) s q || b) (sym (texts_ties (key_of e.id_tag) q)))
    ∙ or_assoc (contains (slice_cmp nat_cmp) s q) (bytes_eq (key_of e.id_tag) q) (names es q)
