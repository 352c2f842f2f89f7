-- hub_meta: its typed table, what it means to put a row there, and the count of changes that is found there.
use Rattle.std.proofs.Common.{◌≡◌, ◌∙◌, ℕ, nat_lt, pos, codes, List, [], ◌∷◌, Bool, true, Some, find, Ordering, Less, Equal, Greater, ap, refl, subst, sym, inl, inr}
use Rattle.std.proofs.lemmas.Bool.{cases_Bool}
use Rattle.std.specs.Ordering.{match_ordering}
use Rattle.sqlite_rules.specs.Lists.{Has}
use Rattle.sqlite_trees.specs.Tree.{Trees}
use Rattle.sqlite_value.specs.declared.value.Value.TheVariants.{Text}
use Rattle.hub_rows.specs.Keyed.{key_cmp, put}
use Rattle.hub_rows.proofs.ListLaws.{by_key_total, same_text}
use Rattle.sql_tables.specs.Tables.{hub_schema, hub_meta, names_of}
use Rattle.sql_tables.specs.Forms.{cols, where_is}
use Rattle.sql_rows.specs.declared.meta_rows.MetaRow.{MetaRow}
use Rattle.sql_rows.specs.TypedTable.{cmp, rows_in, Spares}
use Rattle.sql_rows.specs.TypedTables.{hub_good, metas, rows_of}
use Rattle.sql_rows.proofs.TableLemmas.{cast_int}
use Rattle.sql_rows.proofs.TypedTableLemmas.{IsTypedTable}
use Rattle.sql_rows.proofs.PutLemmas.{IsPutForm}
use Rattle.sql_rows.proofs.ReadLaws.{IsWhole}
use Rattle.sql_tables.specs.declared.meta.TheConstants as sql_meta
use Rattle.sql_tables.proofs.Texts as texts
use Rattle.sql_rows.specs.Kept.{IsNumbered, IsPutIn, changes_in, changes_of, count_meta, is_count, our_meta}
use Rattle.sql_rows.proofs.StoreLemmas.{IfDone, Means, MeansBy}
use Rattle.sql_rows.proofs.MemberLaws.{has_new, put_spares}
use Rattle.sql_rows.proofs.Writes.{puts_as, updates_as}
use Rattle.sql_rows.proofs.Selects.{ReadsRows}
use Rattle.sql_rows.proofs.Tests as tests
use Rattle.sql_rows.proofs.HubTables.{all_plain, rest_is, spared}

pub on_metas : IsTypedTable hub_schema hub_good 0 metas
on_metas = record {
  key_row = λ m. refl;
  row_key = λ m. refl;
  long = λ m. refl;
  round = λ m. refl;
  casts = λ m. rw (cast_int (pos m.number)) refl;
  good_is = refl;
  here = refl;
  listed = inl refl;
  index = _;
  guarded = inl refl;
  guards_it = refl;
  columns = refl;
  order = refl;
  orders = all_plain;
  base = λ db. refl;
  counted = refl;
  still = λ olds news some. rw some refl;
}

pub put_metas : IsPutForm metas 1
put_metas = record { source = λ m. refl; filter = λ m v i r. refl; project = λ m u v i j. refl }

pub whole_metas : IsWhole metas (cols 1 1 2)
whole_metas m v params = refl

-- hub_meta has no rows of the hub
pub metas_made : (old new : Trees) → Spares hub_schema 0 old new → rows_of new ≡ rows_of old
metas_made old new frame = ap rows_of (rest_is (0 ∷ []) old new (spared 0 old new frame))

-- ---- the number of the schema

pub number_put : (old new : Trees) → IsPutIn metas our_meta old new → IsNumbered new
number_put old new it = subst (λ l. Has l our_meta) (sym it.rows) (has_new (cmp metas) (by_key_total metas.key) our_meta (rows_in metas old))

pub puts_number : Means sql_meta.PUT.now (metas.row our_meta) (IsPutIn metas our_meta)
puts_number = puts_as 0 metas on_metas sql_meta.PUT.now 1 put_metas texts.put_meta_is our_meta (λ old new it numbered. number_put old new it)

-- ---- the count of changes

-- the names of the two rows differ
numbered_still : (n : ℕ) (old new : Trees) → IsPutIn metas (count_meta n) old new → IsNumbered old → IsNumbered new
numbered_still n old new it numbered =
    subst (λ l. Has l our_meta) (sym it.rows) (put_spares (cmp metas) (by_key_total metas.key) (count_meta n) (rows_in metas old) our_meta numbered (λ e. let clash : Greater ≡ Equal = e in cc))

pub puts_count : (n : ℕ) → Means sql_meta.PUT.now (metas.row (count_meta n)) (IsPutIn metas (count_meta n))
puts_count n = puts_as 0 metas on_metas sql_meta.PUT.now 1 put_metas texts.put_meta_is (count_meta n) (numbered_still n)

pub updates_count : (n : ℕ) → MeansBy sql_meta.UPDATE.now (metas.row (count_meta n)) (λ rows. IfDone (IsPutIn metas (count_meta n)) (nat_lt 0 rows))
updates_count n = updates_as 0 metas on_metas sql_meta.UPDATE.now 1 (λ m u j. refl) texts.update_meta_is (count_meta n) (numbered_still n)

-- a row that was put is found by a test that it passes, and of the others only one with its key
find_put : {R : Type 0} (cmp : R → R → Ordering) (p : R → Bool) (r : R) (xs : List R) → p r ≡ true → ((x : R) → p x ≡ true → cmp r x ≡ Equal) → find p (put cmp r xs) ≡ Some r
find_put cmp p r [] passes tied = rw passes refl
find_put cmp p r (x ∷ xs) passes tied = go (cmp r x) refl (find_put cmp p r xs passes tied)
  where
    go : (o : Ordering) → cmp r x ≡ o → find p (put cmp r xs) ≡ Some r → find p (match_ordering o (r ∷ x ∷ xs) (r ∷ xs) (x ∷ put cmp r xs)) ≡ Some r
    go Less e later = rw passes refl
    go Equal e later = rw passes refl
    go Greater e later = elim (cases_Bool (p x)) [
      | inl also ↦ absurd (let clash : Greater ≡ Equal = sym e ∙ tied x also in cc)
      | inr other ↦ rw other later
    ]

named_so : (n : ℕ) (m : MetaRow) → is_count m ≡ true → cmp metas (count_meta n) m ≡ Equal
named_so n m is = ap (λ t. key_cmp (codes "changes" ∷ []) (t ∷ [])) (same_text m.name (codes "changes") is)

pub count_put : (n : ℕ) (old new : Trees) → IsPutIn metas (count_meta n) old new → changes_in new ≡ n
count_put n old new it =
    ap (λ l. changes_of (find is_count l)) it.rows ∙ ap changes_of (find_put (cmp metas) is_count (count_meta n) (rows_in metas old) refl (named_so n))

pub reads_count : ReadsRows sql_meta.FIND.now (Text (codes "changes") ∷ []) metas is_count
reads_count = record { at = 0; is = on_metas; wanted = where_is 0 (1 ∷ []); project = cols 1 1 2; whole = whole_metas; order = []; names = names_of hub_meta; text = texts.find_meta_is; test = tests.of_metas (codes "changes") }
