-- A local list and its entries: how they are read, and what it makes of them to drop the entries, to put the list and
-- to put each entry.
use Rattle.std.proofs.Common.{◌≡◌, ◌≢◌, ℕ, ◌&&◌, List, [], ◌∷◌, ◌++◌, Bool, true, false, not, map, filter, find, option_map, Some, Ordering, Less, Equal, Greater, refl, sym, ap, ap₂, ◌∙◌, inl, inr, arith}
use Rattle.std.specs.Str.{bytes_eq}
use Rattle.std.specs.Cmp.{IsTotalOrder}
use Rattle.std.specs.Ordering.{match_ordering}
use Rattle.std.specs.List.{AllByRecursion}
use Rattle.std.specs.List.Sorted.{IsStrictlySortedBy}
use Rattle.std.proofs.lemmas.Bool.{cases_Bool, and_parts, false_from_ne_true}
use Rattle.std.proofs.lemmas.Cmp.{tied_itself, nat_list_cmp_total}
use Rattle.std.proofs.lemmas.List.{map-append}
use Rattle.sqlite_trees.specs.Tree.{Trees}
use Rattle.sqlite_schema.specs.declared.schema.Table.{Table}
use Rattle.sqlite_rules.specs.Lists.{Has}
use Rattle.sqlite_rules.proofs.ListLemmas.{all_has, all_from}
use Rattle.hub_rows.specs.declared.list_row.LocalList.{LocalList}
use Rattle.hub_rows.specs.declared.list_row.LocalTag.{LocalTag}
use Rattle.hub_rows.specs.declared.change.Edit.TheVariants.{Holdings}
use Rattle.hub_rows.specs.declared.change.HoldingEdit.TheVariants.{ListSet}
use Rattle.hub_rows.specs.Changes.{edit, list_row}
use Rattle.hub_rows.specs.Keyed.{key_cmp, by_key, put, put_all}
use Rattle.hub_rows.specs.LocalLists.{AreEntries, entry_key}
use Rattle.hub_rows.specs.Lookups.{local_list_in}
use Rattle.hub_rows.specs.Rows.{list_key}
use Rattle.hub_rows.proofs.ListLaws.{RespectsTies, keys_total, by_key_total, same_text, text_itself, all-weaker, sorted-put, filter-put, filter-put_not, ties_key, head}
use Rattle.hub_rows.proofs.GrantLaws.{second}
use Rattle.sql_tables.specs.Tables.{hub_schema}
use Rattle.sql_rows.specs.declared.list_rows.ListHead.{ListHead}
use Rattle.sql_rows.specs.declared.list_rows.EntryRow.{EntryRow}
use Rattle.sql_rows.specs.TypedTable.{cmp, typed, rows_in, Spares}
use Rattle.sql_rows.specs.TypedTables.{lists, entries, entry_row, is_entry_of, list_of, rows_of}
use Rattle.sql_rows.specs.Kept.{IsPutIn, ArePutIn, IsDropped, IsMade}
use Rattle.sql_rows.proofs.HubTables.{IsApart, rest_is, same_in, spared}
use Rattle.sql_rows.proofs.HoldingTables.{on_lists, on_entries}
use Rattle.sql_rows.proofs.MemberLaws.{same_elements, sorted_single, sorted_filter, is_arranged, arranged_from, arranged_has, put_all-last}

-- ---- a list is read by its head and its entries

module _ (op station : List ℕ) (all : List EntryRow) where
  abbrev pub local : ListHead → LocalList
  local l = record { version = l.version; entries = map (λ e. e.entry) (filter (λ e. bytes_eq e.op op && bytes_eq e.station station) all) }

  pub list_found : (heads : List ListHead) → local_list_in op station (map (list_of all) heads) ≡ option_map local (find (λ l. bytes_eq l.op op && bytes_eq l.station station) heads)
  list_found [] = refl
  list_found (h ∷ heads) = elim (cases_Bool (bytes_eq h.op op && bytes_eq h.station station)) [
    | inl here ↦
        let parts = and_parts (bytes_eq h.op op) (bytes_eq h.station station) here in
        rw here (λ i. Some (record { version = h.version; entries = map (λ e. e.entry) (filter (λ (e : EntryRow). bytes_eq e.op (same_text h.op op parts.0 i) && bytes_eq e.station (same_text h.station station parts.1 i)) all) }))
    | inr other ↦ rw other (list_found heads)
  ]

-- ---- rows that are put

module _ {R : Type 0} (c : R → R → Ordering) (order : IsTotalOrder c) where
  -- rows that are in order stay
  pub put_all-sorted : (xs : List R) → IsStrictlySortedBy c xs → put_all c xs [] ≡ xs
  put_all-sorted xs up =
      let once = sorted_single c order xs up in
      same_elements c order (put_all c xs []) xs (is_arranged c order xs) up (arranged_from c order xs) (λ x h. arranged_has c order xs x once h)

  -- rows of which none passes are put: what passes stays
  pub filter-put_all_not : (p : R → Bool) → RespectsTies c p → (rs xs : List R) → AllByRecursion (λ r. p r ≡ false) rs → filter p (put_all c rs xs) ≡ filter p xs
  filter-put_all_not p ties [] xs none = refl
  filter-put_all_not p ties (r ∷ rs) xs none = filter-put_all_not p ties rs (put c r xs) none.1 ∙ filter-put_not c p ties r xs none.0

  -- rows that all pass are put into what passes
  pub filter-put_all : (p : R → Bool) → RespectsTies c p → (rs xs : List R) → IsStrictlySortedBy c xs → AllByRecursion (λ r. p r ≡ true) rs → filter p (put_all c rs xs) ≡ put_all c rs (filter p xs)
  filter-put_all p ties [] xs up all = refl
  filter-put_all p ties (r ∷ rs) xs up all = filter-put_all p ties rs (put c r xs) (sorted-put c order r xs up) all.1 ∙ ap (put_all c rs) (filter-put c order p ties r xs up all.0)

-- of the rows that fail a test, those that fail it too are as they were
pub filter-passed : {R : Type 0} (p q : R → Bool) → ((r : R) → q r ≡ true → p r ≡ false) → (xs : List R) → filter q (filter (λ r. not (p r)) xs) ≡ filter q xs
filter-passed p q apart [] = refl
filter-passed p q apart (x ∷ xs) = elim (cases_Bool (q x)) [
  | inl e ↦ rw (apart x e, e) (ap (λ l. x ∷ l) (filter-passed p q apart xs))
  | inr e ↦ elim (cases_Bool (p x)) [
    | inl t ↦ rw (t, e) (filter-passed p q apart xs)
    | inr f ↦ rw (f, e) (filter-passed p q apart xs)
  ]
]

-- none of the rows that fail a test passes it
pub filter-none : {R : Type 0} (p : R → Bool) (xs : List R) → filter p (filter (λ r. not (p r)) xs) ≡ []
filter-none p [] = refl
filter-none p (x ∷ xs) = grind (arith, filter-none p xs)

-- A row is put, and each row is read anew. The other rows are read as they were.
module _ {A B : Type 0} (c : A → A → Ordering) (d : B → B → Ordering) (order : IsTotalOrder c) (f g : A → B) (h : A) (same : (x : A) → c h x ≡ d (f h) (g x)) (spared : (x : A) → c h x ≢ Equal → f x ≡ g x) where
  map-above : (xs : List A) → AllByRecursion (λ y. c h y ≡ Less) xs → map f xs ≡ map g xs
  map-above [] all = refl
  map-above (x ∷ xs) all = ap₂ ◌∷◌ (spared x (λ tie. let clash = sym all.0 ∙ tie in cc)) (map-above xs all.1)

  map-put : (xs : List A) → IsStrictlySortedBy c xs → map f (put c h xs) ≡ put d (f h) (map g xs)
  unfolding IsStrictlySortedBy
  map-put [] up = refl
  map-put (x ∷ xs) up = go (c h x) refl (map-put xs up.1)
    where
      go : (o : Ordering) → c h x ≡ o → map f (put c h xs) ≡ put d (f h) (map g xs) → map f (match_ordering o (h ∷ x ∷ xs) (h ∷ xs) (x ∷ put c h xs)) ≡ match_ordering (d (f h) (g x)) (f h ∷ g x ∷ map g xs) (f h ∷ map g xs) (g x ∷ put d (f h) (map g xs))
      go Less e later = rw (sym (same x), e) (ap (λ l. f h ∷ l) (map-above (x ∷ xs) (e, all-weaker (λ y. c x y ≡ Less) (λ y. c h y ≡ Less) (λ y l. order.trans h x y e l) xs up.0)))
      go Equal e later = rw (sym (same x), e) (ap (λ l. f h ∷ l) (map-above xs (all-weaker (λ y. c x y ≡ Less) (λ y. c h y ≡ Less) (λ y l. order.congr h x y e ∙ l) xs up.0)))
      go Greater e later = rw (sym (same x), e) (ap₂ ◌∷◌ (spared x (λ tie. let clash = sym e ∙ tie in cc)) later)

-- ---- the entries of a list are put

module _ (op station : List ℕ) where
  abbrev pub entry_rows : List LocalTag → List EntryRow
  entry_rows es = map (entry_row op station) es

  abbrev pub of_list : EntryRow → Bool
  of_list e = bytes_eq e.op op && bytes_eq e.station station

  all-of_list : (es : List LocalTag) → AllByRecursion (λ r. of_list r ≡ true) (entry_rows es)
  all-of_list [] = tt
  all-of_list (e ∷ es) = (ap₂ ◌&&◌ (text_itself op op refl) (text_itself station station refl), all-of_list es)

  back : (es : List LocalTag) → map (λ e. e.entry) (entry_rows es) ≡ es
  back [] = refl
  back (e ∷ es) = ap (λ l. e ∷ l) (back es)

  -- entries of one list compare by the keys of their tags
  by_tag : (x y : LocalTag) → cmp entries (entry_row op station x) (entry_row op station y) ≡ by_key entry_key x y
  by_tag x y = rw (tied_itself nat_list_cmp_total op, tied_itself nat_list_cmp_total station) refl

  above : (x : LocalTag) (es : List LocalTag) → AllByRecursion (λ y. by_key entry_key x y ≡ Less) es → AllByRecursion (λ r. cmp entries (entry_row op station x) r ≡ Less) (entry_rows es)
  above x [] all = tt
  above x (e ∷ es) all = (by_tag x e ∙ all.0, above x es all.1)

  sorted_rows : (es : List LocalTag) → AreEntries es → IsStrictlySortedBy (cmp entries) (entry_rows es)
  unfolding IsStrictlySortedBy
  sorted_rows [] up = tt
  sorted_rows (e ∷ es) up = (above e es up.0, sorted_rows es up.1)

  ties_list : (o s : List ℕ) → RespectsTies (cmp entries) (λ e. bytes_eq e.op o && bytes_eq e.station s)
  ties_list o s = ties_key entries.key (λ k. bytes_eq (head k) o && bytes_eq (second k) s)

  module _ (version : ℕ) (es : List LocalTag) (fits : AreEntries es) where
    abbrev pub head_row : ListHead
    head_row = record { op = op; station = station; version = version }

    -- what is of another list is of no row that is put
    differ : (x : ListHead) → cmp lists head_row x ≢ Equal → bytes_eq op x.op && bytes_eq station x.station ≡ false
    differ x other = false_from_ne_true _ (λ passes.
        let parts = and_parts (bytes_eq op x.op) (bytes_eq station x.station) passes in
        other (ap₂ (λ a b. key_cmp (op ∷ station ∷ []) (a ∷ b ∷ [])) (sym (same_text op x.op parts.0)) (sym (same_text station x.station parts.1)) ∙ tied_itself keys_total (op ∷ station ∷ [])))

    none_of : (x : ListHead) → cmp lists head_row x ≢ Equal → (es : List LocalTag) → AllByRecursion (λ r. is_entry_of x r ≡ false) (entry_rows es)
    none_of x other [] = tt
    none_of x other (e ∷ es) = (differ x other, none_of x other es)

    apart : (x : ListHead) → cmp lists head_row x ≢ Equal → (r : EntryRow) → is_entry_of x r ≡ true → of_list r ≡ false
    apart x other r passes =
        let parts = and_parts (bytes_eq r.op x.op) (bytes_eq r.station x.station) passes in
        ap₂ (λ a b. bytes_eq a op && bytes_eq b station) (same_text r.op x.op parts.0) (same_text r.station x.station parts.1)
        ∙ false_from_ne_true _ (λ also.
        let those = and_parts (bytes_eq x.op op) (bytes_eq x.station station) also in
        let clash = sym (differ x other) ∙ ap₂ ◌&&◌ (text_itself op x.op (sym (same_text x.op op those.0))) (text_itself station x.station (sym (same_text x.station station those.1))) in cc)

    pub lists_set : (heads : List ListHead) (all : List EntryRow) → IsStrictlySortedBy (cmp lists) heads → IsStrictlySortedBy (cmp entries) all
        → map (list_of (put_all (cmp entries) (entry_rows es) (filter (λ e. not (of_list e)) all))) (put (cmp lists) head_row heads)
        ≡ put (by_key list_key) (list_row op station (record { version = version; entries = es })) (map (list_of all) heads)
    lists_set heads all up ups =
        let order = by_key_total entries.key in
        let left = filter (λ e. not (of_list e)) all in
        let now = put_all (cmp entries) (entry_rows es) left in
        let others : (x : ListHead) → cmp lists head_row x ≢ Equal → filter (is_entry_of x) now ≡ filter (is_entry_of x) all =
        λ x other. filter-put_all_not (cmp entries) order (is_entry_of x) (ties_list x.op x.station) (entry_rows es) left (none_of x other es) ∙ filter-passed of_list (is_entry_of x) (apart x other) all in
        let own : map (λ e. e.entry) (filter of_list now) ≡ es =
        ap (map (λ e. e.entry)) (filter-put_all (cmp entries) order of_list (ties_list op station) (entry_rows es) left (sorted_filter (cmp entries) order (λ e. not (of_list e)) all ups) (all-of_list es)
        ∙ ap (put_all (cmp entries) (entry_rows es)) (filter-none of_list all) ∙ put_all-sorted (cmp entries) order (entry_rows es) (sorted_rows es fits)) ∙ back es in
        map-put (cmp lists) (by_key list_key) (by_key_total lists.key) (list_of now) (list_of all) head_row (λ x. refl)
        (λ x other. ap (λ l. record { op = x.op; station = x.station; list = record { version = x.version; entries = map (λ e. e.entry) l } }) (others x other)) heads up
        ∙ ap (λ l. put (by_key list_key) (list_row op station (record { version = version; entries = l })) (map (list_of all) heads)) own

    module _ (a b c d : Trees) (dropped : IsDropped entries of_list a b) (headed : IsPutIn lists head_row b c) (filled : ArePutIn entries (entry_rows es) c d) where
      -- a table of neither has the rows that it had
      still : (t : Table) → Has hub_schema.tables t → IsApart (16 ∷ 18 ∷ []) t.tree → d t.tree ≡ a t.tree
      still t listed apart = spared 18 c d filled.frame t listed (apart.1.0, tt) ∙ spared 16 b c headed.frame t listed (apart.0, tt) ∙ spared 18 a b dropped.frame t listed (apart.1.0, tt)

      heads_now : rows_in lists d ≡ put (cmp lists) head_row (rows_in lists a)
      heads_now = same_in lists 18 c d on_lists.listed filled.frame (λ e. cc) ∙ headed.rows ∙ ap (put (cmp lists) head_row) (same_in lists 18 a b on_lists.listed dropped.frame (λ e. cc))

      entries_now : rows_in entries d ≡ put_all (cmp entries) (entry_rows es) (filter (λ e. not (of_list e)) (rows_in entries a))
      entries_now = filled.rows ∙ ap (put_all (cmp entries) (entry_rows es)) (same_in entries 16 b c on_entries.listed headed.frame (λ e. cc) ∙ dropped.rows)

      pub list_set : IsMade (edit op (Holdings (ListSet station (record { version = version; entries = es })))) a d
      list_set = λ i. record (rows_of (rest_is (16 ∷ 18 ∷ []) a d still i)) {
        local_lists = (ap₂ (λ l h. map (list_of l) h) entries_now heads_now ∙ lists_set (rows_in lists a) (rows_in entries a) (is_arranged (cmp lists) (by_key_total lists.key) (map (typed lists) (a 16))) (is_arranged (cmp entries) (by_key_total entries.key) (map (typed entries) (a 18)))) i;
      }

-- ---- one more entry

pub spares_then : (tree : ℕ) (a b c : Trees) → Spares hub_schema tree a b → Spares hub_schema tree b c → Spares hub_schema tree a c
spares_then tree a b c p q = all_from (λ (t : Table). (t.tree ≡ tree → ⊥) → c t.tree ≡ a t.tree) hub_schema.tables
    (λ t listed other. all_has (λ (t : Table). (t.tree ≡ tree → ⊥) → c t.tree ≡ b t.tree) hub_schema.tables t q listed other ∙ all_has (λ (t : Table). (t.tree ≡ tree → ⊥) → b t.tree ≡ a t.tree) hub_schema.tables t p listed other)

pub entries_more : (op station : List ℕ) (xs more : List LocalTag) (x : LocalTag) → more ≡ xs ++ x ∷ [] → (a b c : Trees) → ArePutIn entries (map (entry_row op station) xs) a b → IsPutIn entries (entry_row op station x) b c → ArePutIn entries (map (entry_row op station) more) a c
entries_more op station xs more x is a b c p q = record {
  rows = q.rows ∙ ap (put (cmp entries) (entry_row op station x)) p.rows ∙ sym (put_all-last (cmp entries) (map (entry_row op station) xs) (entry_row op station x) (rows_in entries a))
      ∙ ap (λ l. put_all (cmp entries) l (rows_in entries a)) (sym (ap (map (entry_row op station)) is ∙ map-append (entry_row op station) xs (x ∷ [])));
  frame = spares_then 18 a b c p.frame q.frame;
}
