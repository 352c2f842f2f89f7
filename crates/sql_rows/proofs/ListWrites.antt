-- What the statement that drops a local list makes of the rows of the hub.
use Rattle.std.proofs.Common.{◌≡◌, ℕ, ◌&&◌, List, [], ◌∷◌, true, false, not, filter, map, inl, inr, refl, ap, ap₂, ◌∙◌}
use Rattle.std.specs.Str.{bytes_eq}
use Rattle.std.proofs.lemmas.Bool.{cases_Bool, and_parts}
use Rattle.sqlite_value.specs.declared.value.Value.TheVariants.{Text}
use Rattle.hub_rows.specs.Keyed.{without}
use Rattle.hub_rows.proofs.ListLaws.{same_text}
use Rattle.sql_tables.specs.declared.lists.TheConstants as sql_lists
use Rattle.sql_tables.proofs.Texts as texts
use Rattle.sql_rows.specs.declared.list_rows.ListHead.{ListHead}
use Rattle.sql_rows.specs.declared.list_rows.EntryRow.{EntryRow}
use Rattle.sql_rows.specs.TypedTable.{rows_in}
use Rattle.sql_rows.specs.TypedTables.{lists, entries, is_entry_of, list_of, rows_of}
use Rattle.sql_rows.specs.Kept.{IsMade}
use Rattle.sql_rows.proofs.HubTables.{rest_is}
use Rattle.sql_rows.proofs.HoldingTables.{on_lists, on_entries}
use Rattle.sql_rows.proofs.Tests.{of_lists}
use Rattle.sql_rows.proofs.CascadeLemmas.{GoWith, loses_any}
use Rattle.sql_rows.proofs.CascadeWrites.{key_of_tag, key_of_list, drops_with}
use Rattle.sql_rows.proofs.ListEdits.{of_list, filter-passed}
use Rattle.sql_rows.proofs.StoreLemmas.{Means, means_as}

-- entries go with their list
entries_go : GoWith lists entries
entries_go = record {
  at = 8;
  to = 9;
  on_parents = on_lists;
  on_children = on_entries;
  apart = λ e. cc;
  op = λ l. l.op;
  name = λ l. l.station;
  child_op = λ e. e.op;
  child_name = λ e. e.station;
  parent_row = λ l. refl;
  child_row = λ e. refl;
  test = of_lists;
  refers = refl;
  held = λ db id e. rw key_of_list refl;
  sets_off = λ olds. elim (cases_Bool (loses_any olds)) [
    | inl e ↦ rw (key_of_tag, key_of_list, e) refl
    | inr e ↦ rw (key_of_tag, key_of_list, e) refl
  ];
  frees = λ depth olds. rw (key_of_tag, key_of_list) refl;
}

module _ (op station : List ℕ) (all : List EntryRow) where
  -- no entry of another list is one of this
  of_another : (h : ListHead) → bytes_eq h.op op && bytes_eq h.station station ≡ false → (e : EntryRow) → is_entry_of h e ≡ true → of_list op station e ≡ false
  of_another h other e passes =
      let parts = and_parts (bytes_eq e.op h.op) (bytes_eq e.station h.station) passes in
      ap₂ (λ a b. bytes_eq a op && bytes_eq b station) (same_text e.op h.op parts.0) (same_text e.station h.station parts.1) ∙ other

  lists_left : (heads : List ListHead) → map (list_of (filter (λ e. not (of_list op station e)) all)) (filter (λ l. not (bytes_eq l.op op && bytes_eq l.station station)) heads)
      ≡ without (λ r. r.op) op (λ r. bytes_eq r.station station) (map (list_of all) heads)
  lists_left [] = refl
  lists_left (h ∷ heads) = elim (cases_Bool (bytes_eq h.op op && bytes_eq h.station station)) [
    | inl here ↦ rw here (lists_left heads)
    | inr other ↦ rw other (ap₂ ◌∷◌
        (ap (λ (l : List EntryRow). record { op = h.op; station = h.station; list = record { version = h.version; entries = map (λ e. e.entry) l } }) (filter-passed (of_list op station) (is_entry_of h) (of_another h other) all))
        (lists_left heads))
  ]

pub drops_list : (op station : List ℕ) → Means sql_lists.DROP.now (Text op ∷ Text station ∷ []) (IsMade (λ rows. record rows { local_lists = without (λ r. r.op) op (λ r. bytes_eq r.station station) rows.local_lists }))
unfolding entries_go
drops_list op station = means_as (drops_with lists entries entries_go op station sql_lists.DROP.now texts.drop_list_is (λ e. cc, (λ e. cc, tt)))
    (λ old new h. λ i. record (rows_of (rest_is (16 ∷ 18 ∷ []) old new h.frame i)) {
      local_lists = (ap₂ (λ all heads. map (list_of all) heads) h.more h.rows ∙ lists_left op station (rows_in entries old) (rows_in lists old)) i;
    })
