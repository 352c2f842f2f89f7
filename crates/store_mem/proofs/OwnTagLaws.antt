-- Among the id tags of one operator the key alone tells which is meant.
use Rattle.std.specs.Prelude.{◌≡◌, ℕ, List, [], ◌∷◌, ◌&&◌, cond, Some}
use Rattle.std.specs.List.{AllByRecursion}
use Rattle.std.specs.List.Sorted.{IsStrictlySortedBy}
use Rattle.std.specs.Ordering.{ordering_then}
use Rattle.std.specs.Str.{bytes_eq}
use Rattle.std.specs.declared.cmp.Ordering.TheVariants.{Less}
use Rattle.std.proofs.Common.{refl, sym, ◌∙◌}
use Rattle.std.proofs.lemmas.Cmp.{tied_itself, nat_list_cmp_total}
use Rattle.hub_rows.specs.declared.tag_row.TagRow.{TagRow}
use Rattle.hub_rows.specs.Keyed.{by_key, key_cmp}
use Rattle.hub_rows.specs.Rows.{tag_key, tag_rest}
use Rattle.hub_rows.specs.Tags.{tag_in, own_tag_in, effective_tag}
use Rattle.hub_rows.proofs.FilterLaws.{all-both}
use Rattle.hub_rows.proofs.ListLaws.{all-weaker, text_itself}
use Rattle.store_mem.specs.Tags.{row_of_key}

module _ (b : List ℕ) where
  abbrev IsMine : TagRow → Type 0
  IsMine r = r.op ≡ b

  pair-alone : (x y : TagRow) → IsMine x → IsMine y → by_key tag_key x y ≡ by_key tag_rest x y
  pair-alone x y mine also =
      (λ i. key_cmp (mine i ∷ tag_rest x) (also i ∷ tag_rest y))
      ∙ (λ i. ordering_then (tied_itself nat_list_cmp_total b i) (key_cmp (tag_rest x) (tag_rest y)))

  -- they are in the order of their keys
  pub sorted-alone : (rows : List TagRow) → AllByRecursion IsMine rows → IsStrictlySortedBy (by_key tag_key) rows → IsStrictlySortedBy (by_key tag_rest) rows
  unfolding IsStrictlySortedBy
  sorted-alone [] mine sorted = tt
  sorted-alone (x ∷ rows) mine sorted = (
    all-weaker (λ y. IsMine y × (by_key tag_key x y ≡ Less)) (λ y. by_key tag_rest x y ≡ Less) (λ y at. sym (pair-alone x y mine.0 at.0) ∙ at.1) rows (all-both _ _ rows mine.1 sorted.0),
    sorted-alone rows mine.1 sorted.1,
  )

  tag-alone : (key : List ℕ) (rows : List TagRow) → AllByRecursion IsMine rows → tag_in b key rows ≡ row_of_key key rows
  tag-alone key [] mine = refl
  tag-alone key (x ∷ rows) mine = λ i. cond (text_itself x.op b mine.0 i && bytes_eq x.key key) (Some x) (tag-alone key rows mine.1 i)

  -- a tag counts as it is found by its key alone
  pub own_tag-alone : (key : List ℕ) (rows : List TagRow) → AllByRecursion IsMine rows → effective_tag (λ k. row_of_key k rows) key ≡ own_tag_in b key rows
  own_tag-alone key rows mine = λ i. effective_tag (λ k. sym (tag-alone k rows mine) i) key
