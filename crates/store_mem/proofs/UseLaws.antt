-- Uses of one owner, in the order of their numbers.
use Rattle.std.specs.Prelude.{◌≡◌, ℕ, List, [], ◌∷◌, map}
use Rattle.std.specs.List.{AllByRecursion}
use Rattle.std.specs.List.Sorted.{IsStrictlySortedBy}
use Rattle.std.specs.Ordering.{ordering_then}
use Rattle.std.specs.declared.cmp.Ordering.TheVariants.{Less}
use Rattle.std.proofs.Common.{sym, ◌∙◌, ap}
use Rattle.std.proofs.lemmas.Cmp.{tied_itself, nat_list_cmp_total}
use Rattle.hub_rows.specs.declared.use_row.UseRow.{UseRow}
use Rattle.hub_rows.specs.Keyed.{key_cmp, by_key, greatest, own, number_key}
use Rattle.hub_rows.specs.Rows.{use_key, use_rest}
use Rattle.hub_rows.specs.Uses.{last_use_in}
use Rattle.hub_rows.proofs.ListLaws.{all-weaker}
use Rattle.store_mem.proofs.GroupLaws.{those-all}
use Rattle.hub_rows.proofs.FilterLaws.{all-both}

abbrev pub number : UseRow → ℕ
number r = r.number

-- uses of one owner compare by their numbers
mine_order : (a : List ℕ) (x y : UseRow) → x.op ≡ a → y.op ≡ a → by_key (number_key number) x y ≡ by_key use_key x y
mine_order a x y m n = sym ((λ i. key_cmp (m i ∷ use_rest x) (n i ∷ use_rest y)) ∙ ap (λ o. ordering_then o (key_cmp (use_rest x) (use_rest y))) (tied_itself nat_list_cmp_total a))

pub by_numbers : (a : List ℕ) (rows : List UseRow) → AllByRecursion (λ r. r.op ≡ a) rows → IsStrictlySortedBy (by_key use_key) rows → IsStrictlySortedBy (by_key (number_key number)) rows
unfolding IsStrictlySortedBy
by_numbers a [] all sorted = tt
by_numbers a (x ∷ rows) all sorted = (
  all-weaker (λ y. (y.op ≡ a) × (by_key use_key x y ≡ Less)) (λ y. by_key (number_key number) x y ≡ Less) (λ y at. mine_order a x y all.0 at.0 ∙ at.1) rows (all-both _ _ rows all.1 sorted.0),
  by_numbers a rows all.1 sorted.1,
)

-- the last number is that of the owner's own
pub last_own : (a : List ℕ) (uses : List UseRow) → greatest (map number (own (λ r. r.op) a uses)) ≡ last_use_in a uses
last_own a uses = sym (ap (λ rows. greatest (map number rows)) (those-all (λ r. r.op) a uses))
