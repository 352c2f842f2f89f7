-- Members and items that are repaired one after another.
use Rattle.std.proofs.Common.{◌≡◌, ℕ, zero, suc, ◌+◌, ◌<◌, ◌≤◌, length, get_or, drop, List, [], ◌∷◌, ◌++◌, Option, Some, None, option_map, Bor, refl, sym, ap, ◌∙◌, subst, arith}
use Rattle.std.proofs.lemmas.List.{drop_more, drop_all}
use Rattle.std.specs.Option.{option_to_list}
use Rattle.json.specs.Json.{Items, item, Members, member}
use Rattle.json.specs.Tree.{HasNumbers, ItemsHaveNumbers, MembersHaveNumbers}
use Rattle.json.specs.Value.{value_view, items_view, members_view}
use Rattle.json.specs.declared.value.Value.{Value}
use Rattle.json.proofs.Trees.{items_before, members_before, items_before-no_items, members_before-no_members}
use Rattle.repairs.specs.Tables.{Repair, Table, repair_at, some_member, repaired_members, some_item, repaired_items}

module _ {A : Type 0} where
  member_pushed : (ms : List (Bor (List ℕ) × Value A)) (k : Bor (List ℕ)) (o : Option (Value A)) (rest : Members)
      → members_before (ms ++ option_to_list (option_map (λ v. (k, v)) o)) rest ≡ members_before ms (some_member k.now (option_map (λ v. value_view v) o) rest)
  member_pushed [] k None rest = refl
  member_pushed [] k (Some v) rest = refl
  member_pushed (m ∷ ms) k o rest = ap (member m.0.now (value_view m.1)) (member_pushed ms k o rest)

  item_pushed : (vs : List (Value A)) (o : Option (Value A)) (rest : Items)
      → items_before (vs ++ option_to_list o) rest ≡ items_before vs (some_item (option_map (λ v. value_view v) o) rest)
  item_pushed [] None rest = refl
  item_pushed [] (Some v) rest = refl
  item_pushed (w ∷ vs) o rest = ap (item (value_view w)) (item_pushed vs o rest)

  -- the members that are repaired, before those that are left
  abbrev pub MembersSoFar : Table → List (Bor (List ℕ) × Value A) → List (Bor (List ℕ) × Value A) → ℕ → Type 0
  MembersSoFar table all repaired n = members_before repaired (repaired_members table (members_view (drop n all))) ≡ repaired_members table (members_view all)

  abbrev pub ItemsSoFar : Repair → List (Value A) → List (Value A) → ℕ → Type 0
  ItemsSoFar repair all repaired n = items_before repaired (repaired_items repair (items_view (drop n all))) ≡ repaired_items repair (items_view all)

  pub members-more : (table : Table) (all repaired more : List (Bor (List ℕ) × Value A)) (n : ℕ) (k : Bor (List ℕ)) (v : Value A) (o : Option (Value A))
      → n < length all → (k, v) ≡ get_or all n (k, v) → option_map (λ v. value_view v) o ≡ repair_at table k.now (value_view v)
      → more ≡ repaired ++ option_to_list (option_map (λ v. (k, v)) o) → MembersSoFar table all repaired n → MembersSoFar table all more (n + 1)
  members-more table all repaired more n k v o within is is_repair added so_far =
      let rest = repaired_members table (members_view (drop (n + 1) all)) in
      ap (λ ms. members_before ms rest) added ∙ member_pushed repaired k o rest
      ∙ ap (λ p. members_before repaired (some_member k.now p rest)) is_repair
      ∙ ap (λ m. members_before repaired (some_member m.0.now (repair_at table m.0.now (value_view m.1)) rest)) is
      ∙ ap (λ ms. members_before repaired (repaired_members table (members_view ms))) (sym (drop_more all n (k, v) within))
      ∙ so_far

  pub members-end : (table : Table) (all repaired : List (Bor (List ℕ) × Value A)) (n : ℕ) → length all ≤ n → MembersSoFar table all repaired n
      → members_view repaired ≡ repaired_members table (members_view all)
  members-end table all repaired n past so_far =
      sym (members_before-no_members repaired) ∙ ap (λ ms. members_before repaired (repaired_members table (members_view ms))) (sym (drop_all n all past)) ∙ so_far

  pub items-more : (repair : Repair) (all repaired more : List (Value A)) (n : ℕ) (v : Value A) (o : Option (Value A))
      → n < length all → v ≡ get_or all n v → option_map (λ v. value_view v) o ≡ repair (value_view v)
      → more ≡ repaired ++ option_to_list o → ItemsSoFar repair all repaired n → ItemsSoFar repair all more (n + 1)
  items-more repair all repaired more n v o within is is_repair added so_far =
      let rest = repaired_items repair (items_view (drop (n + 1) all)) in
      ap (λ vs. items_before vs rest) added ∙ item_pushed repaired o rest
      ∙ ap (λ p. items_before repaired (some_item p rest)) is_repair
      ∙ ap (λ w. items_before repaired (some_item (repair (value_view w)) rest)) is
      ∙ ap (λ vs. items_before repaired (repaired_items repair (items_view vs))) (sym (drop_more all n v within))
      ∙ so_far

  pub items-end : (repair : Repair) (all repaired : List (Value A)) (n : ℕ) → length all ≤ n → ItemsSoFar repair all repaired n
      → items_view repaired ≡ repaired_items repair (items_view all)
  items-end repair all repaired n past so_far =
      sym (items_before-no_items repaired) ∙ ap (λ vs. items_before repaired (repaired_items repair (items_view vs))) (sym (drop_all n all past)) ∙ so_far

  -- each of them has numbers
  pub member-numbers : (all : List (Bor (List ℕ) × Value A)) (n : ℕ) (m : Bor (List ℕ) × Value A) → MembersHaveNumbers (members_view all) → n < length all → m ≡ get_or all n m → HasNumbers (value_view m.1)
  member-numbers [] n m h within is = absurd (omega arith)
  member-numbers (w ∷ all) zero m h within is = subst (λ x. HasNumbers (value_view x.1)) (sym is) h.0
  member-numbers (w ∷ all) (suc n) m h within is = member-numbers all n m h.1 (omega arith) is

  pub item-numbers : (all : List (Value A)) (n : ℕ) (v : Value A) → ItemsHaveNumbers (items_view all) → n < length all → v ≡ get_or all n v → HasNumbers (value_view v)
  item-numbers [] n v h within is = absurd (omega arith)
  item-numbers (w ∷ all) zero v h within is = subst (λ x. HasNumbers (value_view x)) (sym is) h.0
  item-numbers (w ∷ all) (suc n) v h within is = item-numbers all n v h.1 (omega arith) is
