-- Rows kept once more by an operator and a name: what an edit of one group makes of all.
use Rattle.std.specs.Prelude.{◌≡◌, ℕ, ◌+◌, ◌<◌, List, [], ◌∷◌, ◌++◌, take, drop, Bool, true, false, cond, ◌&&◌, not, find, None, Some, vec_len, vec_capacity}
use Rattle.std.specs.List.{AllByRecursion, remove}
use Rattle.std.specs.List.Sorted.{IsStrictlySortedBy}
use Rattle.std.specs.Ordering.{is_eq}
use Rattle.std.specs.Str.{bytes_eq}
use Rattle.std.specs.declared.cmp.Ordering.{Ordering}
use Rattle.std.specs.declared.cmp.Ordering.TheVariants.{Less, Greater}
use Rattle.std.proofs.Common.{refl, sym, ◌∙◌, ap, subst, add-one}
use Rattle.std.proofs.Math.ListN.{set}
use Rattle.std.proofs.lemmas.Bool.{and_parts}
use Rattle.std.proofs.lemmas.List.{take-append-drop}
use Rattle.std.proofs.lemmas.List.Kept.{IsStrictlySortedBy-filter}
use Rattle.hub_rows.specs.Keyed.{key_cmp, by_key}
use Rattle.hub_rows.specs.Places.{IsFoundAt, IsGapAt}
use Rattle.hub_rows.proofs.ListLaws.{by_key_total, all-weaker, sorted-put, set_here, two_parts, head, same_text, text_itself}
use Rattle.hub_rows.proofs.NameLaws.{filter-found}
use Rattle.hub_rows.proofs.PlaceLaws.{find-passed, find-none, find-found, find-gap, put-gap}
use Rattle.store_mem.specs.declared.named_groups.NamedGroup.{NamedGroup}
use Rattle.store_mem.specs.NamedGroups.{group_key, is_at, rows_or_none, rows_at, IsRoomAt, HasRoomAt, AreInPlace, AreGrouped}
use Rattle.store_mem.proofs.RowLaws.{sorted-swap}
use Rattle.store_mem.proofs.StationRowsLaws.{second}

-- ---- what is found

find-skip : {X : Type 0} (t : X → Bool) (front back : List X) (x : X) → t x ≡ false → find t (front ++ x ∷ back) ≡ find t (front ++ back)
find-skip t [] back x fails = ap (λ b. cond b (Some x) (find t back)) fails
find-skip t (y ∷ front) back x fails = ap (λ o. cond (t y) (Some y) o) (find-skip t front back x fails)

find-here : {X : Type 0} (t : X → Bool) (front back : List X) (x : X) → AllByRecursion (λ y. t y ≡ false) front → t x ≡ true → find t (front ++ x ∷ back) ≡ Some x
find-here t front back x none passes = find-passed t front (x ∷ back) none ∙ ap (λ b. cond b (Some x) (find t back)) passes

pub cond-alike : {X : Type 0} (t : Bool) (x : X) → cond t x x ≡ x
cond-alike true x = refl
cond-alike false x = refl

pub none_sorted : {R : Type 0} (key : R → List (List ℕ)) → IsStrictlySortedBy (by_key key) []
unfolding IsStrictlySortedBy
none_sorted key = tt

pub none_grouped : {R : Type 0} (op station : R → List ℕ) (number : R → ℕ) → AreGrouped op station number []
unfolding IsStrictlySortedBy
none_grouped op station number = record { sorted = tt; each = tt }

pub none_in_place : (R : Type 0) → AreInPlace {R = R} []
unfolding IsStrictlySortedBy
none_in_place R = tt

itself : (b n : List ℕ) → (bytes_eq b b && bytes_eq n n) ≡ true
itself b n = λ i. text_itself b b refl i && text_itself n n refl i

module _ {R : Type 0} (b n : List ℕ) where
  -- groups below or above a name's place are not its own
  not_at : (z : Ordering) → is_eq z ≡ false → (c u : List ℕ) → (bytes_eq b c && bytes_eq n u) ≡ true → (ss : List (NamedGroup R)) → AllByRecursion (λ s. key_cmp (group_key s) (b ∷ n ∷ []) ≡ z) ss → AllByRecursion (λ s. is_at c u s ≡ false) ss
  not_at z apart c u same ss all =
      let both = and_parts (bytes_eq b c) (bytes_eq n u) same in
      all-weaker (λ s. key_cmp (group_key s) (b ∷ n ∷ []) ≡ z) (λ s. is_at c u s ≡ false)
      (λ s e. two_parts s.op s.name c u ∙ ap is_eq ((λ i. key_cmp (group_key s) (sym (same_text b c both.0) i ∷ sym (same_text n u both.1) i ∷ [])) ∙ e) ∙ apart) ss all

  tested : (s : NamedGroup R) → s.op ≡ b → s.name ≡ n → (c u : List ℕ) → is_at c u s ≡ (bytes_eq b c && bytes_eq n u)
  tested s its_op its_name c u = λ i. bytes_eq (its_op i) c && bytes_eq (its_name i) u

  -- a group in place of that of its name
  module _ (ss : List (NamedGroup R)) (i : ℕ) (at : IsFoundAt group_key (b ∷ n ∷ []) ss i) where
    row_op : at.row.op ≡ b
    row_op = ap head at.has_key

    row_name : at.row.name ≡ n
    row_name = ap second at.has_key

    pub rows-found : rows_at b n ss ≡ at.row.rows.items
    rows-found = ap rows_or_none (find-found group_key (b ∷ n ∷ []) (is_at b n) (λ s. two_parts s.op s.name b n) ss i at)

    pub room-found : HasRoomAt b n ss → vec_len at.row.rows < vec_capacity at.row.rows
    room-found room = subst IsRoomAt (find-found group_key (b ∷ n ∷ []) (is_at b n) (λ s. two_parts s.op s.name b n) ss i at) room

    -- it is taken out
    removed : remove ss i ≡ take i ss ++ drop (i + 1) ss
    removed = sym (ap (λ m. take i ss ++ drop m ss) (add-one i))

    pub remove-in_place : AreInPlace ss → AreInPlace (remove ss i)
    remove-in_place good =
        subst AreInPlace (filter-found group_key (b ∷ n ∷ []) (is_at b n) (λ s. two_parts s.op s.name b n) ss i at) (IsStrictlySortedBy-filter (by_key group_key) (λ s. not (is_at b n s)) ss good)

    pub remove-rows : at.row.rows.items ≡ [] → (c u : List ℕ) → rows_at c u (remove ss i) ≡ rows_at c u ss
    remove-rows empty c u =
        let t : NamedGroup R → Bool = is_at c u in
        let is_old : t at.row ≡ (bytes_eq b c && bytes_eq n u) = tested at.row row_op row_name c u in
        elim (bytes_eq b c && bytes_eq n u) as (λ z. (bytes_eq b c && bytes_eq n u) ≡ z → rows_at c u (remove ss i) ≡ rows_at c u ss) [
          | true ↦ λ e.
              let none = not_at Less refl c u e (take i ss) at.before in
              ap rows_or_none (ap (find t) removed ∙ find-passed t (take i ss) (drop (i + 1) ss) none ∙ find-none t (drop (i + 1) ss) (not_at Greater refl c u e (drop (i + 1) ss) at.after))
              ∙ sym (ap rows_or_none (ap (find t) at.split ∙ find-here t (take i ss) (drop (i + 1) ss) at.row none (is_old ∙ e)) ∙ empty)
          | false ↦ λ e.
              ap rows_or_none (ap (find t) removed ∙ sym (ap (find t) at.split ∙ find-skip t (take i ss) (drop (i + 1) ss) at.row (is_old ∙ e)))
        ] refl

    module _ (s : NamedGroup R) (same_op : s.op ≡ at.row.op) (same_name : s.name ≡ at.row.name) where
      written : set ss i s ≡ take i ss ++ s ∷ drop (i + 1) ss
      written = set_here ss i s at.in_range

      pub set-in_place : AreInPlace ss → AreInPlace (set ss i s)
      set-in_place good =
          subst AreInPlace (sym written)
          (sorted-swap group_key (take i ss) (drop (i + 1) ss) at.row s (λ j. same_op j ∷ same_name j ∷ []) (subst AreInPlace at.split good))

      pub set-rows : (f : List R → List R) → s.rows.items ≡ f at.row.rows.items → (c u : List ℕ) → rows_at c u (set ss i s) ≡ cond (bytes_eq b c && bytes_eq n u) (f (rows_at c u ss)) (rows_at c u ss)
      set-rows f are c u =
          let t : NamedGroup R → Bool = is_at c u in
          let is_old : t at.row ≡ (bytes_eq b c && bytes_eq n u) = tested at.row row_op row_name c u in
          let is_new : t s ≡ (bytes_eq b c && bytes_eq n u) = tested s (same_op ∙ row_op) (same_name ∙ row_name) c u in
          elim (bytes_eq b c && bytes_eq n u) as (λ z. (bytes_eq b c && bytes_eq n u) ≡ z → rows_at c u (set ss i s) ≡ cond z (f (rows_at c u ss)) (rows_at c u ss)) [
            | true ↦ λ e.
                let none = not_at Less refl c u e (take i ss) at.before in
                ap rows_or_none (ap (find t) written ∙ find-here t (take i ss) (drop (i + 1) ss) s none (is_new ∙ e)) ∙ are
                ∙ ap f (sym (ap rows_or_none (ap (find t) at.split ∙ find-here t (take i ss) (drop (i + 1) ss) at.row none (is_old ∙ e))))
            | false ↦ λ e.
                ap rows_or_none (ap (find t) written ∙ find-skip t (take i ss) (drop (i + 1) ss) s (is_new ∙ e)
                ∙ sym (ap (find t) at.split ∙ find-skip t (take i ss) (drop (i + 1) ss) at.row (is_old ∙ e)))
          ] refl

      pub set-same : s.rows.items ≡ at.row.rows.items → (c u : List ℕ) → rows_at c u (set ss i s) ≡ rows_at c u ss
      set-same are c u = set-rows (λ rows. rows) are c u ∙ cond-alike (bytes_eq b c && bytes_eq n u) (rows_at c u ss)

      pub set-room : vec_len s.rows < vec_capacity s.rows → HasRoomAt b n (set ss i s)
      set-room room =
          subst (HasRoomAt b n) (sym written) (subst IsRoomAt (sym (find-here (is_at b n) (take i ss) (drop (i + 1) ss) s (not_at Less refl b n (itself b n) (take i ss) at.before)
          (tested s (same_op ∙ row_op) (same_name ∙ row_name) b n ∙ itself b n))) room)

  -- where there is no group of the name
  module _ (ss : List (NamedGroup R)) (i : ℕ) (gap : IsGapAt group_key (b ∷ n ∷ []) ss i) where
    none-found : find (is_at b n) ss ≡ None
    none-found = find-gap group_key (b ∷ n ∷ []) (is_at b n) (λ s. two_parts s.op s.name b n) ss i gap

    pub rows-none : rows_at b n ss ≡ []
    rows-none = ap rows_or_none none-found

    pub room-none : HasRoomAt b n ss → ⊥
    room-none room = subst IsRoomAt none-found room

    -- what changes no rows there
    pub none-changed : (f : List R → List R) → f [] ≡ [] → (c u : List ℕ) → rows_at c u ss ≡ cond (bytes_eq b c && bytes_eq n u) (f (rows_at c u ss)) (rows_at c u ss)
    none-changed f stays c u =
        elim (bytes_eq b c && bytes_eq n u) as (λ z. (bytes_eq b c && bytes_eq n u) ≡ z → rows_at c u ss ≡ cond z (f (rows_at c u ss)) (rows_at c u ss)) [
          | true ↦ λ e.
              let both = and_parts (bytes_eq b c) (bytes_eq n u) e in
              let none : rows_at c u ss ≡ [] = subst (λ x. rows_at x u ss ≡ []) (same_text b c both.0) (subst (λ y. rows_at b y ss ≡ []) (same_text n u both.1) rows-none) in
              none ∙ sym stays ∙ ap f (sym none)
          | false ↦ λ e. refl
        ] refl

    -- a group with no rows is put there
    module _ (s : NamedGroup R) (its_op : s.op ≡ b) (its_name : s.name ≡ n) where
      pub insert-in_place : AreInPlace ss → AreInPlace (take i ss ++ s ∷ drop i ss)
      insert-in_place good =
          subst AreInPlace (put-gap group_key s ss i (subst (λ l. IsGapAt group_key l ss i) (λ j. sym its_op j ∷ sym its_name j ∷ []) gap)) (sorted-put (by_key group_key) (by_key_total group_key) s ss good)

      pub insert-rows : s.rows.items ≡ [] → (c u : List ℕ) → rows_at c u (take i ss ++ s ∷ drop i ss) ≡ rows_at c u ss
      insert-rows are c u =
          let t : NamedGroup R → Bool = is_at c u in
          let split = take-append-drop i ss in
          let is_new : t s ≡ (bytes_eq b c && bytes_eq n u) = tested s its_op its_name c u in
          elim (bytes_eq b c && bytes_eq n u) as (λ z. (bytes_eq b c && bytes_eq n u) ≡ z → rows_at c u (take i ss ++ s ∷ drop i ss) ≡ rows_at c u ss) [
            | true ↦ λ e.
                let none = not_at Less refl c u e (take i ss) gap.before in
                ap rows_or_none (find-here t (take i ss) (drop i ss) s none (is_new ∙ e)) ∙ are
                ∙ sym (ap rows_or_none (ap (find t) (sym split) ∙ find-passed t (take i ss) (drop i ss) none ∙ find-none t (drop i ss) (not_at Greater refl c u e (drop i ss) gap.after)))
            | false ↦ λ e. ap rows_or_none (find-skip t (take i ss) (drop i ss) s (is_new ∙ e) ∙ ap (find t) split)
          ] refl

      pub insert-room : vec_len s.rows < vec_capacity s.rows → HasRoomAt b n (take i ss ++ s ∷ drop i ss)
      insert-room room =
          subst IsRoomAt (sym (find-here (is_at b n) (take i ss) (drop i ss) s (not_at Less refl b n (itself b n) (take i ss) gap.before) (tested s its_op its_name b n ∙ itself b n))) room
