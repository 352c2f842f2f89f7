-- Rows kept in groups: what is found of them, and what an edit of one group makes of all.
use Rattle.std.specs.Prelude.{◌≡◌, ℕ, ◌+◌, List, [], ◌∷◌, ◌++◌, take, drop, Bool, true, false, not, ◌&&◌, cond, filter, find}
use Rattle.std.specs.List.{AllByRecursion}
use Rattle.std.specs.List.Sorted.{IsStrictlySortedBy}
use Rattle.std.specs.Ordering.{ordering_then, ordering_reverse, is_eq, match_ordering}
use Rattle.std.specs.Str.{bytes_eq}
use Rattle.std.specs.declared.cmp.Ordering.{Ordering}
use Rattle.std.specs.declared.cmp.Ordering.TheVariants.{Less, Equal, Greater}
use Rattle.std.proofs.Common.{refl, sym, ◌∙◌, ap, subst, arith, append_assoc, append-nil}
use Rattle.std.proofs.Math.ListN.{set}
use Rattle.std.proofs.lemmas.List.{take-append-drop}
use Rattle.std.proofs.lemmas.List.Elements.{filter-append}
use Rattle.std.proofs.lemmas.List.Kept.{IsStrictlySortedBy-filter}
use Rattle.std.proofs.lemmas.Map.Text.{is_eq-slice_cmp}
use Rattle.hub_rows.specs.declared.tag_row.TagRow.{TagRow}
use Rattle.hub_rows.specs.Keyed.{text_cmp, key_cmp, by_key, put, own, found, those, without}
use Rattle.hub_rows.specs.Places.{AllBelow, AllAbove, IsFoundAt, IsGapAt}
use Rattle.hub_rows.specs.Tags.{own_tag_in, effective_tag}
use Rattle.hub_rows.proofs.ListLaws.{keys_total, by_key_total, all-weaker, all-filter, all-put, put-front, sorted-put, set_here, head, text_itself, found-own, and-true}
use Rattle.hub_rows.proofs.PlaceLaws.{all-back, put-passed, put-gap}
use Rattle.store_mem.specs.declared.groups.Group.{Group}
use Rattle.store_mem.specs.Groups.{name_key, all_of, AreOfGroup, AreGroups}
use Rattle.store_mem.proofs.RowLaws.{sorted-swap}
use Rattle.hub_rows.proofs.FilterLaws.{all-append, all-both, all-front, filter-all, filter-no}

-- ---- one's own rows

pub own-own : {R : Type 0} (op : R → List ℕ) (b : List ℕ) (xs : List R) → own op b (own op b xs) ≡ own op b xs
own-own op b [] = refl
own-own op b (x ∷ xs) = grind (arith, own-own op b xs)

-- what is found of one's own rows is found of all
pub found-in_own : {R : Type 0} (op : R → List ℕ) (b : List ℕ) (test : R → Bool) (xs : List R) → found op b test (own op b xs) ≡ found op b test xs
found-in_own op b test xs = found-own op b test (own op b xs) ∙ ap (find test) (own-own op b xs) ∙ sym (found-own op b test xs)

pub those-all : {R : Type 0} (op : R → List ℕ) (b : List ℕ) (xs : List R) → those op b (λ r. true) xs ≡ own op b xs
those-all op b xs = λ i. filter (λ r. and-true (bytes_eq (op r) b) i) xs

-- a tag counts as it does among all
pub own_tag-own : (b key : List ℕ) (tags : List TagRow) → own_tag_in b key (own (λ r. r.op) b tags) ≡ own_tag_in b key tags
own_tag-own b key tags = λ i. effective_tag (λ k. found-in_own (λ r. r.op) b (λ r. bytes_eq r.key k) tags i) key

-- ---- the order

-- a key of one part
pub name_order : (a c : List ℕ) → key_cmp (a ∷ []) (c ∷ []) ≡ text_cmp a c
name_order a c = elim (text_cmp a c) as (λ o. ordering_then o Equal ≡ o) [ Less ↦ refl | Equal ↦ refl | Greater ↦ refl ]

pub one_name : (a c : List ℕ) → bytes_eq a c ≡ is_eq (key_cmp (a ∷ []) (c ∷ []))
one_name a c = sym (ap is_eq (name_order a c) ∙ is_eq-slice_cmp a c)

then-less : (o p : Ordering) → ordering_then o Equal ≡ Less → ordering_then o p ≡ Less
then-less Less p e = refl
then-less Equal p e = absurd (cc)
then-less Greater p e = e

then-greater : (o p : Ordering) → ordering_then o Equal ≡ Greater → ordering_then o p ≡ Greater
then-greater Less p e = e
then-greater Equal p e = absurd (cc)
then-greater Greater p e = refl

-- a row that is below all that follows is put before it
put-before : {R : Type 0} (cmp : R → R → Ordering) (r : R) (xs back : List R) → AllByRecursion (λ y. cmp r y ≡ Less) back → put cmp r (xs ++ back) ≡ put cmp r xs ++ back
put-before cmp r [] back all = put-front cmp r back all
put-before cmp r (x ∷ xs) back all =
    elim (cmp r x) as (λ o. match_ordering o (r ∷ x ∷ (xs ++ back)) (r ∷ (xs ++ back)) (x ∷ put cmp r (xs ++ back)) ≡ match_ordering o (r ∷ x ∷ xs) (r ∷ xs) (x ∷ put cmp r xs) ++ back) [
      | Less ↦ refl
      | Equal ↦ refl
      | Greater ↦ ap (λ ys. x ∷ ys) (put-before cmp r xs back all)
    ]

-- ---- the rows of all groups

pub all_of-append : {R : Type 0} (gs hs : List (Group R)) → all_of (gs ++ hs) ≡ all_of gs ++ all_of hs
all_of-append [] hs = refl
all_of-append (g ∷ gs) hs = ap (λ rs. g.rows.items ++ rs) (all_of-append gs hs) ∙ sym (append_assoc g.rows.items (all_of gs) (all_of hs))

all-of : {R : Type 0} (P : R → Type 0) (Q : Group R → Type 0) → ((g : Group R) → Q g → AllByRecursion P g.rows.items) → (gs : List (Group R)) → AllByRecursion Q gs → AllByRecursion P (all_of gs)
all-of P Q f [] all = tt
all-of P Q f (g ∷ gs) all = all-append P g.rows.items (all_of gs) (f g all.0) (all-of P Q f gs all.1)

pub no-groups : {R : Type 0} (key : R → List (List ℕ)) (group : R → List ℕ) → AreGroups key group []
unfolding IsStrictlySortedBy
no-groups key group = record { sorted = tt; each = tt }

module _ {R : Type 0} (key : R → List (List ℕ)) (group : R → List ℕ) (rest : R → List (List ℕ)) (splits : (r : R) → key r ≡ group r ∷ rest r) (b : List ℕ) where
  abbrev k : List (List ℕ)
  k = b ∷ []

  abbrev mine : R → Bool
  mine r = bytes_eq (group r) b

  abbrev IsMine : R → Type 0
  IsMine r = group r ≡ b

  abbrev IsGood : Group R → Type 0
  IsGood g = AreOfGroup key group g.name g.rows.items

  all_mine : (rows : List R) → AllByRecursion IsMine rows → AllByRecursion (λ r. mine r ≡ true) rows
  all_mine rows all = all-weaker IsMine (λ r. mine r ≡ true) (λ r m. text_itself (group r) b m) rows all

  -- the rows of groups of other names
  groups_not : (z : Ordering) → is_eq z ≡ false → (gs : List (Group R)) → AllByRecursion IsGood gs → AllByRecursion (λ g. key_cmp (name_key g) k ≡ z) gs → AllByRecursion (λ r. mine r ≡ false) (all_of gs)
  groups_not z apart gs each all =
      all-of (λ r. mine r ≡ false) (λ g. IsGood g × (key_cmp (name_key g) k ≡ z))
      (λ g at. all-weaker (λ r. group r ≡ g.name) (λ r. mine r ≡ false) (λ r m. ap (λ n. bytes_eq n b) m ∙ one_name g.name b ∙ ap is_eq at.1 ∙ apart) g.rows.items at.0.mine)
      gs (all-both _ _ gs each all)

  -- what stands before, at and behind the place of the name
  pub record Parts (gs : List (Group R)) (front rows back : List R) : Type 0 where
    pub split : all_of gs ≡ front ++ (rows ++ back)
    pub of_group : AreOfGroup key group b rows
    pub front_not : AllByRecursion (λ r. mine r ≡ false) front
    pub back_not : AllByRecursion (λ r. mine r ≡ false) back
    pub front_less : (r : R) → IsMine r → AllByRecursion (λ y. by_key key r y ≡ Greater) front
    pub back_more : (r : R) → IsMine r → AllByRecursion (λ y. by_key key r y ≡ Less) back

  -- a row of one name and one of another compare by the names
  turned : (n : List ℕ) (r y : R) (z : Ordering) → IsMine r → group y ≡ n → ((p : Ordering) → ordering_then (text_cmp n b) p ≡ z) → by_key key r y ≡ ordering_reverse z
  turned n r y z m at apart =
      keys_total.antisymm (key r) (key y)
      ∙ ap ordering_reverse ((λ i. key_cmp (splits y i) (splits r i)) ∙ (λ i. key_cmp (at i ∷ rest y) (m i ∷ rest r)) ∙ apart (key_cmp (rest y) (rest r)))

  front_below : (gs : List (Group R)) → AllByRecursion IsGood gs → AllBelow name_key k gs → (r : R) → IsMine r → AllByRecursion (λ y. by_key key r y ≡ Greater) (all_of gs)
  front_below gs each all r m =
      all-of (λ y. by_key key r y ≡ Greater) (λ g. IsGood g × (key_cmp (name_key g) k ≡ Less))
      (λ g at. all-weaker (λ y. group y ≡ g.name) (λ y. by_key key r y ≡ Greater) (λ y n. turned g.name r y Less m n (λ p. then-less (text_cmp g.name b) p at.1)) g.rows.items at.0.mine)
      gs (all-both _ _ gs each all)

  back_above : (gs : List (Group R)) → AllByRecursion IsGood gs → AllAbove name_key k gs → (r : R) → IsMine r → AllByRecursion (λ y. by_key key r y ≡ Less) (all_of gs)
  back_above gs each all r m =
      all-of (λ y. by_key key r y ≡ Less) (λ g. IsGood g × (key_cmp (name_key g) k ≡ Greater))
      (λ g at. all-weaker (λ y. group y ≡ g.name) (λ y. by_key key r y ≡ Less) (λ y n. turned g.name r y Greater m n (λ p. then-greater (text_cmp g.name b) p at.1)) g.rows.items at.0.mine)
      gs (all-both _ _ gs each all)

  pub parts-found : (gs : List (Group R)) (i : ℕ) → AreGroups key group gs → (at : IsFoundAt name_key k gs i) → Parts gs (all_of (take i gs)) at.row.rows.items (all_of (drop (i + 1) gs))
  parts-found gs i are at =
      let each = subst (AllByRecursion IsGood) at.split are.each in
      let before = all-front IsGood (take i gs) (at.row ∷ drop (i + 1) gs) each in
      let here = all-back IsGood (take i gs) (at.row ∷ drop (i + 1) gs) each in
      record {
        split = ap all_of at.split ∙ all_of-append (take i gs) (at.row ∷ drop (i + 1) gs);
        of_group = subst (λ l. AreOfGroup key group (head l) at.row.rows.items) at.has_key here.0;
        front_not = groups_not Less refl (take i gs) before at.before;
        back_not = groups_not Greater refl (drop (i + 1) gs) here.1 at.after;
        front_less = front_below (take i gs) before at.before;
        back_more = back_above (drop (i + 1) gs) here.1 at.after;
      }

  pub parts-gap : (gs : List (Group R)) (i : ℕ) → AreGroups key group gs → IsGapAt name_key k gs i → Parts gs (all_of (take i gs)) [] (all_of (drop i gs))
  unfolding IsStrictlySortedBy
  parts-gap gs i are gap =
      let each = subst (AllByRecursion IsGood) (sym (take-append-drop i gs)) are.each in
      let before = all-front IsGood (take i gs) (drop i gs) each in
      let behind = all-back IsGood (take i gs) (drop i gs) each in
      record {
        split = ap all_of (sym (take-append-drop i gs)) ∙ all_of-append (take i gs) (drop i gs);
        of_group = record { mine = tt; sorted = tt };
        front_not = groups_not Less refl (take i gs) before gap.before;
        back_not = groups_not Greater refl (drop i gs) behind gap.after;
        front_less = front_below (take i gs) before gap.before;
        back_more = back_above (drop i gs) behind gap.after;
      }

  -- a test that passes all rows of other names tests the rows of the name alone
  abbrev pub PassesOthers : (R → Bool) → Type 0
  PassesOthers t = (r : R) → mine r ≡ false → t r ≡ true

  module _ (gs : List (Group R)) (front rows back : List R) (parts : Parts gs front rows back) where
    filter-split : (t : R → Bool) → filter t (all_of gs) ≡ filter t front ++ (filter t rows ++ filter t back)
    filter-split t = ap (filter t) parts.split ∙ filter-append t front (rows ++ back) ∙ ap (λ xs. filter t front ++ xs) (filter-append t rows back)

    -- the rows of the name
    pub own-parts : own group b (all_of gs) ≡ rows
    own-parts =
        filter-split mine
        ∙ (λ i. filter-no mine front parts.front_not i ++ (filter-all mine rows (all_mine rows parts.of_group.mine) i ++ filter-no mine back parts.back_not i))
        ∙ append-nil rows

    pub filter-parts : (t : R → Bool) → PassesOthers t → filter t (all_of gs) ≡ front ++ (filter t rows ++ back)
    filter-parts t passes =
        let others : (xs : List R) → AllByRecursion (λ r. mine r ≡ false) xs → filter t xs ≡ xs = (λ xs all. filter-all t xs (all-weaker (λ r. mine r ≡ false) (λ r. t r ≡ true) passes xs all)) in
        filter-split t ∙ (λ i. others front parts.front_not i ++ (filter t rows ++ others back parts.back_not i))

    pub put-parts : (r : R) → IsMine r → put (by_key key) r (all_of gs) ≡ front ++ (put (by_key key) r rows ++ back)
    put-parts r m =
        ap (put (by_key key) r) parts.split ∙ put-passed (by_key key) r front (rows ++ back) (parts.front_less r m)
        ∙ ap (λ xs. front ++ xs) (put-before (by_key key) r rows back (parts.back_more r m))

  -- what takes out rows of the name alone leaves those of others
  others-stay : (test : R → Bool) → PassesOthers (λ r. not (mine r && test r))
  others-stay test r other = ap (λ t. not (t && test r)) other

  -- among rows of the name, a test need not look at it
  pub without-mine : (test : R → Bool) (rows : List R) → AllByRecursion IsMine rows → without group b test rows ≡ filter (λ r. not (test r)) rows
  without-mine test [] all = refl
  without-mine test (x ∷ rows) all = λ i. cond (not (text_itself (group x) b all.0 i && test x)) (x ∷ without-mine test rows all.1 i) (without-mine test rows all.1 i)

  -- ---- rows of one name after an edit

  of-put : (r : R) (rows : List R) → IsMine r → AreOfGroup key group b rows → AreOfGroup key group b (put (by_key key) r rows)
  of-put r rows m are = record {
    mine = all-put (by_key key) IsMine r rows m are.mine;
    sorted = sorted-put (by_key key) (by_key_total key) r rows are.sorted;
  }

  of-filter : (t : R → Bool) (rows : List R) → AreOfGroup key group b rows → AreOfGroup key group b (filter t rows)
  of-filter t rows are = record {
    mine = all-filter IsMine t rows are.mine;
    sorted = IsStrictlySortedBy-filter (by_key key) t rows are.sorted;
  }

  -- ---- groups after an edit

  abbrev pub IsChanged : List (Group R) → List R → Type 0
  IsChanged gs rows = AreGroups key group gs × (all_of gs ≡ rows)

  -- a group in place of that of its name
  module _ (gs : List (Group R)) (i : ℕ) (good : AreGroups key group gs) (at : IsFoundAt name_key k gs i) (g : Group R) (same_name : g.name ≡ at.row.name) where
    its_parts : Parts gs (all_of (take i gs)) at.row.rows.items (all_of (drop (i + 1) gs))
    its_parts = parts-found gs i good at

    written : set gs i g ≡ take i gs ++ g ∷ drop (i + 1) gs
    written = set_here gs i g at.in_range

    changed_to : (rows : List R) → AreOfGroup key group b rows → g.rows.items ≡ rows → IsChanged (set gs i g) (all_of (take i gs) ++ (rows ++ all_of (drop (i + 1) gs)))
    changed_to rows of are =
        let each = subst (AllByRecursion IsGood) at.split good.each in
        let its_name : b ≡ g.name = ap head (sym at.has_key) ∙ sym same_name in
        let here : IsGood g = subst (λ n. AreOfGroup key group n g.rows.items) its_name (subst (AreOfGroup key group b) (sym are) of) in (
          subst (AreGroups key group) (sym written) (record {
            sorted = sorted-swap name_key (take i gs) (drop (i + 1) gs) at.row g (λ j. same_name j ∷ []) (subst (IsStrictlySortedBy (by_key name_key)) at.split good.sorted);
            each = all-append IsGood (take i gs) (g ∷ drop (i + 1) gs)
                (all-front IsGood (take i gs) (at.row ∷ drop (i + 1) gs) each)
                (here, (all-back IsGood (take i gs) (at.row ∷ drop (i + 1) gs) each).1);
          }),
          ap all_of written ∙ all_of-append (take i gs) (g ∷ drop (i + 1) gs) ∙ ap (λ xs. all_of (take i gs) ++ (xs ++ all_of (drop (i + 1) gs))) are,
        )

    pub set-same : g.rows.items ≡ at.row.rows.items → IsChanged (set gs i g) (all_of gs)
    set-same are = let to = changed_to at.row.rows.items its_parts.of_group are in (to.0, to.1 ∙ sym its_parts.split)

    pub set-put : (r : R) → IsMine r → g.rows.items ≡ put (by_key key) r at.row.rows.items → IsChanged (set gs i g) (put (by_key key) r (all_of gs))
    set-put r m are =
        let to = changed_to (put (by_key key) r at.row.rows.items) (of-put r at.row.rows.items m its_parts.of_group) are in
        (to.0, to.1 ∙ sym (put-parts gs (all_of (take i gs)) at.row.rows.items (all_of (drop (i + 1) gs)) its_parts r m))

    set-filter : (t : R → Bool) → PassesOthers t → g.rows.items ≡ filter t at.row.rows.items → IsChanged (set gs i g) (filter t (all_of gs))
    set-filter t passes are =
        let to = changed_to (filter t at.row.rows.items) (of-filter t at.row.rows.items its_parts.of_group) are in
        (to.0, to.1 ∙ sym (filter-parts gs (all_of (take i gs)) at.row.rows.items (all_of (drop (i + 1) gs)) its_parts t passes))

    -- the rows of the name that pass a test are taken out
    pub set-without : (test : R → Bool) → g.rows.items ≡ without group b test at.row.rows.items → IsChanged (set gs i g) (without group b test (all_of gs))
    set-without test are = set-filter (λ r. not (mine r && test r)) (others-stay test) are

    -- the same by a test that does not look at the name
    pub set-without_those : (test : R → Bool) → g.rows.items ≡ filter (λ r. not (test r)) at.row.rows.items → IsChanged (set gs i g) (without group b test (all_of gs))
    set-without_those test are = set-without test (are ∙ sym (without-mine test at.row.rows.items its_parts.of_group.mine))

  -- where there is no group of the name
  module _ (gs : List (Group R)) (i : ℕ) (good : AreGroups key group gs) (gap : IsGapAt name_key k gs i) where
    no_parts : Parts gs (all_of (take i gs)) [] (all_of (drop i gs))
    no_parts = parts-gap gs i good gap

    -- a group with no rows is put there
    pub insert-none : (g : Group R) → g.name ≡ b → g.rows.items ≡ [] → IsChanged (take i gs ++ g ∷ drop i gs) (all_of gs)
    insert-none g its_name are =
        let each = subst (AllByRecursion IsGood) (sym (take-append-drop i gs)) good.each in
        let of : AreOfGroup key group b g.rows.items = subst (AreOfGroup key group b) (sym are) no_parts.of_group in
        let here : IsGood g = subst (λ n. AreOfGroup key group n g.rows.items) (sym its_name) of in (
          record {
            sorted = subst (IsStrictlySortedBy (by_key name_key)) (put-gap name_key g gs i (subst (λ n. IsGapAt name_key (n ∷ []) gs i) (sym its_name) gap)) (sorted-put (by_key name_key) (by_key_total name_key) g gs good.sorted);
            each = all-append IsGood (take i gs) (g ∷ drop i gs) (all-front IsGood (take i gs) (drop i gs) each) (here, all-back IsGood (take i gs) (drop i gs) each);
          },
          all_of-append (take i gs) (g ∷ drop i gs) ∙ ap (λ xs. all_of (take i gs) ++ (xs ++ all_of (drop i gs))) are ∙ sym no_parts.split,
        )

    filter-none : (t : R → Bool) → PassesOthers t → filter t (all_of gs) ≡ all_of gs
    filter-none t passes = filter-parts gs (all_of (take i gs)) [] (all_of (drop i gs)) no_parts t passes ∙ sym no_parts.split

    pub without-none : (test : R → Bool) → without group b test (all_of gs) ≡ all_of gs
    without-none test = filter-none (λ r. not (mine r && test r)) (others-stay test)
