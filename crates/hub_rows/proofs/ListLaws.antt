-- What one operator sees of a shared list after an edit of it.
use Rattle.std.specs.Prelude.{◌≡◌, ◌≢◌, ℕ, ◌≤◌, max, Option, Some, IsSome, List, [], ◌∷◌, Bool, true, false, cond, ◌&&◌, ◌||◌, ◌==◌, not, filter, map, find}
use Rattle.std.proofs.Common.{◌+◌, ◌<◌, ◌++◌, length, take, drop, refl, sym, ◌∙◌, ap, subst, arith, add-one}
use Rattle.std.proofs.Math.ListN.{set}
use Rattle.std.proofs.lemmas.List.{set_split}
use Rattle.std.specs.Ordering.{match_ordering, ordering_then, ordering_reverse, is_eq}
use Rattle.std.specs.declared.cmp.Ordering.{Ordering}
use Rattle.std.specs.declared.cmp.Ordering.TheVariants.{Less, Equal, Greater}
use Rattle.std.specs.Cmp.{IsTotalOrder, nat_cmp_is}
use Rattle.std.specs.Cmp.Lexicographic.{bytes_decides}
use Rattle.std.specs.FinMap.{slice_cmp-IsAntisymmetric}
use Rattle.std.proofs.lemmas.Map.Lookups.{exact_unsigned}
use Rattle.std.proofs.lemmas.Map.Text.{is_eq-slice_cmp}
use Rattle.std.specs.Str.{bytes_eq}
use Rattle.std.specs.List.{AllByRecursion, list_any}
use Rattle.std.specs.List.Sorted.{IsStrictlySortedBy}
use Rattle.std.proofs.lemmas.Bool.{cond-true, cond-false, false_from_ne_true, true≢false}
use Rattle.std.proofs.lemmas.Cmp.{tied_itself, lists_total, nat_list_cmp_total, on_total}
use Rattle.hub_rows.specs.Keyed.{text_cmp, key_cmp, put, put_all, by_key, own, without, changed, found, those, any_of, greatest}

-- the keys' order is total
pub keys_total : IsTotalOrder key_cmp
keys_total = lists_total nat_list_cmp_total

pub by_key_total : {R : Type 0} (key : R → List (List ℕ)) → IsTotalOrder (by_key key)
by_key_total key = on_total key keys_total

-- a test that rows of one key answer alike
abbrev pub RespectsTies : {R : Type 0} → (R → R → Ordering) → (R → Bool) → Type 0
RespectsTies {R} cmp p = (x y : R) → cmp x y ≡ Equal → p x ≡ p y

-- a row that does not pass is put: what passes stays
pub filter-put_not : {R : Type 0} (cmp : R → R → Ordering) (p : R → Bool) → RespectsTies cmp p → (r : R) (xs : List R) → p r ≡ false → filter p (put cmp r xs) ≡ filter p xs
filter-put_not cmp p ties r [] fails = cond-false (p r) _ _ fails
filter-put_not cmp p ties r (x ∷ xs) fails =
    elim (cmp r x) as (λ o. cmp r x ≡ o → filter p (match_ordering o (r ∷ x ∷ xs) (r ∷ xs) (x ∷ put cmp r xs)) ≡ filter p (x ∷ xs)) [
      | Less ↦ λ e. cond-false (p r) _ _ fails
      | Equal ↦ λ e. cond-false (p r) _ _ fails ∙ sym (cond-false (p x) _ _ (sym (ties r x e) ∙ fails))
      | Greater ↦ λ e. ap (λ ys. cond (p x) (x ∷ ys) ys) (filter-put_not cmp p ties r xs fails)
    ] refl

-- a row below all others is put in front
pub put-front : {R : Type 0} (cmp : R → R → Ordering) (r : R) (xs : List R) → AllByRecursion (λ y. cmp r y ≡ Less) xs → put cmp r xs ≡ r ∷ xs
put-front cmp r [] below = refl
put-front cmp r (x ∷ xs) below = ap (λ o. match_ordering o (r ∷ x ∷ xs) (r ∷ xs) (x ∷ put cmp r xs)) below.0

pub all-filter : {R : Type 0} (P : R → Type 0) (p : R → Bool) (xs : List R) → AllByRecursion P xs → AllByRecursion P (filter p xs)
all-filter P p [] all = tt
all-filter P p (x ∷ xs) all =
    elim (p x) as (λ b. AllByRecursion P (cond b (x ∷ filter p xs) (filter p xs))) [
      | true ↦ (all.0, all-filter P p xs all.1)
      | false ↦ all-filter P p xs all.1
    ]

pub all-weaker : {R : Type 0} (P Q : R → Type 0) → ((x : R) → P x → Q x) → (xs : List R) → AllByRecursion P xs → AllByRecursion Q xs
all-weaker P Q f [] all = tt
all-weaker P Q f (x ∷ xs) all = (f x all.0, all-weaker P Q f xs all.1)

-- a row that passes is put into what passes
pub filter-put : {R : Type 0} (cmp : R → R → Ordering) → IsTotalOrder cmp → (p : R → Bool) → RespectsTies cmp p → (r : R) (xs : List R) → IsStrictlySortedBy cmp xs → p r ≡ true → filter p (put cmp r xs) ≡ put cmp r (filter p xs)
unfolding IsStrictlySortedBy
filter-put cmp order p ties r [] sorted passes = cond-true (p r) _ _ passes
filter-put cmp order p ties r (x ∷ xs) sorted passes =
    elim (cmp r x) as (λ o. cmp r x ≡ o → filter p (match_ordering o (r ∷ x ∷ xs) (r ∷ xs) (x ∷ put cmp r xs)) ≡ put cmp r (filter p (x ∷ xs))) [
      | Less ↦ λ e. cond-true (p r) _ _ passes ∙ sym (put-front cmp r (filter p (x ∷ xs)) (all-filter (λ y. cmp r y ≡ Less) p (x ∷ xs) (e, all-weaker (λ y. cmp x y ≡ Less) (λ y. cmp r y ≡ Less) (λ y l. order.trans r x y e l) xs sorted.0)))
      | Equal ↦ λ e. cond-true (p r) _ _ passes ∙ sym (ap (put cmp r) (cond-true (p x) _ _ (sym (ties r x e) ∙ passes)) ∙ ap (λ o. match_ordering o (r ∷ x ∷ filter p xs) (r ∷ filter p xs) (x ∷ put cmp r (filter p xs))) e)
      | Greater ↦ λ e. ap (λ ys. cond (p x) (x ∷ ys) ys) (filter-put cmp order p ties r xs sorted.1 passes)
          ∙ elim (p x) as (λ b. cond b (x ∷ put cmp r (filter p xs)) (put cmp r (filter p xs)) ≡ put cmp r (cond b (x ∷ filter p xs) (filter p xs))) [
            | true ↦ sym (ap (λ o. match_ordering o (r ∷ x ∷ filter p xs) (r ∷ filter p xs) (x ∷ put cmp r (filter p xs))) e)
            | false ↦ refl
          ]
    ] refl

-- the order is kept
pub all-put : {R : Type 0} (cmp : R → R → Ordering) (P : R → Type 0) (r : R) (xs : List R) → P r → AllByRecursion P xs → AllByRecursion P (put cmp r xs)
all-put cmp P r [] here all = (here, tt)
all-put cmp P r (x ∷ xs) here all =
    elim (cmp r x) as (λ o. AllByRecursion P (match_ordering o (r ∷ x ∷ xs) (r ∷ xs) (x ∷ put cmp r xs))) [
      | Less ↦ (here, all)
      | Equal ↦ (here, all.1)
      | Greater ↦ (all.0, all-put cmp P r xs here all.1)
    ]

-- two orders that agree on where the row goes
pub put-agree : {R : Type 0} (c d : R → R → Ordering) (r : R) (xs : List R) → AllByRecursion (λ x. c r x ≡ d r x) xs → put c r xs ≡ put d r xs
put-agree c d r [] all = refl
put-agree c d r (x ∷ xs) all = ap (λ o. match_ordering o (r ∷ x ∷ xs) (r ∷ xs) (x ∷ put c r xs)) all.0 ∙ ap (λ ys. match_ordering (d r x) (r ∷ x ∷ xs) (r ∷ xs) (x ∷ ys)) (put-agree c d r xs all.1)

pub sorted-put : {R : Type 0} (cmp : R → R → Ordering) → IsTotalOrder cmp → (r : R) (xs : List R) → IsStrictlySortedBy cmp xs → IsStrictlySortedBy cmp (put cmp r xs)
unfolding IsStrictlySortedBy
sorted-put cmp order r [] sorted = (tt, tt)
sorted-put cmp order r (x ∷ xs) sorted =
    elim (cmp r x) as (λ o. cmp r x ≡ o → IsStrictlySortedBy cmp (match_ordering o (r ∷ x ∷ xs) (r ∷ xs) (x ∷ put cmp r xs))) [
      | Less ↦ λ e. ((e, all-weaker (λ y. cmp x y ≡ Less) (λ y. cmp r y ≡ Less) (λ y l. order.trans r x y e l) xs sorted.0), sorted)
      | Equal ↦ λ e. (all-weaker (λ y. cmp x y ≡ Less) (λ y. cmp r y ≡ Less) (λ y l. order.congr r x y e ∙ l) xs sorted.0, sorted.1)
      | Greater ↦ λ e. (all-put cmp (λ y. cmp x y ≡ Less) r xs (order.antisymm x r ∙ ap ordering_reverse e) sorted.0, sorted-put cmp order r xs sorted.1)
    ] refl

-- keys that compare alike are one
pub same_key : (k l : List (List ℕ)) → key_cmp k l ≡ Equal → k ≡ l
same_key = slice_cmp-IsAntisymmetric (slice_cmp-IsAntisymmetric exact_unsigned)

pub same_text : (s t : List ℕ) → bytes_eq s t ≡ true → s ≡ t
same_text s t e = (bytes_decides s t).0 e

pub text_itself : (s t : List ℕ) → s ≡ t → bytes_eq s t ≡ true
text_itself s t e = (bytes_decides s t).1 e

pub other_text : (s t : List ℕ) → s ≢ t → bytes_eq s t ≡ false
other_text s t differ = false_from_ne_true (bytes_eq s t) (λ e. differ (same_text s t e))

-- a test of the key answers alike
pub ties_key : {R : Type 0} (key : R → List (List ℕ)) (p : List (List ℕ) → Bool) → RespectsTies (by_key key) (λ r. p (key r))
ties_key key p x y e = ap p (same_key (key x) (key y) e)

-- the first part of a key
abbrev pub head : List (List ℕ) → List ℕ
head [] = []
head (part ∷ parts) = part

-- rows of one owner compare by what is left of their keys
pub own-agree : {R : Type 0} (op : R → List ℕ) (rest : R → List (List ℕ)) (a : List ℕ) (r : R) (xs : List R) → op r ≡ a → AllByRecursion (λ x. by_key (λ y. op y ∷ rest y) r x ≡ by_key rest r x) (own op a xs)
own-agree op rest a r [] mine = tt
own-agree op rest a r (x ∷ xs) mine =
    elim (bytes_eq (op x) a) as (λ b. bytes_eq (op x) a ≡ b → AllByRecursion (λ x. by_key (λ y. op y ∷ rest y) r x ≡ by_key rest r x) (cond b (x ∷ own op a xs) (own op a xs))) [
      | true ↦ λ e. (ap (λ o. ordering_then o (by_key rest r x)) (ap (text_cmp (op r)) (same_text (op x) a e ∙ sym mine) ∙ tied_itself nat_list_cmp_total (op r)), own-agree op rest a r xs mine)
      | false ↦ λ e. own-agree op rest a r xs mine
    ] refl

-- one's own row is put among one's own
pub own-put : {R : Type 0} (op : R → List ℕ) (rest : R → List (List ℕ)) (a : List ℕ) (r : R) (xs : List R) → IsStrictlySortedBy (by_key (λ y. op y ∷ rest y)) xs → op r ≡ a → own op a (put (by_key (λ y. op y ∷ rest y)) r xs) ≡ put (by_key rest) r (own op a xs)
own-put op rest a r xs sorted mine =
    filter-put (by_key (λ y. op y ∷ rest y)) (by_key_total (λ y. op y ∷ rest y)) (λ x. bytes_eq (op x) a) (ties_key (λ y. op y ∷ rest y) (λ k. bytes_eq (head k) a)) r xs sorted (text_itself (op r) a mine)
    ∙ put-agree (by_key (λ y. op y ∷ rest y)) (by_key rest) r (own op a xs) (own-agree op rest a r xs mine)

-- the row of another is not seen
pub own-put_other : {R : Type 0} (op : R → List ℕ) (rest : R → List (List ℕ)) (a : List ℕ) (r : R) (xs : List R) → op r ≢ a → own op a (put (by_key (λ y. op y ∷ rest y)) r xs) ≡ own op a xs
own-put_other op rest a r xs other = filter-put_not (by_key (λ y. op y ∷ rest y)) (λ x. bytes_eq (op x) a) (ties_key (λ y. op y ∷ rest y) (λ k. bytes_eq (head k) a)) r xs (other_text (op r) a other)

-- one's own rows are removed among one's own
pub own-without : {R : Type 0} (op : R → List ℕ) (a : List ℕ) (test : R → Bool) (xs : List R) → own op a (without op a test xs) ≡ filter (λ r. not (test r)) (own op a xs)
own-without op a test [] = refl
own-without op a test (x ∷ xs) = grind (arith, own-without op a test xs)

pub own-without_other : {R : Type 0} (op : R → List ℕ) (a b : List ℕ) (test : R → Bool) (xs : List R) → b ≢ a → own op a (without op b test xs) ≡ own op a xs
own-without_other op a b test [] differ = refl
own-without_other op a b test (x ∷ xs) differ = let apart : bytes_eq (op x) a ≡ true → bytes_eq (op x) b ≡ false = (λ e. other_text (op x) b (λ q. differ (sym q ∙ same_text (op x) a e))) in grind (arith, own-without_other op a b test xs differ, apart)

pub own-changed : {R : Type 0} (op : R → List ℕ) (a : List ℕ) (test : R → Bool) (f : R → R) (xs : List R) → ((r : R) → op (f r) ≡ op r) → own op a (changed op a test f xs) ≡ map (λ r. cond (test r) (f r) r) (own op a xs)
own-changed op a test f [] stays = refl
own-changed op a test f (x ∷ xs) stays = grind (arith, own-changed op a test f xs stays, stays x)

pub own-changed_other : {R : Type 0} (op : R → List ℕ) (a b : List ℕ) (test : R → Bool) (f : R → R) (xs : List R) → ((r : R) → op (f r) ≡ op r) → b ≢ a → own op a (changed op b test f xs) ≡ own op a xs
own-changed_other op a b test f [] stays differ = refl
own-changed_other op a b test f (x ∷ xs) stays differ = let apart : bytes_eq (op x) a ≡ true → bytes_eq (op x) b ≡ false = (λ e. other_text (op x) b (λ q. differ (sym q ∙ same_text (op x) a e))) in grind (arith, own-changed_other op a b test f xs stays differ, stays x, apart)

-- one's own row is found among one's own
pub found-own : {R : Type 0} (op : R → List ℕ) (a : List ℕ) (test : R → Bool) (xs : List R) → found op a test xs ≡ find test (own op a xs)
found-own op a test [] = refl
found-own op a test (x ∷ xs) = grind (arith, found-own op a test xs)

-- what one looks for is found among one's own
pub those-own : {R : Type 0} (op : R → List ℕ) (a : List ℕ) (test : R → Bool) (xs : List R) → those op a test xs ≡ filter test (own op a xs)
those-own op a test [] = refl
those-own op a test (x ∷ xs) = grind (arith, those-own op a test xs)

pub any_of-own : {R : Type 0} (op : R → List ℕ) (a : List ℕ) (test : R → Bool) (xs : List R) → any_of op a test xs ≡ list_any test (own op a xs)
any_of-own op a test [] = refl
any_of-own op a test (x ∷ xs) =
    elim (bytes_eq (op x) a) as (λ b. ((b && test x) || any_of op a test xs) ≡ list_any test (cond b (x ∷ own op a xs) (own op a xs))) [
      | true ↦ ap (λ t. test x || t) (any_of-own op a test xs)
      | false ↦ any_of-own op a test xs
    ]

-- several rows, put one after the other
pub sorted-put_all : {R : Type 0} (cmp : R → R → Ordering) → IsTotalOrder cmp → (rs xs : List R) → IsStrictlySortedBy cmp xs → IsStrictlySortedBy cmp (put_all cmp rs xs)
sorted-put_all cmp order [] xs sorted = sorted
sorted-put_all cmp order (r ∷ rs) xs sorted = sorted-put_all cmp order rs (put cmp r xs) (sorted-put cmp order r xs sorted)

pub own-put_all : {R : Type 0} (op : R → List ℕ) (rest : R → List (List ℕ)) (a : List ℕ) (rs xs : List R) → IsStrictlySortedBy (by_key (λ y. op y ∷ rest y)) xs → AllByRecursion (λ r. op r ≡ a) rs → own op a (put_all (by_key (λ y. op y ∷ rest y)) rs xs) ≡ put_all (by_key rest) rs (own op a xs)
own-put_all op rest a [] xs sorted mine = refl
own-put_all op rest a (r ∷ rs) xs sorted mine =
    own-put_all op rest a rs (put (by_key (λ y. op y ∷ rest y)) r xs) (sorted-put (by_key (λ y. op y ∷ rest y)) (by_key_total (λ y. op y ∷ rest y)) r xs sorted) mine.1
    ∙ ap (put_all (by_key rest) rs) (own-put op rest a r xs sorted mine.0)

pub own-put_all_other : {R : Type 0} (op : R → List ℕ) (rest : R → List (List ℕ)) (a : List ℕ) (rs xs : List R) → AllByRecursion (λ r. op r ≢ a) rs → own op a (put_all (by_key (λ y. op y ∷ rest y)) rs xs) ≡ own op a xs
own-put_all_other op rest a [] xs other = refl
own-put_all_other op rest a (r ∷ rs) xs other = own-put_all_other op rest a rs (put (by_key (λ y. op y ∷ rest y)) r xs) other.1 ∙ own-put_other op rest a r xs other.0

pub all-changed : {R : Type 0} (P : R → Type 0) (op : R → List ℕ) (b : List ℕ) (test : R → Bool) (f : R → R) (xs : List R) → ((r : R) → P r → P (f r)) → AllByRecursion P xs → AllByRecursion P (changed op b test f xs)
all-changed P op b test f [] stays all = tt
all-changed P op b test f (x ∷ xs) stays all = (elim (bytes_eq (op x) b && test x) as (λ t. P (cond t (f x) x)) [ true ↦ stays x all.0 | false ↦ all.0 ], all-changed P op b test f xs stays all.1)

pub all-put_all : {R : Type 0} (cmp : R → R → Ordering) (P : R → Type 0) (rs xs : List R) → AllByRecursion P rs → AllByRecursion P xs → AllByRecursion P (put_all cmp rs xs)
all-put_all cmp P [] xs new all = all
all-put_all cmp P (r ∷ rs) xs new all = all-put_all cmp P rs (put cmp r xs) new.1 (all-put cmp P r xs new.0 all)

-- a change that keeps keys keeps their order
pub sorted-changed : {R : Type 0} (key : R → List (List ℕ)) (op : R → List ℕ) (b : List ℕ) (test : R → Bool) (f : R → R) → ((r : R) → key (f r) ≡ key r) → (xs : List R) → IsStrictlySortedBy (by_key key) xs → IsStrictlySortedBy (by_key key) (changed op b test f xs)
unfolding IsStrictlySortedBy
sorted-changed key op b test f stays [] sorted = tt
sorted-changed {R} key op b test f stays (x ∷ xs) sorted =
    let at : R → Type 0 = (λ y. by_key key (cond (bytes_eq (op x) b && test x) (f x) x) y ≡ Less) in
    let same : key (cond (bytes_eq (op x) b && test x) (f x) x) ≡ key x = elim (bytes_eq (op x) b && test x) as (λ t. key (cond t (f x) x) ≡ key x) [ true ↦ stays x | false ↦ refl ] in
    (all-changed at op b test f xs (λ y l. ap (λ k. key_cmp (key (cond (bytes_eq (op x) b && test x) (f x) x)) k) (stays y) ∙ l) (all-weaker (λ y. by_key key x y ≡ Less) at (λ y l. ap (λ k. key_cmp k (key y)) same ∙ l) xs sorted.0), sorted-changed key op b test f stays xs sorted.1)

-- an element is written in place
pub set_here : {R : Type 0} (xs : List R) (i : ℕ) (x : R) → i < length xs → set xs i x ≡ take i xs ++ x ∷ drop (i + 1) xs
set_here xs i x within = rw add-one (set_split xs i x within)

-- a test of a key's parts is the comparison with that key
and-is_eq : (o p : Ordering) → is_eq (ordering_then o p) ≡ is_eq o && is_eq p
and-is_eq Less p = refl
and-is_eq Equal p = refl
and-is_eq Greater p = refl

pub and-true : (b : Bool) → b && true ≡ b
and-true true = refl
and-true false = refl

pub two_parts : (a b c d : List ℕ) → bytes_eq a c && bytes_eq b d ≡ is_eq (key_cmp (a ∷ b ∷ []) (c ∷ d ∷ []))
two_parts a b c d =
    sym (and-is_eq (text_cmp a c) (ordering_then (text_cmp b d) Equal)
    ∙ (λ i. is_eq-slice_cmp a c i && (and-is_eq (text_cmp b d) Equal ∙ ap (λ p. p && true) (is_eq-slice_cmp b d) ∙ and-true (bytes_eq b d)) i))

pub one_part : (m n : ℕ) → (m == n) ≡ is_eq (key_cmp ((m ∷ []) ∷ []) ((n ∷ []) ∷ []))
one_part m n = sym (and-is_eq (text_cmp (m ∷ []) (n ∷ [])) Equal ∙ and-true (is_eq (text_cmp (m ∷ []) (n ∷ []))) ∙ is_eq-slice_cmp (m ∷ []) (n ∷ []) ∙ and-true (m == n))

pub three_parts : (a b c d : List ℕ) (m n : ℕ) → bytes_eq a c && (bytes_eq b d && m == n) ≡ is_eq (key_cmp (a ∷ b ∷ (m ∷ []) ∷ []) (c ∷ d ∷ (n ∷ []) ∷ []))
three_parts a b c d m n =
    sym (and-is_eq (text_cmp a c) (ordering_then (text_cmp b d) (ordering_then (text_cmp (m ∷ []) (n ∷ [])) Equal))
    ∙ (λ i. is_eq-slice_cmp a c i && (and-is_eq (text_cmp b d) (ordering_then (text_cmp (m ∷ []) (n ∷ [])) Equal) ∙ (λ j. is_eq-slice_cmp b d j && sym (one_part m n) j)) i))

-- ---- what is found

some_or : {R : Type 0} (b : Bool) (x : R) (o : Option R) → IsSome o → IsSome (cond b (Some x) o)
some_or true x o some = refl
some_or false x o some = some

some_then : {R : Type 0} (b : Bool) (x y : R) (o p : Option R) → (IsSome o → IsSome p) → IsSome (cond b (Some x) o) → IsSome (cond b (Some y) p)
some_then true x y o p then some = refl
some_then false x y o p then some = then some

-- a row is found still after one is put, and after a change that the test answers alike
pub some-put : {R : Type 0} (cmp : R → R → Ordering) (t : R → Bool) → RespectsTies cmp t → (r : R) (xs : List R) → IsSome (find t xs) → IsSome (find t (put cmp r xs))
some-put cmp t ties r [] some = absurd (true≢false (sym some))
some-put cmp t ties r (x ∷ xs) some =
    elim (cmp r x) as (λ o. cmp r x ≡ o → IsSome (find t (match_ordering o (r ∷ x ∷ xs) (r ∷ xs) (x ∷ put cmp r xs)))) [
      | Less ↦ λ e. some_or (t r) r (find t (x ∷ xs)) some
      | Equal ↦ λ e. subst (λ b. IsSome (cond b (Some r) (find t xs))) (sym (ties r x e)) (some_then (t x) x r (find t xs) (find t xs) (λ s. s) some)
      | Greater ↦ λ e. some_then (t x) x x (find t xs) (find t (put cmp r xs)) (some-put cmp t ties r xs) some
    ] refl

-- a row that passes is found once it is put
pub some-new : {R : Type 0} (cmp : R → R → Ordering) (t : R → Bool) (r : R) (xs : List R) → t r ≡ true → IsSome (find t (put cmp r xs))
some-new cmp t r [] here = rw here refl
some-new cmp t r (x ∷ xs) here =
    elim (cmp r x) as (λ o. IsSome (find t (match_ordering o (r ∷ x ∷ xs) (r ∷ xs) (x ∷ put cmp r xs)))) [
      | Less ↦ rw here refl
      | Equal ↦ rw here refl
      | Greater ↦ some_or (t x) x (find t (put cmp r xs)) (some-new cmp t r xs here)
    ]

pub some-map : {R : Type 0} (t : R → Bool) (f : R → R) → ((r : R) → t (f r) ≡ t r) → (xs : List R) → IsSome (find t xs) → IsSome (find t (map f xs))
some-map t f stays [] some = some
some-map t f stays (x ∷ xs) some = subst (λ b. IsSome (cond b (Some (f x)) (find t (map f xs)))) (sym (stays x)) (some_then (t x) x (f x) (find t xs) (find t (map f xs)) (some-map t f stays xs) some)

-- what holds of each row holds of the one that is found
pub found_all : {R : Type 0} (P : R → Type 0) (t : R → Bool) (xs : List R) → AllByRecursion P xs → IsSome (find t xs) → (r : R) × (P r × (t r ≡ true))
found_all P t [] all some = absurd (true≢false (sym some))
found_all {R} P t (x ∷ xs) all some =
    elim (t x) as (λ b. t x ≡ b → IsSome (cond b (Some x) (find t xs)) → (r : R) × (P r × (t r ≡ true))) [
      | true ↦ λ e here. (x, (all.0, e))
      | false ↦ λ e later. found_all P t xs all.1 later
    ] refl some

-- the same of the row that is found, if there is one
pub found_is : {R : Type 0} (P : R → Type 0) (t : R → Bool) (xs : List R) → AllByRecursion P xs → (r : R) → find t xs ≡ Some r → P r × (t r ≡ true)
found_is P t [] all r found = absurd (cc)
found_is P t (x ∷ xs) all r found =
    elim (t x) as (λ b. t x ≡ b → cond b (Some x) (find t xs) ≡ Some r → P r × (t r ≡ true)) [
      | true ↦ λ e here. let same : x ≡ r = cc in (subst P same all.0, ap t (sym same) ∙ e)
      | false ↦ λ e later. found_is P t xs all.1 r later
    ] refl found

-- ---- a row with the last number

-- a greater number is put after a smaller one
pub number_after : (m n : ℕ) → n < m → key_cmp ((m ∷ []) ∷ []) ((n ∷ []) ∷ []) ≡ Greater
number_after m n under = rw (sym (nat_cmp_is m n Greater under)) refl

-- a row that is after all others comes last
pub put-last : {R : Type 0} (cmp : R → R → Ordering) (r : R) (xs : List R) → AllByRecursion (λ x. cmp r x ≡ Greater) xs → put cmp r xs ≡ xs ++ r ∷ []
put-last cmp r [] all = refl
put-last cmp r (x ∷ xs) all = rw all.0 (ap (λ l. x ∷ l) (put-last cmp r xs all.1))

-- no number is above the greatest
pub under_greatest : {R : Type 0} (number : R → ℕ) (xs : List R) → AllByRecursion (λ x. number x ≤ greatest (map number xs)) xs
under_greatest number [] = tt
under_greatest number (x ∷ xs) = (omega arith, all-weaker (λ y. number y ≤ greatest (map number xs)) (λ y. number y ≤ max (number x) (greatest (map number xs))) (λ y low. omega (arith, low)) xs (under_greatest number xs))
