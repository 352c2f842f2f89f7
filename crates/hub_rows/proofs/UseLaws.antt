-- The uses of an owner are numbered from 1 on, none left out, and the next one keeps them so.
use Rattle.std.specs.Prelude.{◌≡◌, ◌≢◌, ℕ, ◌+◌, ◌-◌, ◌<◌, ◌≤◌, nat_le, List, [], ◌∷◌, length, Bool, true, false, cond, ◌&&◌, ◌==◌, filter, find, map, Some, IsSome}
use Rattle.std.specs.List.{AllByRecursion}
use Rattle.std.specs.List.Sorted.{IsStrictlySortedBy}
use Rattle.std.specs.Ordering.{ordering_then}
use Rattle.std.specs.declared.cmp.Ordering.TheVariants.{Less}
use Rattle.std.specs.Str.{bytes_eq}
use Rattle.std.proofs.Common.{refl, sym, ◌∙◌, subst, arith}
use Rattle.std.proofs.lemmas.Bool.{leb-true, leb-false}
use Rattle.std.proofs.lemmas.Bool.Decides.{nat_tests}
use Rattle.std.proofs.lemmas.Cmp.{tied_itself, nat_list_cmp_total}
use Rattle.std.proofs.lemmas.List.Kept.{IsStrictlySortedBy-filter}
use Rattle.hub_rows.specs.declared.use_row.UseRow.{UseRow}
use Rattle.hub_rows.specs.Keyed.{by_key, found, greatest, key_cmp, own, put, those}
use Rattle.hub_rows.specs.Rows.{use_key, use_rest}
use Rattle.hub_rows.specs.Uses.{last_use_in}
use Rattle.hub_rows.specs.WellFormed.{AreGood, IsGoodUse, IsNumber}
use Rattle.hub_rows.proofs.ListLaws.{RespectsTies, all-filter, all-put, all-weaker, and-true, by_key_total, found-own, found_all, head, same_text, some-new, some-put, sorted-put, text_itself, ties_key}
use Rattle.hub_rows.proofs.NumberLaws.{less-number}

-- the use of an owner with a number
abbrev is_numbered : List ℕ → ℕ → UseRow → Bool
is_numbered a n u = bytes_eq u.op a && u.number == n

-- ---- the last number is that of a use

-- the greatest number of an owner's uses is at most that of one of them
greatest_row : (P : UseRow → Type 0) (a : List ℕ) (uses : List UseRow) → AllByRecursion P uses → 1 ≤ last_use_in a uses → (u : UseRow) × (P u × ((u.op ≡ a) × (last_use_in a uses ≤ u.number)))
greatest_row P a [] all some = absurd (omega (arith, some))
greatest_row P a (x ∷ uses) all some =
    let rest = those (λ r. r.op) a (λ r. true) uses in
    let last = last_use_in a uses in
    elim (bytes_eq x.op a) as (λ t. bytes_eq x.op a ≡ t → 1 ≤ greatest (map (λ r. r.number) (cond (t && true) (x ∷ rest) rest)) → (u : UseRow) × (P u × ((u.op ≡ a) × (greatest (map (λ r. r.number) (cond (t && true) (x ∷ rest) rest)) ≤ u.number)))) [
      | true ↦ λ mine one. elim (nat_le last x.number) as (λ c. nat_le last x.number ≡ c → (u : UseRow) × (P u × ((u.op ≡ a) × (greatest (x.number ∷ map (λ r. r.number) rest) ≤ u.number)))) [
        | true ↦ λ e. let low = leb-true last x.number e in (x, (all.0, (same_text x.op a mine, omega (arith, low))))
        | false ↦ λ e.
            let high = leb-false last x.number e in
            let later = greatest_row P a uses all.1 (omega (arith, high)) in
            let most = later.1.1.1 in
            (later.0, (later.1.0, (later.1.1.0, omega (arith, high, most))))
      ] refl
      | false ↦ λ other one. greatest_row P a uses all.1 one
    ] refl some

-- so each number up to the last is that of a use
numbered : (a : List ℕ) (uses : List UseRow) (n : ℕ) → AllByRecursion (IsGoodUse uses) uses → 1 ≤ n → n ≤ last_use_in a uses → IsSome (found (λ u. u.op) a (λ u. u.number == n) uses)
numbered a uses n all from to =
    let last = greatest_row (IsGoodUse uses) a uses all (omega (arith, from, to)) in
    let most = last.1.1.1 in
    subst (λ o. IsSome (found (λ u. u.op) o (λ u. u.number == n) uses)) last.1.1.0 (last.1.0.earlier n from (omega (arith, to, most)))

-- ---- the next use

-- the number in the key of a use
abbrev number_part : List (List ℕ) → ℕ
number_part (op ∷ (n ∷ rest) ∷ parts) = n
number_part key = 0

tied : (a : List ℕ) (n : ℕ) → RespectsTies (by_key use_key) (is_numbered a n)
tied a n = ties_key use_key (λ k. bytes_eq (head k) a && number_part k == n)

-- an owner's next use is put
pub good-next : (r : UseRow) (uses : List UseRow) → AreGood use_key (IsGoodUse uses) uses → IsNumber r.number → r.host ≢ r.op → r.number ≡ last_use_in r.op uses + 1 → AreGood use_key (IsGoodUse (put (by_key use_key) r uses)) (put (by_key use_key) r uses)
good-next r uses good number host next = record {
  sorted = sorted-put (by_key use_key) (by_key_total use_key) r uses good.sorted;
  each = all-put (by_key use_key) (IsGoodUse new) r uses
      (record { number = number; host = host; earlier = mine })
      (all-weaker (IsGoodUse uses) (IsGoodUse new) (λ u it. record { number = it.number; host = it.host; earlier = λ n from to. still u.op n (it.earlier n from to) }) uses good.each);
}
  where
    new : List UseRow
    new = put (by_key use_key) r uses

    still : (a : List ℕ) (n : ℕ) → IsSome (found (λ u. u.op) a (λ u. u.number == n) uses) → IsSome (found (λ u. u.op) a (λ u. u.number == n) new)
    still a n some = some-put (by_key use_key) (is_numbered a n) (tied a n) r uses some

    mine : (n : ℕ) → 1 ≤ n → n ≤ r.number → IsSome (found (λ u. u.op) r.op (λ u. u.number == n) new)
    mine n from to =
        elim (nat_le n (last_use_in r.op uses)) as (λ c. nat_le n (last_use_in r.op uses) ≡ c → IsSome (found (λ u. u.op) r.op (λ u. u.number == n) new)) [
          | true ↦ λ e. still r.op n (numbered r.op uses n good.each from (leb-true n (last_use_in r.op uses) e))
          | false ↦ λ e.
              let over = leb-false n (last_use_in r.op uses) e in
              let same : r.number ≡ n = omega (arith, over, next, to) in
              let is : (r.number == n) ≡ true = grind (arith, nat_tests, same) in
              some-new (by_key use_key) (is_numbered r.op n) r uses (λ i. text_itself r.op r.op refl i && is i)
        ] refl

-- ---- how many there are

-- the uses of one owner are in the order of their numbers
less_own : (a : List ℕ) (x y : UseRow) → x.op ≡ a → y.op ≡ a → by_key use_key x y ≡ Less → x.number < y.number
less_own a x y mine yours less =
    let same : by_key use_key x y ≡ key_cmp (use_rest x) (use_rest y)
    = (λ i. key_cmp (mine i ∷ use_rest x) (yours i ∷ use_rest y)) ∙ (λ i. ordering_then (tied_itself nat_list_cmp_total a i) (key_cmp (use_rest x) (use_rest y))) in
    less-number x.number y.number (sym same ∙ less)

all-later : (a : List ℕ) (x : UseRow) (uses : List UseRow) → x.op ≡ a → AllByRecursion (λ r. r.op ≡ a) uses → AllByRecursion (λ r. by_key use_key x r ≡ Less) uses → AllByRecursion (λ r. x.number < r.number) uses
all-later a x [] mine ours less = tt
all-later a x (y ∷ uses) mine ours less = (less_own a x y mine ours.0 less.0, all-later a x uses mine ours.1 less.1)

-- the first number is the next one, if that is the number of a use
first-next : (j : ℕ) (x : UseRow) (uses : List UseRow) → AllByRecursion (λ r. x.number < r.number) uses → j < x.number → IsSome (find (λ u. u.number == j + 1) (x ∷ uses)) → x.number ≡ j + 1
first-next j x uses later over some =
    elim (x.number == j + 1) as (λ b. (x.number == j + 1) ≡ b → IsSome (cond b (Some x) (find (λ u. u.number == j + 1) uses)) → x.number ≡ j + 1) [
      | true ↦ λ e here. grind (arith, nat_tests, e)
      | false ↦ λ e there.
          let at = found_all (λ r. x.number < r.number) (λ u. u.number == j + 1) uses later there in
          let low = at.1.0 in
          let same : at.0.number ≡ j + 1 = grind (arith, nat_tests, at.1.1) in
          absurd (omega (arith, low, same, over))
    ] refl some

-- numbers above j, none left out, are as many as the last is above j
counted : (a : List ℕ) (j : ℕ) (uses : List UseRow) → AllByRecursion (λ r. r.op ≡ a) uses → IsStrictlySortedBy (by_key use_key) uses → AllByRecursion (λ r. j < r.number) uses
    → ((n : ℕ) → j < n → n ≤ greatest (map (λ r. r.number) uses) → IsSome (find (λ u. u.number == n) uses)) → greatest (map (λ r. r.number) uses) - j ≡ length uses
unfolding IsStrictlySortedBy
counted a j [] ours sorted over has = omega arith
counted a j (x ∷ uses) ours sorted over has =
    let most = greatest (map (λ r. r.number) uses) in
    let low = over.0 in
    let later = all-later a x uses ours.0 ours.1 sorted.0 in
    let here : x.number ≡ j + 1 = first-next j x uses later low (has (j + 1) (omega arith) (omega (arith, low))) in
    let rest : most - (j + 1) ≡ length uses = counted a (j + 1) uses ours.1 sorted.1 (subst (λ n. AllByRecursion (λ r. n < r.number) uses) here later)
    (λ n under to.
    let apart : (x.number == n) ≡ false = grind (arith, nat_tests, here, under) in
    subst (λ b. IsSome (cond b (Some x) (find (λ u. u.number == n) uses))) apart (has n (omega (arith, under)) (omega (arith, to)))) in
    omega (arith, here, rest)

mine : (a : List ℕ) (uses : List UseRow) → AllByRecursion (λ r. r.op ≡ a) (own (λ r. r.op) a uses)
mine a [] = tt
mine a (x ∷ uses) =
    elim (bytes_eq x.op a) as (λ t. bytes_eq x.op a ≡ t → AllByRecursion (λ r. r.op ≡ a) (cond t (x ∷ own (λ r. r.op) a uses) (own (λ r. r.op) a uses))) [
      | true ↦ λ e. (same_text x.op a e, mine a uses)
      | false ↦ λ e. mine a uses
    ] refl

-- the last number of an owner's uses is how many it has
pub last-length : (a : List ℕ) (uses : List UseRow) → AreGood use_key (IsGoodUse uses) uses → last_use_in a uses ≡ length (own (λ r. r.op) a uses)
last-length a uses good =
    let of_a : List UseRow = own (λ r. r.op) a uses in
    let same : last_use_in a uses ≡ greatest (map (λ r. r.number) of_a) = (λ i. greatest (map (λ r. r.number) (filter (λ r. and-true (bytes_eq r.op a) i) uses))) in
    let count = counted a 0 of_a (mine a uses) (IsStrictlySortedBy-filter (by_key use_key) (λ r. bytes_eq r.op a) uses good.sorted)
    (all-filter (λ r. 0 < r.number) (λ r. bytes_eq r.op a) uses (all-weaker (IsGoodUse uses) (λ r. 0 < r.number) (λ r it. let one = it.number.0 in omega (arith, one)) uses good.each))
    (λ n from to. subst IsSome (found-own (λ r. r.op) a (λ u. u.number == n) uses) (numbered a uses n good.each (omega (arith, from)) (omega (arith, to, same)))) in
    omega (arith, same, count)
