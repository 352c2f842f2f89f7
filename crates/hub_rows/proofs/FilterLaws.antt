-- Lists of rows: what holds of each, and those that pass a test.
use Rattle.std.specs.Prelude.{◌≡◌, List, [], ◌∷◌, ◌++◌, Bool, true, false, cond, filter}
use Rattle.std.specs.List.{AllByRecursion}
use Rattle.std.proofs.Common.{refl}

pub all-append : {R : Type 0} (P : R → Type 0) (xs ys : List R) → AllByRecursion P xs → AllByRecursion P ys → AllByRecursion P (xs ++ ys)
all-append P [] ys all more = more
all-append P (x ∷ xs) ys all more = (all.0, all-append P xs ys all.1 more)

pub all-these : {R : Type 0} (P : R → Type 0) → ((x : R) → P x) → (xs : List R) → AllByRecursion P xs
all-these P holds [] = tt
all-these P holds (x ∷ xs) = (holds x, all-these P holds xs)

pub all-front : {R : Type 0} (P : R → Type 0) (front back : List R) → AllByRecursion P (front ++ back) → AllByRecursion P front
all-front P [] back all = tt
all-front P (x ∷ front) back all = (all.0, all-front P front back all.1)

pub all-both : {R : Type 0} (P Q : R → Type 0) (xs : List R) → AllByRecursion P xs → AllByRecursion Q xs → AllByRecursion (λ x. P x × Q x) xs
all-both P Q [] all more = tt
all-both P Q (x ∷ xs) all more = ((all.0, more.0), all-both P Q xs all.1 more.1)

pub filter-all : {R : Type 0} (t : R → Bool) (xs : List R) → AllByRecursion (λ r. t r ≡ true) xs → filter t xs ≡ xs
filter-all t [] all = refl
filter-all t (x ∷ xs) all = λ i. cond (all.0 i) (x ∷ filter-all t xs all.1 i) (filter-all t xs all.1 i)

pub filter-no : {R : Type 0} (t : R → Bool) (xs : List R) → AllByRecursion (λ r. t r ≡ false) xs → filter t xs ≡ []
filter-no t [] all = refl
filter-no t (x ∷ xs) all = λ i. cond (all.0 i) (x ∷ filter-no t xs all.1 i) (filter-no t xs all.1 i)

-- two tests that answer alike
pub filter-alike : {R : Type 0} (t u : R → Bool) (xs : List R) → AllByRecursion (λ x. t x ≡ u x) xs → filter t xs ≡ filter u xs
filter-alike t u [] all = refl
filter-alike t u (x ∷ xs) all = λ i. cond (all.0 i) (x ∷ filter-alike t u xs all.1 i) (filter-alike t u xs all.1 i)

-- each that passes was there, and passes
pub all-passed : {R : Type 0} (P : R → Type 0) (q : R → Bool) (rs : List R) → AllByRecursion P rs → AllByRecursion (λ r. P r × (q r ≡ true)) (filter q rs)
all-passed P q [] all = tt
all-passed P q (x ∷ xs) all =
    elim (q x) as (λ c. q x ≡ c → AllByRecursion (λ r. P r × (q r ≡ true)) (cond c (x ∷ filter q xs) (filter q xs))) [
      | true ↦ λ is. ((all.0, is), all-passed P q xs all.1)
      | false ↦ λ no. all-passed P q xs all.1
    ] refl
