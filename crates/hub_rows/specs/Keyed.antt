-- Lists of rows in the order of their keys, shared by several operators: reading and editing them.
use Rattle.std.specs.Prelude.{ℕ, max, Option, None, Some, List, [], ◌∷◌, Bool, if◌then◌else◌, ◌&&◌, not, filter, map, find}
use Rattle.std.specs.List.{list_any}
use Rattle.std.specs.Ordering.{nat_cmp, match_ordering}
use Rattle.std.specs.declared.cmp.Ordering.{Ordering}
use Rattle.std.specs.Cmp.Lexicographic.{slice_cmp}
use Rattle.std.specs.Str.{bytes_eq}

-- texts by their bytes
abbrev pub text_cmp : List ℕ → List ℕ → Ordering
text_cmp = slice_cmp nat_cmp

-- keys, part by part; a number is a part of its own, the list of that number alone
abbrev pub key_cmp : List (List ℕ) → List (List ℕ) → Ordering
key_cmp = slice_cmp text_cmp

-- rows by their keys
abbrev pub by_key : {R : Type 0} → (R → List (List ℕ)) → R → R → Ordering
by_key key r x = key_cmp (key r) (key x)

-- the key of a row that its operator and one name tell apart
abbrev pub pair_key : {R : Type 0} → (R → List ℕ) → (R → List ℕ) → R → List (List ℕ)
pair_key op name r = op r ∷ name r ∷ []

-- the key of a row that its operator, a station and a number tell apart
abbrev pub numbered_key : {R : Type 0} → (R → List ℕ) → (R → List ℕ) → (R → ℕ) → R → List (List ℕ)
numbered_key op station number r = op r ∷ station r ∷ (number r ∷ []) ∷ []

-- the key of a row that its number tells apart from the others of its station
abbrev pub number_key : {R : Type 0} → (R → ℕ) → R → List (List ℕ)
number_key number r = (number r ∷ []) ∷ []

-- a row at its place in the order, in place of one with its key
abbrev pub put : {R : Type 0} → (R → R → Ordering) → R → List R → List R
put cmp r [] = r ∷ []
put cmp r (x ∷ xs) = match_ordering (cmp r x) (r ∷ x ∷ xs) (r ∷ xs) (x ∷ put cmp r xs)

-- several rows, put one after the other
abbrev pub put_all : {R : Type 0} → (R → R → Ordering) → List R → List R → List R
put_all cmp [] xs = xs
put_all cmp (r ∷ rs) xs = put_all cmp rs (put cmp r xs)

-- rows in order, whose keys differ
abbrev pub in_order : {R : Type 0} → (R → R → Ordering) → List R → List R
in_order cmp [] = []
in_order cmp (r ∷ rs) = put cmp r (in_order cmp rs)

-- the first row, if there is one
abbrev pub first : {R : Type 0} → List R → Option R
first [] = None
first (r ∷ rs) = Some r

-- the rows of one operator
abbrev pub own : {R : Type 0} → (R → List ℕ) → List ℕ → List R → List R
own op a rows = filter (λ r. bytes_eq (op r) a) rows

-- all rows but those of operator b that pass the test
abbrev pub without : {R : Type 0} → (R → List ℕ) → List ℕ → (R → Bool) → List R → List R
without op b test rows = filter (λ r. not (bytes_eq (op r) b && test r)) rows

-- the rows of operator b that pass the test are changed by f
abbrev pub changed : {R : Type 0} → (R → List ℕ) → List ℕ → (R → Bool) → (R → R) → List R → List R
changed op b test f rows = map (λ r. if bytes_eq (op r) b && test r then f r else r) rows

-- the first row of operator b that passes the test
abbrev pub found : {R : Type 0} → (R → List ℕ) → List ℕ → (R → Bool) → List R → Option R
found op b test rows = find (λ r. bytes_eq (op r) b && test r) rows

-- the rows of operator b that pass the test, in their order
abbrev pub those : {R : Type 0} → (R → List ℕ) → List ℕ → (R → Bool) → List R → List R
those op b test rows = filter (λ r. bytes_eq (op r) b && test r) rows

-- whether a row of operator b passes the test
abbrev pub any_of : {R : Type 0} → (R → List ℕ) → List ℕ → (R → Bool) → List R → Bool
any_of op b test rows = list_any (λ r. bytes_eq (op r) b && test r) rows

-- the greatest of some numbers, 0 where there are none
abbrev pub greatest : List ℕ → ℕ
greatest [] = 0
greatest (n ∷ ns) = max n (greatest ns)
