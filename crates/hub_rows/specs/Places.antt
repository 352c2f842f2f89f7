-- The place of a key in a list of rows in the order of their keys.
use Rattle.std.specs.Prelude.{◌≡◌, ℕ, ◌+◌, ◌<◌, ◌≤◌, List, ◌∷◌, ◌++◌, length, take, drop, slice_index_or, Result, MatchResult}
use Rattle.std.specs.List.{AllByRecursion}
use Rattle.std.specs.declared.cmp.Ordering.TheVariants.{Less, Greater}
use Rattle.hub_rows.specs.Keyed.{key_cmp}

module _ {R : Type 0} (key : R → List (List ℕ)) (k : List (List ℕ)) where
  -- each row's key is below k
  abbrev pub AllBelow : List R → Type 0
  AllBelow = AllByRecursion (λ r. key_cmp (key r) k ≡ Less)

  -- each row's key is above k
  abbrev pub AllAbove : List R → Type 0
  AllAbove = AllByRecursion (λ r. key_cmp (key r) k ≡ Greater)

  -- the row at i has the key k
  pub record IsFoundAt (rows : List R) (i : ℕ) : Type 0 where
    pub row : R
    pub in_range : i < length rows
    pub here : (d : R) → slice_index_or rows i d ≡ row
    pub split : rows ≡ take i rows ++ row ∷ drop (i + 1) rows
    pub has_key : key row ≡ k
    pub before : AllBelow (take i rows)
    pub after : AllAbove (drop (i + 1) rows)

  -- no row has the key k, whose place is before the row at i
  pub record IsGapAt (rows : List R) (i : ℕ) : Type 0 where
    pub in_range : i ≤ length rows
    pub before : AllBelow (take i rows)
    pub after : AllAbove (drop i rows)

  -- a search for k gives the index of its row, or else its place
  abbrev pub IsPlace : List R → Result ℕ ℕ → Type 0
  IsPlace rows place = MatchResult place (IsFoundAt rows) (IsGapAt rows)
