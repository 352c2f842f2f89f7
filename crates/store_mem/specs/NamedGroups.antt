-- Rows that are kept in groups, each of an operator and a name.
use Rattle.std.specs.Prelude.{◌≡◌, ℕ, ◌<◌, List, [], ◌∷◌, ◌++◌, ◌&&◌, Bool, Option, None, Some, find, vec_len, vec_capacity}
use Rattle.std.specs.List.{AllByRecursion}
use Rattle.std.specs.List.Sorted.{IsStrictlySortedBy}
use Rattle.std.specs.Str.{bytes_eq}
use Rattle.hub_rows.specs.Keyed.{by_key, number_key}
use Rattle.store_mem.specs.declared.named_groups.NamedGroup.{NamedGroup}

-- what tells groups apart
abbrev pub group_key : {R : Type 0} → NamedGroup R → List (List ℕ)
group_key s = s.op ∷ s.name ∷ []

-- groups in the order of their operators and names
abbrev pub AreInPlace : {R : Type 0} → List (NamedGroup R) → Type 0
AreInPlace ss = IsStrictlySortedBy (by_key group_key) ss

-- ---- the rows of one group

-- the group of operator b under the name n
abbrev pub is_at : {R : Type 0} → List ℕ → List ℕ → NamedGroup R → Bool
is_at b n s = bytes_eq s.op b && bytes_eq s.name n

-- the rows of a group, none where there is none
abbrev pub rows_or_none : {R : Type 0} → Option (NamedGroup R) → List R
rows_or_none None = []
rows_or_none (Some s) = s.rows.items

-- the rows of operator b under the name n
abbrev pub rows_at : {R : Type 0} → List ℕ → List ℕ → List (NamedGroup R) → List R
rows_at b n ss = rows_or_none (find (is_at b n) ss)

-- there is room for one more row in a group that is there
abbrev pub IsRoomAt : {R : Type 0} → Option (NamedGroup R) → Type 0
IsRoomAt None = ⊥
IsRoomAt (Some s) = vec_len s.rows < vec_capacity s.rows

-- the same in that of operator b and the name n
abbrev pub HasRoomAt : {R : Type 0} → List ℕ → List ℕ → List (NamedGroup R) → Type 0
HasRoomAt b n ss = IsRoomAt (find (is_at b n) ss)

-- ---- rows of stations, in the order of their numbers

-- the rows of all groups in one list
abbrev pub all_rows : {R : Type 0} → List (NamedGroup R) → List R
all_rows [] = []
all_rows (s ∷ ss) = s.rows.items ++ all_rows ss

module _ {R : Type 0} (op station : R → List ℕ) (number : R → ℕ) where
  -- rows of one station, in the order of their numbers
  pub record AreOf (b st : List ℕ) (rows : List R) : Type 0 where
    pub mine : AllByRecursion (λ r. (op r ≡ b) × (station r ≡ st)) rows
    pub sorted : IsStrictlySortedBy (by_key (number_key number)) rows

  -- a group with the rows of its station
  abbrev pub IsGroup : NamedGroup R → Type 0
  IsGroup s = AreOf s.op s.name s.rows.items

  -- groups in the order of their stations
  pub record AreGrouped (ss : List (NamedGroup R)) : Type 0 where
    pub sorted : AreInPlace ss
    pub each : AllByRecursion IsGroup ss
