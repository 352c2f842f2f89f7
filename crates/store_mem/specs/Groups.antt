-- Rows that are kept in groups by the first part of their keys.
use Rattle.std.specs.Prelude.{◌≡◌, ℕ, ◌<◌, Bool, List, [], ◌∷◌, ◌++◌, Option, None, Some, find, vec_len, vec_capacity}
use Rattle.std.specs.List.{AllByRecursion}
use Rattle.std.specs.List.Sorted.{IsStrictlySortedBy}
use Rattle.std.specs.Ordering.{is_eq}
use Rattle.std.specs.Str.{bytes_eq}
use Rattle.hub_rows.specs.Keyed.{key_cmp, by_key}
use Rattle.store_mem.specs.declared.groups.Group.{Group}

abbrev pub name_key : {R : Type 0} → Group R → List (List ℕ)
name_key g = g.name ∷ []

-- the rows of all groups in one list
abbrev pub all_of : {R : Type 0} → List (Group R) → List R
all_of [] = []
all_of (g ∷ gs) = g.rows.items ++ all_of gs

module _ {R : Type 0} (key : R → List (List ℕ)) (group : R → List ℕ) where
  -- rows of one group, in the order of their keys
  pub record AreOfGroup (name : List ℕ) (rows : List R) : Type 0 where
    pub mine : AllByRecursion (λ r. group r ≡ name) rows
    pub sorted : IsStrictlySortedBy (by_key key) rows

  abbrev pub IsGroup : Group R → Type 0
  IsGroup g = AreOfGroup g.name g.rows.items

  -- groups in the order of their names
  pub record AreGroups (gs : List (Group R)) : Type 0 where
    pub sorted : IsStrictlySortedBy (by_key name_key) gs
    pub each : AllByRecursion IsGroup gs

-- the row of a group that these two texts tell from the others
abbrev pub is_row : {R : Type 0} → (R → List (List ℕ)) → List ℕ → List ℕ → R → Bool
is_row rest second third r = is_eq (key_cmp (rest r) (second ∷ third ∷ []))

-- there is room for one more row in a group that is there
abbrev pub IsRoomIn : {R : Type 0} → Option (Group R) → Type 0
IsRoomIn None = ⊥
IsRoomIn (Some g) = vec_len g.rows < vec_capacity g.rows

-- the same in the group of a name
abbrev pub HasRoom : {R : Type 0} → List ℕ → List (Group R) → Type 0
HasRoom name gs = IsRoomIn (find (λ g. bytes_eq g.name name) gs)
