-- Local lists of stations.
use Rattle.std.specs.Prelude.{ℕ, List, [], ◌∷◌}
use Rattle.std.specs.List.Sorted.{IsStrictlySortedBy}
use Rattle.ocpp_types.specs.TagKey.{key_of}
use Rattle.hub_rows.specs.declared.list_row.LocalTag.{LocalTag}
use Rattle.hub_rows.specs.Keyed.{by_key}

-- what tells the entries of a list apart
abbrev pub entry_key : LocalTag → List (List ℕ)
entry_key entry = key_of entry.tag ∷ []

-- entries in the order of their keys, each key once
abbrev pub AreEntries : List LocalTag → Type 0
AreEntries entries = IsStrictlySortedBy (by_key entry_key) entries
