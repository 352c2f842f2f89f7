-- Entries of a local list under the keys of their tags.
use Rattle.std.specs.Prelude.{◌≡◌, ℕ, List}
use Rattle.std.specs.BTreeMap.{BTreeMap, values}
use Rattle.std.specs.BTreeSet.{BTreeSet, contains}
use Rattle.std.specs.Cmp.Lexicographic.{slice_cmp}
use Rattle.std.specs.Ordering.{nat_cmp}
use Rattle.std.specs.List.{AllByRecursion}
use Rattle.ocpp_types.specs.TagKey.{key_of}
use Rattle.hub_rows.specs.declared.list_row.LocalTag.{LocalTag}
use Rattle.holdings.specs.LocalList.{names}
use Rattle.operator_cmds.specs.declared.local_list.AuthorizationData.{AuthorizationData}

-- each entry is under the key of its tag
abbrev pub AreKeyed : List (List ℕ × LocalTag) → Type 0
AreKeyed entries = AllByRecursion (λ e. e.0 ≡ key_of e.1.tag) entries

-- the entries themselves
abbrev pub tags_of : BTreeMap (List ℕ) LocalTag → List LocalTag
tags_of map = values map

-- a set of the keys that a command names
abbrev pub AreNamed : List AuthorizationData → BTreeSet (List ℕ) → Type 0
AreNamed sent keys = (key : List ℕ) → contains (slice_cmp nat_cmp) keys key ≡ names sent key
