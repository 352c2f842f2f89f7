-- Id tags, and what counts of them.
use Rattle.std.specs.Prelude.{ℕ, List, Bool, false, ◌||◌, Option, Some, None}
use Rattle.std.specs.Option.{option_map}
use Rattle.std.specs.Str.{bytes_eq}
use Rattle.ocpp_types.specs.TagKey.{key_of}
use Rattle.hub_rows.specs.declared.info.Info.{Info}
use Rattle.hub_rows.specs.declared.tag_row.Tag.{Tag}
use Rattle.hub_rows.specs.declared.tag_row.TagRow.{TagRow}
use Rattle.hub_rows.specs.Keyed.{found}

-- the row of a key of operator b, among the tags of all
abbrev pub tag_in : List ℕ → List ℕ → List TagRow → Option TagRow
tag_in b key tags = found (λ r. r.op) b (λ r. bytes_eq r.key key) tags

abbrev pub is_blocked : Option TagRow → Bool
is_blocked None = false
is_blocked (Some r) = r.tag.blocked

-- whether a tag's parent is blocked, by what says it of a key
abbrev pub is_parent_blocked : (List ℕ → Bool) → Option (List ℕ) → Bool
is_parent_blocked blocked None = false
is_parent_blocked blocked (Some parent) = blocked (key_of parent)

-- the tag as it counts: blocked by itself or by its parent; a parent's parent doesn't count
abbrev pub effective : (List ℕ → Bool) → Tag → Info
effective blocked t = record { text = t.text; parent = t.parent; blocked = t.blocked || is_parent_blocked blocked t.parent; expiry = t.expiry; owner = None }

-- by what finds the owner's rows
abbrev pub effective_tag : (List ℕ → Option TagRow) → List ℕ → Option Info
effective_tag find key = option_map (λ r. effective (λ parent. is_blocked (find parent)) r.tag) (find key)

-- the tag of a key of operator b as it counts
abbrev pub own_tag_in : List ℕ → List ℕ → List TagRow → Option Info
own_tag_in b key tags = effective_tag (λ k. tag_in b k tags) key
