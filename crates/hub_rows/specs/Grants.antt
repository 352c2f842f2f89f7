-- Id tags that are granted to other operators, and what counts of them.
use Rattle.std.specs.Prelude.{ℕ, List, [], ◌∷◌, Bool, true, ◌&&◌, min, Option, Some, None, filter}
use Rattle.std.specs.List.{filter_map}
use Rattle.std.specs.Option.{option_map}
use Rattle.std.specs.Str.{bytes_eq}
use Rattle.hub_rows.specs.declared.grant_row.GrantRow.{GrantRow}
use Rattle.hub_rows.specs.declared.info.GrantedTag.{GrantedTag}
use Rattle.hub_rows.specs.declared.info.Info.{Info}
use Rattle.hub_rows.specs.declared.tag_row.TagRow.{TagRow}
use Rattle.hub_rows.specs.Keyed.{any_of, by_key, first, in_order, those}
use Rattle.hub_rows.specs.Tags.{own_tag_in}

-- ---- what operator b granted, among the grants of all

abbrev pub grants_in : List ℕ → List GrantRow → List GrantRow
grants_in b grants = those (λ r. r.op) b (λ r. true) grants

-- the grant of the tag of that key to that operator
abbrev pub is_grant : List ℕ → List ℕ → GrantRow → Bool
is_grant key to r = bytes_eq r.key key && bytes_eq r.to to

-- whether operator b granted the tag of that key to that operator
abbrev pub has_grant_in : List ℕ → List ℕ → List ℕ → List GrantRow → Bool
has_grant_in b key to grants = any_of (λ r. r.op) b (is_grant key to) grants

-- ---- what is granted to operator a

-- the earlier of two ends; without an end is later than all
abbrev pub earlier : Option ℕ → Option ℕ → Option ℕ
earlier None end = end
earlier (Some m) None = Some m
earlier (Some m) (Some n) = Some (min m n)

-- a tag as it counts for an operator to which its owner granted it until an end
abbrev pub granted_until : List ℕ → Option ℕ → Info → Info
granted_until owner end info = record info { expiry = earlier info.expiry end; owner = Some owner }

-- the owner's tag as it counts by a grant
abbrev pub info_by : List TagRow → GrantRow → Option Info
info_by tags g = option_map (granted_until g.op g.until) (own_tag_in g.op g.key tags)

-- the same with the key and the owner
abbrev pub entry_by : List TagRow → GrantRow → Option GrantedTag
entry_by tags g = option_map (λ info. record { key = g.key; owner = g.op; info = info }) (info_by tags g)

abbrev pub grants_to : List ℕ → List GrantRow → List GrantRow
grants_to a grants = filter (λ r. bytes_eq r.to a) grants

-- the order of a receiver: by key, then by owner
abbrev pub received_key : GrantRow → List (List ℕ)
received_key r = r.to ∷ r.key ∷ r.op ∷ []

-- all tags that are granted to operator a, in the order of key, then owner
unfoldable pub granted_in : List ℕ → List TagRow → List GrantRow → List GrantedTag
granted_in a tags grants = filter_map (entry_by tags) (in_order (by_key received_key) (grants_to a grants))

-- the grants of the tags of that key to operator a
abbrev pub grants_of_key : List ℕ → List ℕ → List GrantRow → List GrantRow
grants_of_key a key grants = filter (λ r. bytes_eq r.to a && bytes_eq r.key key) grants

-- the tag of that key that is granted to operator a: that of the first owner, for grants are in the
-- order of their owners
unfoldable pub granted_tag_in : List ℕ → List ℕ → List TagRow → List GrantRow → Option Info
granted_tag_in a key tags grants = first (filter_map (info_by tags) (grants_of_key a key grants))
