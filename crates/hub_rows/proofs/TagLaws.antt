-- An operator's tag is found among its own tags.
use Rattle.std.specs.Prelude.{◌≡◌, ℕ, List, Option, Some, None, ◌||◌, find}
use Rattle.std.proofs.Common.{refl, ap, ◌∙◌}
use Rattle.std.specs.Option.{option_map}
use Rattle.std.specs.Str.{bytes_eq}
use Rattle.ocpp_types.specs.TagKey.{key_of}
use Rattle.hub_rows.specs.declared.tag_row.TagRow.{TagRow}
use Rattle.hub_rows.specs.Keyed.{own}
use Rattle.hub_rows.specs.Lookups.{own_is_blocked, own_is_parent_blocked, own_tag}
use Rattle.hub_rows.specs.Tags.{tag_in, is_blocked, is_parent_blocked, own_tag_in}
use Rattle.hub_rows.proofs.ListLaws.{found-own}

same_blocked : (o : Option TagRow) → is_blocked o ≡ own_is_blocked o
same_blocked None = refl
same_blocked (Some r) = refl

same_parent : (a : List ℕ) (tags : List TagRow) (parent : Option (List ℕ)) → is_parent_blocked (λ key. is_blocked (tag_in a key tags)) parent ≡ own_is_parent_blocked (own (λ r. r.op) a tags) parent
same_parent a tags None = refl
same_parent a tags (Some parent) = ap is_blocked (found-own (λ r. r.op) a (λ r. bytes_eq r.key (key_of parent)) tags) ∙ same_blocked (find (λ r. bytes_eq r.key (key_of parent)) (own (λ r. r.op) a tags))

pub same_tag : (a key : List ℕ) (tags : List TagRow) → own_tag_in a key tags ≡ own_tag key (own (λ r. r.op) a tags)
same_tag a key tags = λ i. option_map (λ r. record { text = r.tag.text; parent = r.tag.parent; blocked = r.tag.blocked || same_parent a tags r.tag.parent i; expiry = r.tag.expiry; owner = None }) (found-own (λ r. r.op) a (λ r. bytes_eq r.key key) tags i)
