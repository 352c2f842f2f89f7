-- Which tags are put, dropped, granted and taken back.
use Rattle.std.specs.Prelude.{ℕ, nat_le, ◌==◌, List, length, codes, Bool, true, ◌&&◌, not, if◌then◌else◌, Option, Some, None, Result, Ok, Err}
use Rattle.std.specs.Str.{bytes_eq}
use Rattle.ocpp_types.specs.TagKey.{key_of}
use Rattle.ocpp_types.specs.Text.{characters}
use Rattle.ocpp_types.specs.declared.refusal.Refusal.{Refusal}
use Rattle.ocpp_types.specs.declared.refusal.Refusal.TheVariants.{NoSuchTag, NoSuchOperator, SelfGrant, NoSuchGrant, BadField}
use Rattle.hub_rows.specs.declared.change.Edit.{Edit}
use Rattle.hub_rows.specs.declared.change.Edit.TheVariants.{Tags}
use Rattle.hub_rows.specs.declared.change.TagEdit.TheVariants.{TagPut, TagDropped, GrantPut, GrantDropped}
use Rattle.hub_rows.specs.declared.info.Info.{Info}
use Rattle.hub_rows.specs.declared.tag_row.Tag.{Tag}
use Rattle.hub_rows.specs.Lookups.{Lookups}
use Rattle.id_tags.specs.declared.plan.Grant.{Grant}

-- 1 to 20 characters
abbrev pub is_tag : List ℕ → Bool
is_tag text = not (length text == 0) && nat_le (characters text) 20

abbrev pub is_parent : Option (List ℕ) → Bool
is_parent None = true
is_parent (Some text) = is_tag text

abbrev pub put_rule : Tag → Result Edit Refusal
put_rule t =
    if is_tag t.text then (if is_parent t.parent then Ok (Tags (TagPut (key_of t.text) t)) else Err (BadField (codes "parent"))) else Err (BadField (codes "tag"))

abbrev pub drop_edit : List ℕ → Option Info → Result Edit Refusal
drop_edit key None = Err NoSuchTag
drop_edit key (Some t) = Ok (Tags (TagDropped key))

abbrev pub drop_rule : List ℕ → Lookups → Result Edit Refusal
drop_rule text l = drop_edit (key_of text) (l.own_tag (key_of text))

-- ---- grants

-- only a tag of one's own is granted, to another operator that is hosted
abbrev pub grant_edit : (List ℕ → Bool) → List ℕ → Grant → Option Info → Result Edit Refusal
grant_edit is_hosted op g None = Err NoSuchTag
grant_edit is_hosted op g (Some info) =
    if is_hosted g.to then (if bytes_eq g.to op then Err SelfGrant else Ok (Tags (GrantPut (key_of g.tag) g.to g.until))) else Err NoSuchOperator

abbrev pub grant_rule : (List ℕ → Bool) → Grant → Lookups → Result Edit Refusal
grant_rule is_hosted g l = grant_edit is_hosted l.op g (l.own_tag (key_of g.tag))

-- only what was granted is taken back
abbrev pub revoke_rule : List ℕ → List ℕ → Lookups → Result Edit Refusal
revoke_rule tag to l = if l.has_grant (key_of tag) to then Ok (Tags (GrantDropped (key_of tag) to)) else Err NoSuchGrant
