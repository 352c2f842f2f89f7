-- Answers to look-ups of id tags.
use Rattle.std.specs.Prelude.{◌≡◌, ◌≢◌, ℕ, Bool, true, false, List, Option, Some, None, IfSome}
use Rattle.ocpp_types.specs.TagKey.{key_of}
use Rattle.hub_rows.specs.declared.grant_row.GrantRow.{GrantRow}
use Rattle.hub_rows.specs.declared.info.Info.{Info}
use Rattle.hub_rows.specs.declared.tag_row.TagRow.{TagRow}
use Rattle.hub_rows.specs.declared.change.Edit.{Edit}
use Rattle.hub_rows.specs.declared.change.Edit.TheVariants.{Tags}
use Rattle.hub_rows.specs.declared.change.TagEdit.TheVariants.{TagPut, TagDropped, GrantPut, GrantDropped}
use Rattle.hub_rows.specs.Grants.{granted_tag_in}
use Rattle.hub_rows.specs.Rows.{Rows}
use Rattle.hub_rows.specs.Tags.{own_tag_in}
use Rattle.cached.specs.Digests.{tag_digest}
use Rattle.cached.specs.declared.tag_answer.TagAnswer.{TagAnswer}
use Rattle.cached.specs.declared.tag_answer.LookUp.{LookUp}
use Rattle.cached.specs.declared.tag_answer.LookUp.TheVariants.{Own, Granted}

-- it answers that look-up of operator a
pub record IsAbout (how : LookUp) (a k : List ℕ) (answer : TagAnswer) : Type 0 where
  pub look_up : answer.look_up ≡ how
  pub op : answer.op ≡ a
  pub key : answer.key ≡ k

-- it is no tag whose parent has that key
abbrev pub IsParentApart : List ℕ → Option Info → Type 0
IsParentApart k info = IfSome info (λ i. IfSome i.parent (λ p. key_of p ≢ k))

-- it is neither about the tag of that key nor about one whose parent that is
pub record IsApart (k : List ℕ) (answer : TagAnswer) : Type 0 where
  pub key : answer.key ≢ k
  pub parent : IsParentApart k answer.info

-- what a look-up of operator a is answered by the tags and grants of all
abbrev pub answered : LookUp → List ℕ → List ℕ → List TagRow → List GrantRow → Option Info
answered Own a key tags grants = own_tag_in a key tags
answered Granted a key tags grants = granted_tag_in a key tags grants

-- the same by the rows
abbrev pub looked_up : LookUp → List ℕ → List ℕ → Rows → Option Info
looked_up how a key rows = answered how a key rows.tags rows.grants

-- it is what the rows give
abbrev pub IsRight : Rows → TagAnswer → Type 0
IsRight rows answer = answer.info ≡ looked_up answer.look_up answer.op answer.key rows

-- whether it is of an operator's own tags
abbrev pub is_own : LookUp → Bool
is_own Own = true
is_own Granted = false

-- the number of what it answers
abbrev pub digest_of_tag : TagAnswer → ℕ
digest_of_tag answer = tag_digest (is_own answer.look_up) answer.op answer.key

-- the key of the tag that an edit changes, or whose grants it changes
abbrev pub touched : Edit → Option (List ℕ)
touched (Tags (TagPut key tag)) = Some key
touched (Tags (TagDropped key)) = Some key
touched (Tags (GrantPut key to until)) = Some key
touched (Tags (GrantDropped key to)) = Some key
touched e = None
