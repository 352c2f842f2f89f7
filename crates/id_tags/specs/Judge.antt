-- How an id tag is judged.
use Rattle.std.specs.Prelude.{ℕ, nat_le, List, Bool, false, if◌then◌else◌, Option, Some, None}
use Rattle.ocpp_types.specs.declared.authorization_status.AuthorizationStatus.{AuthorizationStatus}
use Rattle.ocpp_types.specs.declared.authorization_status.AuthorizationStatus.TheVariants.{Accepted, Blocked, Expired, Invalid, ConcurrentTx}
use Rattle.ocpp_types.specs.declared.id_tag_info.IdTagInfo.{IdTagInfo}
use Rattle.hub_rows.specs.declared.info.Info.{Info}
use Rattle.hub_rows.specs.Lookups.{Lookups}
use Rattle.id_tags.specs.declared.judgement.Judged.{Judged}
use Rattle.id_tags.specs.declared.judgement.Purpose.{Purpose}
use Rattle.id_tags.specs.declared.judgement.Purpose.TheVariants.{Authorize, Start}

-- the operator's own tag, or else one that was granted to it
abbrev pub own_or_granted : Option Info → Option Info → Option Info
own_or_granted (Some own) granted = Some own
own_or_granted None granted = granted

-- the tag of a key that counts
abbrev pub found_tag : List ℕ → Lookups → Option Info
found_tag key l = own_or_granted (l.own_tag key) (l.granted_tag key)

-- whether a moment is at the expiry or past it
abbrev pub is_past : ℕ → Option ℕ → Bool
is_past m None = false
is_past m (Some expiry) = nat_le expiry m

-- whether the tag of a key is in use, as far as the purpose asks
abbrev pub is_in_use : Purpose → List ℕ → Lookups → Bool
is_in_use Authorize key l = false
is_in_use (Start except) key l = l.is_used key except

abbrev pub tag_status : ℕ → Bool → Info → AuthorizationStatus
tag_status m used t = if t.blocked then Blocked else (if is_past m t.expiry then Expired else (if used then ConcurrentTx else Accepted))

abbrev pub told_of_tag : ℕ → Bool → Option Info → IdTagInfo
told_of_tag m used None = record { expiry_date = None; parent_id_tag = None; status = Invalid }
told_of_tag m used (Some t) = record { expiry_date = t.expiry; parent_id_tag = t.parent; status = tag_status m used t }

-- the operator that granted a tag, where it is accepted
abbrev pub kept_owner : AuthorizationStatus → Option (List ℕ) → Option (List ℕ)
kept_owner Accepted owner = owner
kept_owner Blocked owner = None
kept_owner Expired owner = None
kept_owner Invalid owner = None
kept_owner ConcurrentTx owner = None

abbrev pub owner_of : Option Info → Option (List ℕ)
owner_of None = None
owner_of (Some t) = t.owner

-- what is told, and the owner
abbrev pub judged_tag : ℕ → Bool → Option Info → Judged
judged_tag m used t = let info = told_of_tag m used t in record { info = info; owner = kept_owner info.status (owner_of t) }

-- the judgement of the tag of a key at a moment, as far as an operator's look-ups go
abbrev pub judge_rule : ℕ → List ℕ → Purpose → Lookups → IdTagInfo
judge_rule m key purpose l = told_of_tag m (is_in_use purpose key l) (found_tag key l)

-- the same, with the owner of a granted tag
abbrev pub judge_with_owner : ℕ → List ℕ → Purpose → Lookups → Judged
judge_with_owner m key purpose l = judged_tag m (is_in_use purpose key l) (found_tag key l)
