-- The refusal of a tag that an operator wants used.
use Rattle.std.specs.Prelude.{ℕ, List, Option, Some, None}
use Rattle.ocpp_types.specs.TagKey.{key_of}
use Rattle.ocpp_types.specs.declared.authorization_status.AuthorizationStatus.{AuthorizationStatus}
use Rattle.ocpp_types.specs.declared.authorization_status.AuthorizationStatus.TheVariants.{Accepted}
use Rattle.ocpp_types.specs.declared.refusal.Refusal.{Refusal}
use Rattle.ocpp_types.specs.declared.refusal.Refusal.TheVariants.{TagRefused}
use Rattle.hub_rows.specs.Lookups.{Lookups}
use Rattle.id_tags.specs.Judge.{judge_rule}
use Rattle.id_tags.specs.declared.judgement.Purpose.TheVariants.{Authorize}

-- the refusal of a tag, by its status
abbrev pub tag_refusal : AuthorizationStatus → Option Refusal
tag_refusal Accepted = None
tag_refusal status = Some (TagRefused status)

-- a tag is judged as for an Authorize
abbrev pub refuse_rule : ℕ → List ℕ → Lookups → Option Refusal
refuse_rule m tag l = tag_refusal (judge_rule m (key_of tag) Authorize l).status
