-- What is said of a tag, as an object.
use Rattle.std.specs.Prelude.{codes}
use Rattle.ocpp_types.specs.AuthorizationStatus.{authorization_status_name, authorization_statuses}
use Rattle.ocpp_types.specs.declared.id_tag_info.IdTagInfo.{IdTagInfo}
use Rattle.ocpp_payload.specs.Holds.{holds_moment, holds_name, holds_text_within}
use Rattle.ocpp_payload.specs.Table.{Form, end, must, may}

-- the type IdTagInfo
abbrev pub id_tag_info : Form IdTagInfo
id_tag_info = record {
  table =
      may (codes "expiryDate") holds_moment (λ i. i.expiry_date)
      (may (codes "parentIdTag") (holds_text_within 20) (λ i. i.parent_id_tag)
      (must (codes "status") (holds_name authorization_statuses authorization_status_name) (λ i. i.status)
      end));
  make = λ expiry parent status. record { expiry_date = expiry; parent_id_tag = parent; status = status };
}
