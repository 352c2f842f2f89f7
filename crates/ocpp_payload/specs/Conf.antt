-- The answers to a station's requests, as JSON.
use Rattle.std.specs.Prelude.{ℕ, List, codes, Option, Some, None, option_map}
use Rattle.serde_json.specs.Data.{Data, number, unsigned, string, object, Members, no_members, member, put}
use Rattle.ocpp_types.specs.TimeText.{time_text}
use Rattle.ocpp_types.specs.Policy.{policy_name}
use Rattle.ocpp_types.specs.AuthorizationStatus.{authorization_status_name}
use Rattle.ocpp_types.specs.DataTransferStatus.{data_transfer_status_name}
use Rattle.ocpp_types.specs.declared.data_transfer_status.DataTransferStatus.{DataTransferStatus}
use Rattle.ocpp_types.specs.declared.id_tag_info.IdTagInfo.{IdTagInfo}
use Rattle.ocpp_types.specs.declared.policy.Policy.{Policy}
use Rattle.ocpp_payload.specs.declared.conf.Conf.{Conf}
use Rattle.ocpp_payload.specs.declared.conf.Conf.TheVariants.{Authorize, BootNotification, DataTransfer, Heartbeat, Empty, StartTransaction, StopTransaction}

-- the members with one more, if there is one
abbrev pub put_some : List ℕ → Option Data → Members → Members
put_some name None ms = ms
put_some name (Some d) ms = put name d ms

abbrev pub time_data : ℕ → Data
time_data moment = string (time_text moment)

abbrev pub no_conf : Data
no_conf = object no_members

abbrev pub id_tag_info_data : IdTagInfo → Data
id_tag_info_data info = object
    (put_some (codes "expiryDate") (option_map time_data info.expiry_date)
    (put_some (codes "parentIdTag") (option_map string info.parent_id_tag)
    (member (codes "status") (string (authorization_status_name info.status))
    no_members)))

abbrev pub authorize_conf : IdTagInfo → Data
authorize_conf info = object (member (codes "idTagInfo") (id_tag_info_data info) no_members)

abbrev pub boot_notification_conf : ℕ → ℕ → Policy → Data
boot_notification_conf current_time interval status =
    object (member (codes "currentTime") (time_data current_time)
    (member (codes "interval") (number (unsigned interval))
    (member (codes "status") (string (policy_name status))
    no_members)))

abbrev pub data_transfer_conf : DataTransferStatus → Option (List ℕ) → Data
data_transfer_conf status content =
    object (put_some (codes "data") (option_map string content)
    (member (codes "status") (string (data_transfer_status_name status))
    no_members))

abbrev pub heartbeat_conf : ℕ → Data
heartbeat_conf current_time = object (member (codes "currentTime") (time_data current_time) no_members)

abbrev pub start_transaction_conf : IdTagInfo → ℕ → Data
start_transaction_conf info transaction =
    object (member (codes "idTagInfo") (id_tag_info_data info)
    (member (codes "transactionId") (number (unsigned transaction))
    no_members))

abbrev pub stop_transaction_conf : Option IdTagInfo → Data
stop_transaction_conf info = object (put_some (codes "idTagInfo") (option_map id_tag_info_data info) no_members)

abbrev pub conf_data : Conf → Data
conf_data (Authorize info) = authorize_conf info
conf_data (BootNotification current_time interval status) = boot_notification_conf current_time interval status
conf_data (DataTransfer status content) = data_transfer_conf status content
conf_data (Heartbeat current_time) = heartbeat_conf current_time
conf_data Empty = no_conf
conf_data (StartTransaction info transaction) = start_transaction_conf info transaction
conf_data (StopTransaction info) = stop_transaction_conf info
