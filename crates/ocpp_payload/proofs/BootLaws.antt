-- The texts of a boot hold no float, so what is written of them is the compact text.
use Rattle.std.specs.Prelude.{◌≡◌, false}
use Rattle.std.proofs.Common.{refl, ◌∙◌, ap}
use Rattle.serde_json.specs.Data.{Data, no_members}
use Rattle.serde_json.specs.Written.{has_float}
use Rattle.ocpp_types.specs.declared.boot_notification.BootNotification.{BootNotification}
use Rattle.ocpp_payload.specs.Boot.{boot_data, boot_table}
use Rattle.ocpp_payload.specs.Table.{put_members_plain}

pub boot_no_float : (b : BootNotification) (d : Data) → d ≡ boot_data b → has_float d ≡ false
boot_no_float b d is = ap has_float is ∙ put_members_plain boot_table b no_members refl
