-- What a station tells of itself, as JSON.
use Rattle.std.specs.Prelude.{codes}
use Rattle.serde_json.specs.Data.{Data, object, no_members}
use Rattle.ocpp_types.specs.declared.boot_notification.BootNotification.{BootNotification}
use Rattle.ocpp_payload.specs.Holds.{holds_text}
use Rattle.ocpp_payload.specs.Kind.{any_text}
use Rattle.ocpp_payload.specs.Table.{Table, end, must, may, put_members}

abbrev pub boot_table : Table BootNotification
boot_table =
    may (codes "meterType") (holds_text any_text) (λ b. b.meter_type)
    (may (codes "meterSerialNumber") (holds_text any_text) (λ b. b.meter_serial_number)
    (may (codes "imsi") (holds_text any_text) (λ b. b.imsi)
    (may (codes "iccid") (holds_text any_text) (λ b. b.iccid)
    (may (codes "firmwareVersion") (holds_text any_text) (λ b. b.firmware_version)
    (must (codes "chargePointVendor") (holds_text any_text) (λ b. b.charge_point_vendor)
    (may (codes "chargePointSerialNumber") (holds_text any_text) (λ b. b.charge_point_serial_number)
    (must (codes "chargePointModel") (holds_text any_text) (λ b. b.charge_point_model)
    (may (codes "chargeBoxSerialNumber") (holds_text any_text) (λ b. b.charge_box_serial_number)
    end))))))))

abbrev pub boot_data : BootNotification → Data
boot_data b = object (put_members boot_table b no_members)
