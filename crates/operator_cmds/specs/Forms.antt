-- The commands, each by the table of its members (OCPP 1.6, section 6).
use Rattle.std.specs.Prelude.{ℕ, ℤ, pos, negsuc, List, codes}
use Rattle.ocpp_payload.specs.Kind.{any_text}
use Rattle.ocpp_payload.specs.Holds.{Holds, holds_text, holds_moment, holds_name, holds_text_within, holds_integer_within, holds_list}
use Rattle.ocpp_payload.specs.Table.{Form, end, must, may}
use Rattle.operator_cmds.specs.Choices.{availability_type_name, availability_types, message_trigger_name, message_triggers, reset_type_name, reset_types}
use Rattle.operator_cmds.specs.declared.configuration.ChangeConfiguration.{ChangeConfiguration}
use Rattle.operator_cmds.specs.declared.configuration.GetConfiguration.{GetConfiguration}
use Rattle.operator_cmds.specs.declared.remote.RemoteStartTransaction.{RemoteStartTransaction}
use Rattle.operator_cmds.specs.declared.remote.RemoteStopTransaction.{RemoteStopTransaction}
use Rattle.operator_cmds.specs.declared.reservations.CancelReservation.{CancelReservation}
use Rattle.operator_cmds.specs.declared.reservations.ReserveNow.{ReserveNow}
use Rattle.operator_cmds.specs.declared.station.ChangeAvailability.{ChangeAvailability}
use Rattle.operator_cmds.specs.declared.station.DataTransfer.{DataTransfer}
use Rattle.operator_cmds.specs.declared.station.Reset.{Reset}
use Rattle.operator_cmds.specs.declared.station.TriggerMessage.{TriggerMessage}
use Rattle.operator_cmds.specs.declared.station.UnlockConnector.{UnlockConnector}

-- a connector, from that number on up to 255; 0 is the station itself
abbrev pub holds_connector : ℕ → Holds ℤ
holds_connector low = holds_integer_within (pos low) (pos 255)

-- a signed number of 32 bits
abbrev pub holds_number_of_32_bits : Holds ℤ
holds_number_of_32_bits = holds_integer_within (negsuc 2147483647) (pos 2147483647)

-- an id tag of at most 20 characters
abbrev pub holds_id_tag : Holds (List ℕ)
holds_id_tag = holds_text_within 20

-- CancelReservation.req
abbrev pub cancel_reservation : Form CancelReservation
cancel_reservation = record {
  table =
      must (codes "reservationId") holds_number_of_32_bits (λ c. c.reservation_id)
      end;
  make = λ reservation. record { reservation_id = reservation };
}

-- ChangeAvailability.req
abbrev pub change_availability : Form ChangeAvailability
change_availability = record {
  table =
      must (codes "connectorId") (holds_connector 0) (λ c. c.connector_id)
      (must (codes "type") (holds_name availability_types availability_type_name) (λ c. c.kind)
      end);
  make = λ connector kind. record { connector_id = connector; kind = kind };
}

-- ChangeConfiguration.req
abbrev pub change_configuration : Form ChangeConfiguration
change_configuration = record {
  table =
      must (codes "key") (holds_text_within 50) (λ c. c.key)
      (must (codes "value") (holds_text_within 500) (λ c. c.value)
      end);
  make = λ key value. record { key = key; value = value };
}

-- ClearCache.req, GetLocalListVersion.req: no members
abbrev pub empty : Form (Unit {0})
empty = record { table = end; make = tt }

-- DataTransfer.req
abbrev pub data_transfer : Form DataTransfer
data_transfer = record {
  table =
      must (codes "vendorId") (holds_text_within 255) (λ c. c.vendor_id)
      (may (codes "messageId") (holds_text_within 50) (λ c. c.message_id)
      (may (codes "data") (holds_text any_text) (λ c. c.content)
      end));
  make = λ vendor message content. record { vendor_id = vendor; message_id = message; content = content };
}

-- GetConfiguration.req
abbrev pub get_configuration : Form GetConfiguration
get_configuration = record {
  table =
      may (codes "key") (holds_list (holds_text_within 50)) (λ c. c.key)
      end;
  make = λ key. record { key = key };
}

-- RemoteStartTransaction.req, without a charging profile
abbrev pub remote_start_transaction : Form RemoteStartTransaction
remote_start_transaction = record {
  table =
      may (codes "connectorId") (holds_connector 1) (λ c. c.connector_id)
      (must (codes "idTag") holds_id_tag (λ c. c.id_tag)
      end);
  make = λ connector tag. record { connector_id = connector; id_tag = tag };
}

-- RemoteStopTransaction.req
abbrev pub remote_stop_transaction : Form RemoteStopTransaction
remote_stop_transaction = record {
  table =
      must (codes "transactionId") holds_number_of_32_bits (λ c. c.transaction_id)
      end;
  make = λ transaction. record { transaction_id = transaction };
}

-- ReserveNow.req
abbrev pub reserve_now : Form ReserveNow
reserve_now = record {
  table =
      must (codes "connectorId") (holds_connector 0) (λ c. c.connector_id)
      (must (codes "expiryDate") holds_moment (λ c. c.expiry_date)
      (must (codes "idTag") holds_id_tag (λ c. c.id_tag)
      (may (codes "parentIdTag") holds_id_tag (λ c. c.parent_id_tag)
      (must (codes "reservationId") holds_number_of_32_bits (λ c. c.reservation_id)
      end))));
  make = λ connector expiry tag parent reservation. record {
    connector_id = connector;
    expiry_date = expiry;
    id_tag = tag;
    parent_id_tag = parent;
    reservation_id = reservation;
  };
}

-- Reset.req
abbrev pub reset : Form Reset
reset = record {
  table =
      must (codes "type") (holds_name reset_types reset_type_name) (λ c. c.kind)
      end;
  make = λ kind. record { kind = kind };
}

-- TriggerMessage.req
abbrev pub trigger_message : Form TriggerMessage
trigger_message = record {
  table =
      must (codes "requestedMessage") (holds_name message_triggers message_trigger_name) (λ c. c.requested_message)
      (may (codes "connectorId") (holds_connector 1) (λ c. c.connector_id)
      end);
  make = λ message connector. record { requested_message = message; connector_id = connector };
}

-- UnlockConnector.req
abbrev pub unlock_connector : Form UnlockConnector
unlock_connector = record {
  table =
      must (codes "connectorId") (holds_connector 1) (λ c. c.connector_id)
      end;
  make = λ connector. record { connector_id = connector };
}
