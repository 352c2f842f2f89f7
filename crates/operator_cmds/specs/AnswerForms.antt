-- The answers to commands, each by the table of its members (OCPP 1.6, section 6).
use Rattle.std.specs.Prelude.{ℕ, List, codes}
use Rattle.ocpp_types.specs.DataTransferStatus.{data_transfer_status_name, data_transfer_statuses}
use Rattle.ocpp_payload.specs.Kind.{any_text, text}
use Rattle.ocpp_payload.specs.Holds.{holds_boolean, holds_int_32, holds_list, holds_name, holds_text}
use Rattle.ocpp_payload.specs.Table.{Form, end, must, may, holds_object}
use Rattle.operator_cmds.specs.declared.answers.DataTransferAnswer.{DataTransferAnswer}
use Rattle.operator_cmds.specs.declared.answers.GetConfigurationAnswer.{GetConfigurationAnswer}
use Rattle.operator_cmds.specs.declared.answers.GetLocalListVersionAnswer.{GetLocalListVersionAnswer}
use Rattle.operator_cmds.specs.declared.answers.KeyValue.{KeyValue}
use Rattle.operator_cmds.specs.declared.answers.Status.{Status}

-- a status alone
abbrev pub status_of : {E : Type 0} → List (List ℕ × E) → (E → List ℕ) → Form (Status E)
status_of names name_of = record {
  table =
      must (codes "status") (holds_name names name_of) (λ a. a.status)
      end;
  make = λ status. record { status = status };
}

-- DataTransfer.conf
abbrev pub data_transfer_answer : Form DataTransferAnswer
data_transfer_answer = record {
  table =
      must (codes "status") (holds_name data_transfer_statuses data_transfer_status_name) (λ a. a.status)
      (may (codes "data") (holds_text any_text) (λ a. a.content)
      end);
  make = λ status content. record { status = status; content = content };
}

-- an entry of a configuration
abbrev pub key_value : Form KeyValue
key_value = record {
  table =
      must (codes "key") (holds_text (text 50)) (λ k. k.key)
      (must (codes "readonly") holds_boolean (λ k. k.readonly)
      (may (codes "value") (holds_text (text 500)) (λ k. k.value)
      end));
  make = λ key readonly value. record { key = key; readonly = readonly; value = value };
}

-- GetConfiguration.conf
abbrev pub get_configuration_answer : Form GetConfigurationAnswer
get_configuration_answer = record {
  table =
      may (codes "configurationKey") (holds_list (holds_object key_value)) (λ a. a.configuration_key)
      (may (codes "unknownKey") (holds_list (holds_text (text 50))) (λ a. a.unknown_key)
      end);
  make = λ known unknown. record { configuration_key = known; unknown_key = unknown };
}

-- GetLocalListVersion.conf
abbrev pub get_local_list_version_answer : Form GetLocalListVersionAnswer
get_local_list_version_answer = record {
  table =
      must (codes "listVersion") holds_int_32 (λ a. a.list_version)
      end;
  make = λ version. record { list_version = version };
}
