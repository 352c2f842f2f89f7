-- What is written holds no float, so it is written as its compact text.
use Rattle.std.specs.Prelude.{◌≡◌, false, Result, Ok, Err, IfOk}
use Rattle.std.proofs.Common.{◌∙◌, ap}
use Rattle.serde_json.specs.Data.{Data}
use Rattle.serde_json.specs.Written.{has_float}
use Rattle.ocpp_payload.specs.declared.fault.FieldFault.{FieldFault}
use Rattle.ocpp_payload.specs.Kind.{◌>>=◌}
use Rattle.ocpp_payload.specs.Table.{Form, read_by, written, written_plain}
use Rattle.operator_cmds.specs.Answer as replies
use Rattle.operator_cmds.specs.Answer.{Reply, known_members, by_reply, reply}
use Rattle.operator_cmds.specs.Command.{Message, by, data_of, message, command_data}
use Rattle.operator_cmds.specs.declared.command.Command.{Command}

message_no_float : (m : Message) → has_float (data_of m) ≡ false
message_no_float (by form c) = written_plain form c

pub command_no_float : (c : Command) (d : Data) → d ≡ command_data c → has_float d ≡ false
command_no_float c d is = ap has_float is ∙ message_no_float (message c)

as_sent_no_float : {A : Type 0} → (form : Form A) (read : Result A FieldFault) (p : Data) → Ok p ≡ (read >>= (λ a. Ok (written form a))) → has_float p ≡ false
as_sent_no_float form (Ok a) p is =
    let same : p ≡ written form a = cc in
    ap has_float same ∙ written_plain form a
as_sent_no_float form (Err f) p is = absurd (cc)

by_reply_no_float : (r : Reply) (d p : Data) → Ok p ≡ by_reply r d → has_float p ≡ false
by_reply_no_float (replies.by form) d p is = as_sent_no_float form (read_by form d) p is

pub answer_no_float : (c : Command) (d : Data) (r : Result Data FieldFault) → r ≡ known_members c d → IfOk r (λ p. has_float p ≡ false)
answer_no_float c d (Ok p) is = by_reply_no_float (reply c) d p is
answer_no_float c d (Err f) is = tt
