-- The answers to the messages of `org.example.echo`.
use Rattle.std.specs.Prelude.{ℕ, List, Option, Some, None, codes, if◌then◌else◌}
use Rattle.std.specs.Str.{bytes_eq}
use Rattle.ocpp_types.specs.declared.data_transfer_status.DataTransferStatus.TheVariants.{Accepted, UnknownMessageId}
use Rattle.station_calls.specs.declared.vendor.VendorAnswer.{VendorAnswer}

abbrev pub echo_answer : Option (List ℕ) → VendorAnswer
echo_answer content = record { status = Accepted; content = content }

abbrev pub unknown_message : VendorAnswer
unknown_message = record { status = UnknownMessageId; content = None }

-- without a name, or named `echo`, the content comes back
abbrev pub echo : Option (List ℕ) → Option (List ℕ) → VendorAnswer
echo None content = echo_answer content
echo (Some message) content = if bytes_eq message (codes "echo") then echo_answer content else unknown_message
