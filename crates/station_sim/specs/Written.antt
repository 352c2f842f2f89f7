-- The text of a message.
use Rattle.std.specs.Prelude.{◌≡◌, ℕ, List, Option, Some, None, false}
use Rattle.serde_json.specs.Data.{Data, null}
use Rattle.serde_json.specs.Written.{compact_text, has_float}
use Rattle.ocpp_frame.specs.Frame.{frame}
use Rattle.ocpp_payload.specs.declared.action.Action.{Action}
use Rattle.ocpp_frame.specs.Written.{call_data, result_data, error_data, IsPayload}
use Rattle.ocpp_frame.specs.declared.frame.Frame.{Frame}
use Rattle.ocpp_frame.specs.declared.frame.Frame.TheVariants.{Call, CallResult, CallError, Broken, Ignored}

-- a message as JSON; a broken one and an ignored one are never written
abbrev pub json_of : Frame → Data
json_of (Call id action payload) = call_data id action payload
json_of (CallResult id payload) = result_data id payload
json_of (CallError id code description) = error_data id code description
json_of (Broken id) = null
json_of Ignored = null

-- the compact text of a message, which reads as that message
pub record IsTextOf (f : Frame) (text : List ℕ) : Type 0 where
  pub compact : text ≡ compact_text (json_of f)
  pub read : frame text ≡ f

-- a text where there is a message to write, and none where there is none
abbrev pub IsWritten : Option Frame → Option (List ℕ) → Type 0
IsWritten None None = Unit {0}
IsWritten (Some f) (Some text) = IsTextOf f text
IsWritten None (Some text) = ⊥
IsWritten (Some f) None = ⊥

-- a payload that is written as its compact text, and read again
pub record IsWritable (d : Data) : Type 0 where
  pub plain : has_float d ≡ false
  pub payload : IsPayload d

-- the payload of a call, if there is one
abbrev pub AreWritable : Option (Action × Data) → Type 0
AreWritable None = Unit {0}
AreWritable (Some call) = IsWritable call.1
