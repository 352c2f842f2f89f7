-- What frame a text is.
use Rattle.std.specs.Prelude.{ℕ, ◌==◌, nat_le, List, [], if◌then◌else◌, Option, Some, None, option_map, option_and_then, unwrap_or}
use Rattle.serde_json.specs.Data.{Data, null, boolean, number, string, array, object, Items, no_items, item, no_members}
use Rattle.serde_json.specs.Find.{as_number, as_str, as_u64}
use Rattle.serde_json.specs.Read.{read}
use Rattle.ocpp_types.specs.Text.{characters}
use Rattle.ocpp_frame.specs.declared.frame.Frame.{Frame}
use Rattle.ocpp_frame.specs.declared.frame.Frame.TheVariants.{Call, CallResult, CallError, Broken, Ignored}

-- an object; null counts as the empty one
abbrev pub payload_of : Data → Option Data
payload_of null = Some (object no_members)
payload_of (boolean b) = None
payload_of (number n) = None
payload_of (string s) = None
payload_of (array ds) = None
payload_of (object ms) = Some (object ms)

-- a text; null counts as the empty one
abbrev pub description_of : Data → Option (List ℕ)
description_of null = Some []
description_of (boolean b) = None
description_of (number n) = None
description_of (string s) = Some s
description_of (array ds) = None
description_of (object ms) = None

-- a call, by its action and its payload, whose id has at most 36 characters
abbrev pub call_with : List ℕ → Option (List ℕ) → Option Data → Frame
call_with id (Some action) (Some payload) = if nat_le (characters id) 36 then Call id action payload else Broken id
call_with id (Some action) None = Broken id
call_with id None payload = Broken id

-- a call, by the items after its id
abbrev pub call : List ℕ → Items → Frame
call id no_items = Broken id
call id (item action no_items) = Broken id
call id (item action (item payload no_items)) = call_with id (as_str action) (payload_of payload)
call id (item action (item payload (item more rest))) = Broken id

-- a result, by its payload
abbrev pub result_with : List ℕ → Option Data → Frame
result_with id (Some payload) = CallResult id payload
result_with id None = Ignored

-- a result, by the items after its id
abbrev pub call_result : List ℕ → Items → Frame
call_result id no_items = Ignored
call_result id (item payload no_items) = result_with id (payload_of payload)
call_result id (item payload (item more rest)) = Ignored

-- an error, by its code and its description
abbrev pub error_with : List ℕ → Option (List ℕ) → Option (List ℕ) → Frame
error_with id (Some code) (Some description) = CallError id code description
error_with id (Some code) None = Ignored
error_with id None description = Ignored

-- an error, by the items after its id: the details may be left out, and aren't read
abbrev pub call_error : List ℕ → Items → Frame
call_error id no_items = Ignored
call_error id (item code no_items) = Ignored
call_error id (item code (item description no_items)) = error_with id (as_str code) (description_of description)
call_error id (item code (item description (item details no_items))) = error_with id (as_str code) (description_of description)
call_error id (item code (item description (item details (item more rest)))) = Ignored

-- by the message type number
abbrev pub by_kind : ℕ → List ℕ → Items → Frame
by_kind kind id rest = if kind == 2 then call id rest else (if kind == 3 then call_result id rest else (if kind == 4 then call_error id rest else Ignored))

-- by its first two items: a message has a text as its id
abbrev pub with_id : Option ℕ → Option (List ℕ) → Items → Frame
with_id (Some kind) (Some id) rest = by_kind kind id rest
with_id (Some kind) None rest = Ignored
with_id None id rest = Ignored

-- a message, by the items of its array
abbrev pub frame_of_items : Items → Frame
frame_of_items no_items = Ignored
frame_of_items (item kind no_items) = Ignored
frame_of_items (item kind (item id rest)) = with_id (option_and_then as_u64 (as_number kind)) (as_str id) rest

-- a message, as JSON
abbrev pub frame_of : Data → Frame
frame_of null = Ignored
frame_of (boolean b) = Ignored
frame_of (number n) = Ignored
frame_of (string s) = Ignored
frame_of (array ds) = frame_of_items ds
frame_of (object ms) = Ignored

-- the frame that a text is
abbrev pub frame : List ℕ → Frame
frame text = unwrap_or (option_map frame_of (read text)) Ignored
