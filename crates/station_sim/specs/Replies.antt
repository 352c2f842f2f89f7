-- How the calls of the central system are answered. A reply depends on the session: on the version of its local list, and of a
-- remote start or stop on its stage, its transaction and whether a command began it.
use Rattle.std.specs.Prelude.{ℕ, List, [], ◌∷◌, codes, Bool, true, false, Option, Some, None, is_some, option_and_then, option_map, unwrap_or}
use Rattle.serde_json.specs.Data.{Data, number, unsigned, string, array, object, Num, negative, float, Items, no_items, item, no_members, member}
use Rattle.serde_json.specs.Find.{get, as_array, as_str, as_number, of_integer}
use Rattle.ocpp_frame.specs.declared.frame.Frame.{Frame}
use Rattle.ocpp_frame.specs.declared.frame.Frame.TheVariants.{Call, CallResult, CallError, Broken, Ignored}
use Rattle.ocpp_types.specs.Named.{named}
use Rattle.station_sim.specs.Remote.{start_of, stop_of}
use Rattle.station_sim.specs.declared.command.Answer.{Answer}
use Rattle.station_sim.specs.declared.command.Answer.TheVariants.{Accepted, RemoteStart, RemoteStop, Unlocked, NotImplemented, UnknownVendorId, Version, Keys}
use Rattle.station_sim.specs.declared.session.Session.{Session}
use Rattle.station_sim.specs.declared.version.ListVersion.{ListVersion}
use Rattle.station_sim.specs.declared.version.ListVersion.TheVariants.{Unsigned, Signed}

-- how each command is answered
abbrev pub commands : List (List ℕ × Answer)
commands =
    (codes "ChangeAvailability", Accepted)
    ∷ (codes "ChangeConfiguration", Accepted)
    ∷ (codes "ClearCache", Accepted)
    ∷ (codes "Reset", Accepted)
    ∷ (codes "SendLocalList", Accepted)
    ∷ (codes "ReserveNow", Accepted)
    ∷ (codes "CancelReservation", Accepted)
    ∷ (codes "RemoteStartTransaction", RemoteStart)
    ∷ (codes "RemoteStopTransaction", RemoteStop)
    ∷ (codes "UnlockConnector", Unlocked)
    ∷ (codes "TriggerMessage", NotImplemented)
    ∷ (codes "DataTransfer", UnknownVendorId)
    ∷ (codes "GetLocalListVersion", Version)
    ∷ (codes "GetConfiguration", Keys)
    ∷ []

abbrev pub status : List ℕ → Data
status text = object (member (codes "status") (string text) no_members)

-- whether a command is accepted
abbrev pub accepted_if : Bool → Data
accepted_if true = status (codes "Accepted")
accepted_if false = status (codes "Rejected")

-- an integer as it was sent
abbrev pub version_data : ListVersion → Data
version_data (Unsigned n) = number (unsigned n)
version_data (Signed z) = number (of_integer z)

-- the texts with one more in front, if the value is a text
abbrev pub text_before : Option (List ℕ) → Items → Items
text_before None ds = ds
text_before (Some text) ds = item (string text) ds

-- the texts among the items of a list
abbrev pub texts : Items → Items
texts no_items = no_items
texts (item d ds) = text_before (as_str d) (texts ds)

-- the texts of the member `key`, none where that is no list
abbrev pub keys_of : Data → Items
keys_of d = texts (unwrap_or (option_and_then as_array (get (codes "key") d)) no_items)

abbrev pub configuration : Items → Data
configuration keys =
    object (member (codes "configurationKey") (array no_items)
    (member (codes "unknownKey") (array keys)
    no_members))

-- the payload of an answer, where the session has come so far and the command has that payload
abbrev pub answer_payload : Session → Data → Answer → Data
answer_payload s payload Accepted = status (codes "Accepted")
answer_payload s payload RemoteStart = accepted_if (is_some (start_of s payload))
answer_payload s payload RemoteStop = accepted_if (is_some (stop_of s payload))
answer_payload s payload Unlocked = status (codes "Unlocked")
answer_payload s payload NotImplemented = status (codes "NotImplemented")
answer_payload s payload UnknownVendorId = status (codes "UnknownVendorId")
answer_payload s payload Version = object (member (codes "listVersion") (version_data s.version) no_members)
answer_payload s payload Keys = configuration (keys_of payload)

-- the reply to a command: its answer, or an error where it has none
abbrev pub reply_with : List ℕ → Option Data → Frame
reply_with id (Some answer) = CallResult id answer
reply_with id None = CallError id (codes "NotImplemented") []

-- the reply to a message, if it gets one
abbrev pub reply_to : Session → Frame → Option Frame
reply_to s (Call id action payload) = Some (reply_with id (option_map (answer_payload s payload) (named commands action)))
reply_to s (CallResult id payload) = None
reply_to s (CallError id code description) = None
reply_to s (Broken id) = Some (CallError id (codes "FormationViolation") [])
reply_to s Ignored = None

-- the integer that a number is, as it came
abbrev pub version_of_number : Num → Option ListVersion
version_of_number (unsigned n) = Some (Unsigned n)
version_of_number (negative z) = Some (Signed z)
version_of_number (float x) = None

-- the member `listVersion`
abbrev pub version_of : Data → Option ListVersion
version_of d = option_and_then version_of_number (option_and_then as_number (get (codes "listVersion") d))
