-- The line of each output.
use Rattle.std.specs.Prelude.{ℕ, List, ◌++◌, codes, Option, Some, None}
use Rattle.std.specs.Fmt.{decimal}
use Rattle.hub_events.specs.declared.out.Out.{Out}
use Rattle.hub_events.specs.declared.out.Outcome.{Outcome}
use Rattle.hub_events.specs.declared.out.Outcome.TheVariants as outcome
use Rattle.hub_events.specs.declared.out.Said.{Said}
use Rattle.hub_events.specs.declared.out.Said.TheVariants.{Send, Done, Turned, Repaired, Refused, Row, Accepted}
use Rattle.lines.specs.RowLines.{row_line}
use Rattle.serde_json.specs.Data.{Data, array, item, no_items, string}
use Rattle.serde_json.specs.Written.{compact_text}
use Rattle.ocpp_payload.specs.Action.{action_name}
use Rattle.ocpp_types.specs.ErrorCode.{error_code_name}
use Rattle.ocpp_types.specs.AuthorizationStatus.{authorization_status_name}
use Rattle.ocpp_types.specs.Refusal.{refusal_number, refusal_name}
use Rattle.ocpp_types.specs.declared.refusal.Refusal.{Refusal}
use Rattle.ocpp_types.specs.declared.refusal.Refusal.TheVariants.{NoSuchStation, StationExists, NoSuchTag, NoSuchOperator, SelfGrant, NoSuchGrant, NotConnected, QueueFull, NotAllowedNow, TagRefused, NoSuchTransaction, BadField, HasOpenTransactions, NoSuchReservation, NumberSpent}

-- what follows the name of a refusal
abbrev pub refusal_detail : Refusal → Option (List ℕ)
refusal_detail NoSuchStation = None
refusal_detail StationExists = None
refusal_detail NoSuchTag = None
refusal_detail NoSuchOperator = None
refusal_detail SelfGrant = None
refusal_detail NoSuchGrant = None
refusal_detail NotConnected = None
refusal_detail QueueFull = None
refusal_detail NotAllowedNow = None
refusal_detail (TagRefused status) = Some (authorization_status_name status)
refusal_detail NoSuchTransaction = None
refusal_detail (BadField field) = Some field
refusal_detail HasOpenTransactions = None
refusal_detail NoSuchReservation = None
refusal_detail NumberSpent = None

-- `OP refused NUMBER NAME`, with the detail where there is one
abbrev pub refused_line : List ℕ → Refusal → Option (List ℕ) → List ℕ
refused_line op refusal None = op ++ (codes " refused " ++ (decimal (refusal_number refusal) ++ (codes " " ++ refusal_name refusal)))
refused_line op refusal (Some detail) = op ++ (codes " refused " ++ (decimal (refusal_number refusal) ++ (codes " " ++ (refusal_name refusal ++ (codes " " ++ detail)))))

-- a code and a description as a JSON array
abbrev pub error_items : List ℕ → List ℕ → Data
error_items code description = array (item (string code) (item (string description) no_items))

-- how a call ended
abbrev pub outcome_text : Outcome → List ℕ
outcome_text (outcome.Answer json) = codes "Answer " ++ json
outcome_text (outcome.BadAnswer code field) = codes "BadAnswer " ++ (error_code_name code ++ (codes " " ++ field))
outcome_text (outcome.Error code description) = codes "Error " ++ compact_text (error_items code description)
outcome_text outcome.Timeout = codes "Timeout"
outcome_text outcome.Disconnected = codes "Disconnected"

-- what is said to an operator or a station, without a line feed
abbrev pub said_line : List ℕ → Said → List ℕ
said_line op (Send station text) = op ++ (codes " " ++ (station ++ (codes " send " ++ text)))
said_line op (Turned station) = op ++ (codes " " ++ (station ++ codes " turned"))
said_line op (Repaired station action fault) = op ++ (codes " " ++ (station ++ (codes " repaired " ++ (action_name action ++ (codes " " ++ (error_code_name fault.code ++ (codes " " ++ fault.field)))))))
said_line op (Refused refusal) = refused_line op refusal (refusal_detail refusal)
said_line op (Row r) = row_line op r
said_line op (Done station n outcome) = op ++ (codes " " ++ (station ++ (codes " done " ++ (decimal n ++ (codes " " ++ outcome_text outcome)))))
said_line op (Accepted None) = op ++ codes " ok"
said_line op (Accepted (Some n)) = op ++ (codes " ok " ++ decimal n)

-- the line of an output, without a line feed
unfoldable pub line_of : Out → List ℕ
line_of o = said_line o.op o.said
