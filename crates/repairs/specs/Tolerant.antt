-- How a tolerant reader takes a request.
use Rattle.std.specs.Prelude.{◌≡◌, ⊤, ℕ, List, Option, Some, None, Result, Ok, Err, option_map, option_and_then}
use Rattle.json.specs.Find.{at}
use Rattle.json.specs.Json.{Json, document}
use Rattle.json.specs.Print.{print}
use Rattle.json.specs.Tree.{json_tokens}
use Rattle.serde_json.specs.Data.{Data}
use Rattle.serde_json.specs.Read.{read}
use Rattle.ocpp_types.specs.TimeText.{time_text}
use Rattle.ocpp_payload.specs.Request.{request}
use Rattle.ocpp_payload.specs.declared.action.Action.{Action}
use Rattle.ocpp_payload.specs.declared.fault.FieldFault.{FieldFault}
use Rattle.ocpp_payload.specs.declared.request.Request.{Request}
use Rattle.repairs.specs.Requests.{repairs}
use Rattle.repairs.specs.Tables.{by_table}
use Rattle.repairs.specs.declared.reading.Reading.{Reading}
use Rattle.repairs.specs.declared.reading.Reading.TheVariants.{AsSent, Repaired, Refused}

-- the repaired payload of a frame `[2, id, action, payload]`; `now` is the text of the moment
abbrev pub repaired : Action → List ℕ → List ℕ → Option Json
repaired action now text = option_map (by_table (repairs action now)) (option_and_then (at 3) (document text))

abbrev pub repaired_text : Action → ℕ → List ℕ → Option (List ℕ)
repaired_text action moment text = option_map (λ j. print (json_tokens j)) (repaired action (time_text moment) text)

-- what the strict reader makes of the repaired payload
abbrev pub request_in : Action → FieldFault → Option Data → Result Request FieldFault
request_in action fault None = Err fault
request_in action fault (Some d) = request action d

abbrev pub second_reading : Action → ℕ → List ℕ → FieldFault → Result Request FieldFault
second_reading action moment text fault = request_in action fault (option_and_then read (repaired_text action moment text))

abbrev pub after_second : FieldFault → Result Request FieldFault → Reading
after_second fault (Ok request) = Repaired request fault
after_second fault (Err other) = Refused other

-- the strict reader is asked first
abbrev pub after_strict : Action → ℕ → List ℕ → Result Request FieldFault → Reading
after_strict action moment text (Ok request) = AsSent request
after_strict action moment text (Err fault) = after_second fault (second_reading action moment text fault)

abbrev pub reading : Action → ℕ → List ℕ → Data → Reading
reading action moment text d = after_strict action moment text (request action d)

-- a repaired request is one that the strict reader takes of the repaired payload, written down, and not of the one that was sent
abbrev pub IsWritten : Action → ℕ → List ℕ → Data → Reading → Type 0
IsWritten action moment text d (AsSent q) = ⊤
IsWritten action moment text d (Repaired q fault) =
    (p : List ℕ) × (e : Data) × (repaired_text action moment text ≡ Some p) × (read p ≡ Some e) × (request action e ≡ Ok q) × (request action d ≡ Err fault)
IsWritten action moment text d (Refused fault) = ⊤
