-- A repaired request is one that the strict reader takes when it is written down.
use Rattle.std.proofs.Common.{◌≡◌, ℕ, List, Option, Some, None, Result, Ok, Err, option_and_then, refl}
use Rattle.serde_json.specs.Data.{Data}
use Rattle.serde_json.specs.Read.{read}
use Rattle.ocpp_payload.specs.Request.{request}
use Rattle.ocpp_payload.specs.declared.action.Action.{Action}
use Rattle.ocpp_payload.specs.declared.fault.FieldFault.{FieldFault}
use Rattle.ocpp_payload.specs.declared.request.Request.{Request}
use Rattle.repairs.specs.Tolerant.{repaired_text, request_in, second_reading, after_second, IsWritten}

module _ (action : Action) (moment : ℕ) (text : List ℕ) (d : Data) (fault : FieldFault) (refused : request action d ≡ Err fault) where
  written-by : (o : Option (List ℕ)) (r : Option Data) (s : Result Request FieldFault) → repaired_text action moment text ≡ o → option_and_then read o ≡ r → request_in action fault r ≡ s
      → IsWritten action moment text d (after_second fault s)
  written-by o r (Err left) e f g = tt
  written-by o None (Ok q) e f g = absurd (cc)
  written-by None (Some e2) (Ok q) e f g = absurd (cc)
  written-by (Some p) (Some e2) (Ok q) e f g = (p, e2, e, f, g, refused)

  pub after_second-written : IsWritten action moment text d (after_second fault (second_reading action moment text fault))
  after_second-written = written-by (repaired_text action moment text) _ (second_reading action moment text fault) refl refl refl
