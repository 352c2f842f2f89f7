-- What is written is read again.
use Rattle.std.proofs.Common.{◌≡◌, ◌≤◌, ℕ, List, Some, Bool, true, false, cond, ◌||◌, option_map, unwrap_or, refl, ap, ◌∙◌, arith}
use Rattle.std.proofs.lemmas.Bool.{le-leb}
use Rattle.serde_json.specs.Data.{Data, null, boolean, number, string, array, object, depth}
use Rattle.serde_json.specs.Read.{read}
use Rattle.serde_json.specs.Written.{has_float}
use Rattle.ocpp_frame.specs.declared.frame.Frame.TheVariants.{Call, CallResult, Broken, Ignored}
use Rattle.ocpp_frame.specs.Frame.{frame, frame_of, payload_of, call_with, result_with}
use Rattle.ocpp_types.specs.Text.{characters}
use Rattle.ocpp_frame.specs.Written.{call_data, result_data, IsPayload}

payload_of-object : (d : Data) → IsPayload d → payload_of d ≡ Some d
payload_of-object null p = let none = p.object in cc
payload_of-object (boolean b) p = let none = p.object in cc
payload_of-object (number n) p = let none = p.object in cc
payload_of-object (string s) p = let none = p.object in cc
payload_of-object (array ds) p = let none = p.object in cc
payload_of-object (object ms) p = refl

pub call_again : (id action bytes : List ℕ) (d : Data) → read bytes ≡ Some (call_data id action d) → characters id ≤ 36 → IsPayload d → frame bytes ≡ Call id action d
call_again id action bytes d e short p =
    ap (λ r. unwrap_or (option_map frame_of r) Ignored) e ∙ ap (λ o. call_with id (Some action) o) (payload_of-object d p)
    ∙ ap (λ b. cond b (Call id action d) (Broken id)) (le-leb (characters id) 36 short)

pub result_again : (id bytes : List ℕ) (d : Data) → read bytes ≡ Some (result_data id d) → IsPayload d → frame bytes ≡ CallResult id d
result_again id bytes d e p =
    ap (λ r. unwrap_or (option_map frame_of r) Ignored) e ∙ ap (λ o. result_with id o) (payload_of-object d p)

pub call_depth : (id action : List ℕ) (d : Data) → IsPayload d → depth (call_data id action d) ≤ 127
call_depth id action d p = let h = p.depth in omega arith

pub result_depth : (id : List ℕ) (d : Data) → IsPayload d → depth (result_data id d) ≤ 127
result_depth id d p = let h = p.depth in omega arith

or_false : (b : Bool) → b ≡ false → b || false ≡ false
or_false true e = e
or_false false e = refl

pub call_no_float : (id action : List ℕ) (d : Data) → has_float d ≡ false → has_float (call_data id action d) ≡ false
call_no_float id action d e = or_false (has_float d) e

pub result_no_float : (id : List ℕ) (d : Data) → has_float d ≡ false → has_float (result_data id d) ≡ false
result_no_float id d e = or_false (has_float d) e

pub ruleset read_again = (call_again, result_again, call_depth, result_depth, call_no_float, result_no_float)
