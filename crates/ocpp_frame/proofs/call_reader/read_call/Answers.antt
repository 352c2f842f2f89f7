use Rattle.std.proofs.Common.{◌≡◌, [], ◌∷◌, Some, ◌∙◌, arith}
use Rattle.json.specs.Token.{Token}
use Rattle.json.specs.Lex.{tokens}
use Rattle.json.specs.Json.{after_end_array}
use Rattle.json_data.specs.View.{view}
use Rattle.ocpp_frame.proofs.Calls.{call_of_tokens}
use Rattle.ocpp_frame.proofs.call_reader.read_call.Goals as goal

pub returns : goal.returns
returns c =
    let id = c.in-Some-String.id.now in
    let action = c.in-Some-String-next.action.now in
    let rest = c.next-2.new.self in
    let after = c.read.new.reader in
    let is : tokens c.args.text.now ≡ Token.begin_array ∷ Token.number (50 ∷ []) ∷ Token.string id ∷ Token.string action ∷ rest = grind arith in
    let end : after_end_array after ≡ Some [] = grind arith in
    let found = call_of_tokens c.args.text.now id action (view c.in-Ok.payload) rest after is c.in-Ok.ensures.ok c.in-Ok.ensures.shorter end in
    c.call_of.ensures ∙ rw (c.in_ok-id.ensures, c.in_ok-action.ensures) found
