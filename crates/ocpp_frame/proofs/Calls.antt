-- A text that is a call, token by token.
use Rattle.std.proofs.Common.{◌≡◌, ℕ, ◌-◌, ◌<◌, List, [], ◌∷◌, length, Some, None, option_map, unwrap_or, refl, ap, sym, ◌∙◌, arith}
use Rattle.json.specs.Token.{Token}
use Rattle.json.specs.Lex.{tokens}
use Rattle.json.specs.Json.{value, items, parse_map, after_end_array}
use Rattle.json.proofs.Grammar.{value_is, value-begin_array}
use Rattle.serde_json.specs.Data.{Data, number, unsigned, string, array, item}
use Rattle.serde_json.specs.Read.{of_json, converted, number_of}
use Rattle.serde_json.proofs.OnLiterals.{serde_json_on_literals}
use Rattle.ocpp_frame.specs.declared.frame.Frame.TheVariants.{Ignored}
use Rattle.ocpp_frame.specs.Frame.{frame, frame_of, call_with, payload_of}
use Rattle.json_data.proofs.Reading.{converted-array, item_read, items_over, whole_read}

two : number_of (50 ∷ []) ≡ Some (unsigned 2)
unfolding serde_json_on_literals
two = refl

-- a value doesn't begin with the end of an array
begins_value : (ts r : List Token) (d : Data) → converted of_json (value 126 ts) ≡ Some (d, r) → after_end_array ts ≡ None
begins_value [] r d e = refl
begins_value (Token.begin_object ∷ ts) r d e = refl
begins_value (Token.end_object ∷ ts) r d e = refl
begins_value (Token.begin_array ∷ ts) r d e = refl
begins_value (Token.end_array ∷ ts) r d e = let none = ap (converted of_json) (value_is 126 (Token.end_array ∷ ts)) in absurd (cc)
begins_value (Token.key s ∷ ts) r d e = refl
begins_value (Token.string s ∷ ts) r d e = refl
begins_value (Token.number s ∷ ts) r d e = refl
begins_value (Token.boolean b ∷ ts) r d e = refl
begins_value (Token.null ∷ ts) r d e = refl
begins_value (Token.bad ∷ ts) r d e = refl

pub call_of_tokens : (text id action : List ℕ) (payload : Data) (rest after : List Token)
    → tokens text ≡ Token.begin_array ∷ Token.number (50 ∷ []) ∷ Token.string id ∷ Token.string action ∷ rest
    → converted of_json (value 126 rest) ≡ Some (payload, after) → length after < length rest → after_end_array after ≡ Some []
    → call_with id (Some action) (payload_of payload) ≡ frame text
call_of_tokens text id action payload rest after is read shorter end =
    let p = value 126 in
    let ts2 = Token.string action ∷ rest in
    let ts1 = Token.string id ∷ ts2 in
    let ts0 = Token.number (50 ∷ []) ∷ ts1 in
    let n = length ts0 in
    let kind : converted of_json (p ts0) ≡ Some (number (unsigned 2), ts1) = ap (converted of_json) (value_is 126 ts0) ∙ ap (λ o. option_map (λ b. (b, ts1)) (option_map number o)) two in
    let first : converted of_json (p ts1) ≡ Some (string id, ts2) = ap (converted of_json) (value_is 126 ts1) in
    let second : converted of_json (p ts2) ≡ Some (string action, rest) = ap (converted of_json) (value_is 126 ts2) in
    let opened = ap (converted of_json) (value-begin_array 127 ts0 (omega arith)) ∙ converted-array (items (value (127 - 1)) n ts0) in
    let turns = item_read p n ts0 ts1 (number (unsigned 2)) (omega arith) refl kind
    ∙ ap (parse_map (item (number (unsigned 2)))) (item_read p (n - 1) ts1 ts2 (string id) (omega arith) refl first
    ∙ ap (parse_map (item (string id))) (item_read p (n - 1 - 1) ts2 rest (string action) (omega arith) refl second
    ∙ ap (parse_map (item (string action))) (item_read p (n - 1 - 1 - 1) rest after payload (omega arith) (begins_value rest after payload read) read
    ∙ ap (parse_map (item payload)) (items_over p (n - 1 - 1 - 1 - 1) after [] (omega (arith, shorter)) end)))) in
    let whole = opened ∙ ap (parse_map array) turns in
    let read_all = whole_read (value 127 (tokens text)) _ (ap (λ ts. converted of_json (value 127 ts)) is ∙ whole) in
    sym (ap (λ r. unwrap_or (option_map frame_of r) Ignored) read_all)
