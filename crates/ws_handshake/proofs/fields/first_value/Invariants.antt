use Rattle.std.proofs.Common.{◌≡◌, drop}
use Rattle.websocket.specs.Headers.{fields_of, header_value}
use Rattle.ws_handshake.proofs.fields.first_value.Given as goal

abbrev pub invariant-loop-field : goal.invariant-loop-field
invariant-loop-field l =
    header_value (fields_of l.head l.fields) l.name ≡ header_value (fields_of l.head (drop l.field-index l.fields)) l.name
