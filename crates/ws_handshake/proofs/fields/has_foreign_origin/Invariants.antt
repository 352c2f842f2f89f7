use Rattle.std.proofs.Common.{◌≡◌, drop}
use Rattle.websocket.specs.Headers.{fields_of}
use Rattle.ws_handshake.specs.Heads.{has_foreign_origin}
use Rattle.ws_handshake.proofs.fields.has_foreign_origin.Given as goal

abbrev pub invariant-loop-field : goal.invariant-loop-field
invariant-loop-field l =
    has_foreign_origin l.origins (fields_of l.head l.fields) ≡ has_foreign_origin l.origins (fields_of l.head (drop l.field-index l.fields))
