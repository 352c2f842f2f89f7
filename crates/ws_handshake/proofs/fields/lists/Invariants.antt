use Rattle.std.proofs.Common.{◌≡◌, drop}
use Rattle.websocket.specs.Headers.{fields_of}
use Rattle.ws_handshake.specs.Heads.{lists}
use Rattle.ws_handshake.proofs.fields.lists.Given as goal

abbrev pub invariant-loop-field : goal.invariant-loop-field
invariant-loop-field l =
    lists l.name l.item (fields_of l.head l.fields) ≡ lists l.name l.item (fields_of l.head (drop l.field-index l.fields))
