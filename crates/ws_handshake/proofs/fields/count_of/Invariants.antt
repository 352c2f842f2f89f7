use Rattle.std.proofs.Common.{◌≡◌, ◌+◌, ◌≤◌, drop}
use Rattle.websocket.specs.Headers.{fields_of}
use Rattle.ws_handshake.specs.Heads.{count_of}
use Rattle.ws_handshake.proofs.fields.count_of.Given as goal

abbrev pub invariant-loop-field : goal.invariant-loop-field
invariant-loop-field l =
    (count_of l.name (fields_of l.head l.fields) ≡ l.count + count_of l.name (fields_of l.head (drop l.field-index l.fields)))
    × (l.count ≤ l.field-index)
