use Rattle.std.proofs.Common.{◌≡◌, ◌<◌, drop}
use Rattle.std.specs.List.{fold}
use Rattle.ws_peers.specs.Routes.{mixed as mixed_key}
use Rattle.ws_peers.proofs.keys.mix.Given as goal

abbrev pub invariant-loop-byte : goal.invariant-loop-byte
invariant-loop-byte l = record {
  value : fold mixed_key l.mixed (drop l.byte-index l.byte-items) ≡ fold mixed_key l.fn.key l.fn.text;
  bound : l.mixed < 4_294_967_291;
}
