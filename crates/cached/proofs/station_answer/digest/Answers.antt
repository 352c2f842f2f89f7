use Rattle.std.proofs.Common.{◌∙◌, ap, ◌++◌, fold}
use Rattle.std.specs.Hash.{str}
use Rattle.std.specs.Hash.FoldHasher.{write, finish}
use Rattle.cached.specs.Digests.{station_digest}
use Rattle.cached.proofs.station_answer.digest.Goals as goal

pub returns : goal.returns
unfolding station_digest
returns c = c.hash_one.ensures ∙ ap (λ h. finish (fold write h (str c.args.op.now ++ str c.args.station.now))) c.new-hasher.ensures
