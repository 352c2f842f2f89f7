use Rattle.std.proofs.Common.{◌∙◌, ap, ◌++◌, fold, rules, ◌≡◌}
use Rattle.std.specs.Hash.{bool, str}
use Rattle.std.specs.Hash.FoldHasher.{initial, write, finish}
use Rattle.cached.specs.Digests.{tag_digest}
use Rattle.cached.specs.TagAnswers.{is_own}
use Rattle.cached.proofs.tag_answer.digest.Goals as goal

pub returns : goal.returns
unfolding tag_digest
returns c =
    let own : c.eq-is_own.result ≡ is_own c.args.look_up = search rules in
    c.hash_one.ensures
    ∙ ap (λ h. finish (fold write h (bool c.eq-is_own.result ++ str c.args.op.now ++ str c.as_str.result.now))) c.new-hasher.ensures
    ∙ (λ i. finish (fold write initial (bool (own i) ++ str c.args.op.now ++ str (c.as_str.ensures i))))
