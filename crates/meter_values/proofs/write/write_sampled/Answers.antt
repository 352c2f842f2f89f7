use Rattle.std.proofs.Common.{ap, ◌∙◌}
use Rattle.json.specs.Print.{print}
use Rattle.meter_values.specs.Read.{sampled_in}
use Rattle.meter_values.proofs.TokenLaws.{all_written}
use Rattle.meter_values.proofs.ReadAgain.{read_again}
use Rattle.meter_values.proofs.write.write_sampled.Goals as goal

pub returns-clause-read_back : goal.returns-clause-read_back
returns-clause-read_back c =
    let sampled = c.args.sampled.now in
    let whole = all_written c.loop-one.out.tokens c.end_array.new.self.tokens sampled c.loop-one.one-index c.loop-one-test.false c.in_ok-end_array.ensures.ok in
    ap sampled_in (c.into_text.ensures ∙ ap print (whole ∙ c.loop-one.invariant.tokens)) ∙ read_again sampled
