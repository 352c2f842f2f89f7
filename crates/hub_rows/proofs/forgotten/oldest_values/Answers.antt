use Rattle.std.proofs.Common.{ap, length, subst, sym, take, ◌∙◌, ◌≤◌}
use Rattle.hub_rows.specs.Forgetting.{until_readings}
use Rattle.hub_rows.proofs.ForgetLaws.{until-few, until-front}
use Rattle.hub_rows.proofs.forgotten.oldest_values.Goals as goal

pub split_at-requires : goal.split_at-requires
split_at-requires c = subst (λ n. n ≤ length c.oldest-rows.result.now) (sym c.count_until.ensures) (until-few 1000 c.oldest-rows.result.now)

pub returns : goal.returns
returns c =
    c.split_at.ensures.front
    ∙ ap (λ n. take n c.oldest-rows.result.now) c.count_until.ensures
    ∙ until-front 1000 c.oldest-rows.result.now
    ∙ ap (until_readings 1000) c.oldest-rows.ensures
