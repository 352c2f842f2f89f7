use Rattle.std.proofs.Common.{ap, take, ◌∙◌}
use Rattle.hub_rows.proofs.ForgetLaws.{take-least}
use Rattle.hub_rows.proofs.forgotten.oldest.Goals as goal

pub returns : goal.returns
returns g c =
    c.split_at-2.ensures.front
    ∙ ap (λ n. take n c.split_at.result.0.now) c.min.ensures
    ∙ take-least 250 c.split_at.result.0.now
    ∙ ap (take 250) (c.split_at.ensures.front ∙ ap (λ n. take n c.args.rows.now) c.saturating_sub.ensures)
