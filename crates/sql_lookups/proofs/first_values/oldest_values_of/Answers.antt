use Rattle.std.proofs.Common.{◌≡◌, ◌∙◌, ap, length, take}
use Rattle.hub_rows.specs.Forgetting.{oldest_values}
use Rattle.sql_lookups.proofs.ForgetLaws.{oldest_values_front}
use Rattle.sql_lookups.proofs.first_values.oldest_values_of.Goals as goal

pub returns : goal.returns
returns c =
    let count : length c.oldest_values-count.result.now ≡ length (oldest_values c.args.rows) = ap length (c.oldest_values-count.ensures ∙ ap oldest_values c.as_slice.ensures) in
    c.from.ensures ∙ c.truncate.ensures.items ∙ (λ i. take (count i) (c.into_vec-rows.ensures i)) ∙ oldest_values_front c.args.rows
