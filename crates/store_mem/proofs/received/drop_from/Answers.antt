use Rattle.std.proofs.Common.{sym, ◌∙◌}
use Rattle.hub_rows.specs.Keyed.{without}
use Rattle.hub_rows.proofs.ListLaws.{two_parts}
use Rattle.store_mem.proofs.received.drop_from.Goals as goal

pub returns-clause-rows : goal.returns-clause-rows
returns-clause-rows c =
    c.drop_in_group.ensures ∙ (λ i. without (λ r. r.grant.to) (c.as_str.ensures i) (λ r. sym (two_parts r.grant.key r.grant.op c.args.key.now c.args.op.now) i) c.args.group.now.rows.items)
