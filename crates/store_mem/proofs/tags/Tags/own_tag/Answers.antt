use Rattle.std.proofs.Common.{◌≡◌, IfOk, ap, subst, ◌∙◌}
use Rattle.hub_rows.specs.Keyed.{own}
use Rattle.hub_rows.specs.Tags.{own_tag_in}
use Rattle.store_mem.specs.Groups.{all_of}
use Rattle.store_mem.proofs.GroupLaws.{own_tag-own}
use Rattle.store_mem.proofs.OwnTagLaws.{sorted-alone, own_tag-alone}
use Rattle.store_mem.proofs.tags.Tags.own_tag.Goals as goal

pub tag_of_key-requires : goal.tag_of_key-requires
tag_of_key-requires c =
    let found = c.rows_of_group.ensures in
    sorted-alone c.args.op.now c.rows_of_group.result.now found.mine found.sorted

pub returns : goal.returns
returns c =
    let b = c.args.op.now in
    let key = c.args.key.now in
    let found = c.rows_of_group.ensures in
    let tags = found.rows ∙ ap (λ gs. own (λ r. r.op) b (all_of gs)) c.deref.ensures.value in
    subst (λ t. IfOk c.tag_of_key.result (λ i. i ≡ t)) (own_tag-alone b key c.rows_of_group.result.now found.mine ∙ ap (own_tag_in b key) tags ∙ own_tag-own b key (all_of c.args.self.now.groups.items)) c.tag_of_key.ensures
