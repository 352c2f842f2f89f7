use Rattle.std.proofs.Common.{Some, ap, sym, ◌∙◌}
use Rattle.std.specs.Option.{option_map}
use Rattle.hub_rows.specs.Grants.{granted_until}
use Rattle.hub_rows.specs.Tags.{own_tag_in}
use Rattle.store_mem.specs.Groups.{all_of}
use Rattle.store_mem.proofs.granted.info_by.Goals as goal

pub returns-in_default : goal.returns-in_default
returns-in_default c =
    let g = c.args.grant.now in
    let info = c.in_ok-info.ensures ∙ ap (λ o. own_tag_in o g.key (all_of c.args.tags.now.groups.items)) c.as_str.ensures in
    ap (option_map (granted_until g.op g.until)) (sym c.in_default.is ∙ info)

pub returns : goal.returns
returns c =
    let g = c.args.grant.now in
    let info = c.in_ok-info.ensures ∙ ap (λ o. own_tag_in o g.key (all_of c.args.tags.now.groups.items)) c.as_str.ensures in
    ap Some (c.granted.ensures ∙ ap (λ o. granted_until o g.until c.in-Some.info) c.in_ok-owner.ensures.cases) ∙ ap (option_map (granted_until g.op g.until)) (sym c.in-Some.is ∙ info)
