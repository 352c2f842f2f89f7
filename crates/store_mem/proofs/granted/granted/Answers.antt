use Rattle.std.proofs.Common.{◌≡◌, IfOk, ap, subst, ◌∙◌}
use Rattle.std.specs.List.{filter_map}
use Rattle.hub_rows.specs.Grants.{entry_by}
use Rattle.hub_rows.specs.Keyed.{own}
use Rattle.store_mem.specs.Groups.{all_of}
use Rattle.store_mem.proofs.GrantedLaws.{granted-received}
use Rattle.store_mem.proofs.granted.granted.Goals as goal

pub returns : goal.returns
returns c =
    let a = c.args.op.now in
    let tags = all_of c.args.tags.now.groups.items in
    let grants = c.args.grants.now in
    let rows = c.rows_of_group.ensures.rows ∙ ap (λ gs. own (λ r. r.grant.to) a (all_of gs)) c.deref.ensures.value in
    subst (λ xs. IfOk c.entries_by.result (λ l. l ≡ xs))
    (ap (filter_map (λ r. entry_by tags r.grant)) rows ∙ granted-received a tags (all_of grants.received.items) (all_of grants.given.items) grants.same) c.entries_by.ensures
