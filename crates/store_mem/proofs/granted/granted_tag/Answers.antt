use Rattle.std.proofs.Common.{◌≡◌, IfOk, find, ap, sym, subst, ◌∙◌}
use Rattle.std.specs.Option.{option_map}
use Rattle.std.specs.Str.{bytes_eq}
use Rattle.hub_rows.specs.Keyed.{own}
use Rattle.store_mem.specs.Groups.{all_of}
use Rattle.store_mem.proofs.GrantedLaws.{granted_tag-some, granted_tag-none}
use Rattle.store_mem.proofs.granted.granted_tag.Goals as goal

pub returns-in-Some : goal.returns-in-Some
returns-in-Some c =
    let a = c.args.op.now in
    let key = c.args.key.now in
    let tags = all_of c.args.tags.now.groups.items in
    let grants = c.args.grants.now in
    let rows = c.rows_of_group-rows.ensures.rows ∙ ap (λ gs. own (λ r. r.grant.to) a (all_of gs)) c.deref.ensures.value in
    let first = ap (λ rs. find (λ r. bytes_eq r.grant.key key) rs) (sym rows) ∙ sym c.first_of_key.ensures ∙ ap (option_map (λ r. r.now)) c.in-Some.is in
    subst (λ t. IfOk c.info_by.result (λ i. i ≡ t)) (sym (granted_tag-some a key tags (all_of grants.received.items) (all_of grants.given.items) grants.same c.requires c.in-Some.first.now first)) c.info_by.ensures

pub returns-in-None : goal.returns-in-None
returns-in-None c =
    let a = c.args.op.now in
    let key = c.args.key.now in
    let tags = all_of c.args.tags.now.groups.items in
    let grants = c.args.grants.now in
    let rows = c.rows_of_group-rows.ensures.rows ∙ ap (λ gs. own (λ r. r.grant.to) a (all_of gs)) c.deref.ensures.value in
    let first = ap (λ rs. find (λ r. bytes_eq r.grant.key key) rs) (sym rows) ∙ sym c.first_of_key.ensures ∙ ap (option_map (λ r. r.now)) c.in-None.is in
    sym (granted_tag-none a key tags (all_of grants.received.items) (all_of grants.given.items) grants.same c.requires first)
