use Rattle.std.proofs.Common.{refl, ◌&&◌, Bool, find, ap, sym, ◌∙◌, is_some}
use Rattle.std.specs.Str.{bytes_eq}
use Rattle.hub_rows.specs.declared.grant_row.GrantRow.{GrantRow}
use Rattle.hub_rows.specs.Grants.{is_grant}
use Rattle.hub_rows.specs.Keyed.{own}
use Rattle.hub_rows.specs.Rows.{grant_key, grant_rest}
use Rattle.hub_rows.proofs.ListLaws.{two_parts}
use Rattle.store_mem.specs.Groups.{all_of}
use Rattle.store_mem.proofs.GroupLaws.{found-in_own}
use Rattle.store_mem.proofs.TripleLaws.{any-found, found-place}
use Rattle.store_mem.proofs.grants.Grants.has.Goals as goal

pub returns : goal.returns
returns c =
    let b = c.args.op.now in
    let key = c.args.key.now in
    let to = c.args.to.now in
    let all = all_of c.args.self.now.given.items in
    let is : GrantRow → Bool = (λ r. bytes_eq r.op b && is_grant key to r) in
    let rows = c.rows_of_group-rows.ensures.rows ∙ ap (λ gs. own (λ r. r.op) b (all_of gs)) c.deref.ensures.value in
    c.is_ok.ensures.value
    ∙ found-place grant_key (λ r. r.op) grant_rest (λ r. refl) b key to c.rows_of_group-rows.result.now c.place_of_row.result c.place_of_row.ensures
    ∙ (λ i. is_some (find (λ r. bytes_eq r.op b && sym (two_parts r.key r.to key to) i) c.rows_of_group-rows.result.now))
    ∙ ap (λ rs. is_some (find is rs)) rows ∙ ap is_some (found-in_own (λ r. r.op) b (is_grant key to) all) ∙ sym (any-found is all)
