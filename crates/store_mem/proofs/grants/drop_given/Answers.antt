use Rattle.std.proofs.Common.{refl, not, filter, ap, sym, ◌∙◌}
use Rattle.std.specs.Str.{bytes_eq}
use Rattle.hub_rows.specs.declared.grant_row.GrantRow.{GrantRow}
use Rattle.hub_rows.specs.Rows.{grant_key, grant_rest}
use Rattle.store_mem.proofs.GroupLaws.{set-without_those, without-none}
use Rattle.store_mem.proofs.grants.drop_given.Goals as goal

pub returns-in-Ok-clause-groups : goal.returns-in-Ok-clause-groups
returns-in-Ok-clause-groups c =
    let at = (rw c.as_slice.ensures.value at c.in-Ok.ensures) in
    let row = c.index_mut.ensures.value ∙ at.here c.index_mut.result.now in
    let is : GrantRow → _ = (λ r. bytes_eq r.key c.args.key.now) in
    (set-without_those grant_key (λ r. r.op) grant_rest (λ r. refl) c.args.op.now c.args.groups.now.items c.in-Ok.place c.requires at (record { name = c.index_mut.result.now.name; rows = c.drop_key.new.rows })
    (ap (λ s. s.name) row) is (c.drop_key.ensures ∙ ap (λ s. filter (λ r. not (is r)) s.rows.items) row)).0

pub returns-in-Ok-clause-rows : goal.returns-in-Ok-clause-rows
returns-in-Ok-clause-rows c =
    let at = (rw c.as_slice.ensures.value at c.in-Ok.ensures) in
    let row = c.index_mut.ensures.value ∙ at.here c.index_mut.result.now in
    let is : GrantRow → _ = (λ r. bytes_eq r.key c.args.key.now) in
    (set-without_those grant_key (λ r. r.op) grant_rest (λ r. refl) c.args.op.now c.args.groups.now.items c.in-Ok.place c.requires at (record { name = c.index_mut.result.now.name; rows = c.drop_key.new.rows })
    (ap (λ s. s.name) row) is (c.drop_key.ensures ∙ ap (λ s. filter (λ r. not (is r)) s.rows.items) row)).1

pub returns-in_default-clause-rows : goal.returns-in_default-clause-rows
returns-in_default-clause-rows c =
    let gap = (rw c.as_slice.ensures.value at c.in_default.ensures) in
    let is : GrantRow → _ = (λ r. bytes_eq r.key c.args.key.now) in
    sym (without-none grant_key (λ r. r.op) grant_rest (λ r. refl) c.args.op.now c.args.groups.now.items c.in_default.field-0 c.requires gap is)
