use Rattle.std.proofs.Common.{refl, ap, sym, ◌∙◌}
use Rattle.std.specs.Str.{bytes_eq}
use Rattle.hub_rows.specs.declared.tag_row.TagRow.{TagRow}
use Rattle.hub_rows.specs.Keyed.{without}
use Rattle.hub_rows.specs.Rows.{tag_key, tag_rest}
use Rattle.store_mem.proofs.GroupLaws.{set-without, without-none}
use Rattle.store_mem.proofs.tags.drop_tag.Goals as goal

pub returns-in-Ok-clause-groups : goal.returns-in-Ok-clause-groups
returns-in-Ok-clause-groups c =
    let at = (rw c.as_slice.ensures.value at c.in-Ok.ensures) in
    let row = c.index_mut.ensures.value ∙ at.here c.index_mut.result.now in
    let b = c.args.op.now in
    let is : TagRow → _ = (λ r. bytes_eq r.key c.args.key.now) in
    (set-without tag_key (λ r. r.op) tag_rest (λ r. refl) b c.args.groups.now.items c.in-Ok.place c.requires at (record { name = c.index_mut.result.now.name; rows = c.remove_row.new.rows })
    (ap (λ s. s.name) row) is (c.remove_row.ensures ∙ ap (λ s. without (λ r. r.op) b is s.rows.items) row)).0

pub returns-in-Ok-clause-rows : goal.returns-in-Ok-clause-rows
returns-in-Ok-clause-rows c =
    let at = (rw c.as_slice.ensures.value at c.in-Ok.ensures) in
    let row = c.index_mut.ensures.value ∙ at.here c.index_mut.result.now in
    let b = c.args.op.now in
    let is : TagRow → _ = (λ r. bytes_eq r.key c.args.key.now) in
    (set-without tag_key (λ r. r.op) tag_rest (λ r. refl) b c.args.groups.now.items c.in-Ok.place c.requires at (record { name = c.index_mut.result.now.name; rows = c.remove_row.new.rows })
    (ap (λ s. s.name) row) is (c.remove_row.ensures ∙ ap (λ s. without (λ r. r.op) b is s.rows.items) row)).1

pub returns-in_default-clause-rows : goal.returns-in_default-clause-rows
returns-in_default-clause-rows c =
    let gap = (rw c.as_slice.ensures.value at c.in_default.ensures) in
    let is : TagRow → _ = (λ r. bytes_eq r.key c.args.key.now) in
    sym (without-none tag_key (λ r. r.op) tag_rest (λ r. refl) c.args.op.now c.args.groups.now.items c.in_default.field-0 c.requires gap is)
