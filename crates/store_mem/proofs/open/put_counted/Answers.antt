use Rattle.std.proofs.Common.{List, cond, ◌&&◌, ap, sym, ◌∙◌}
use Rattle.std.specs.Str.{bytes_eq}
use Rattle.hub_rows.specs.Keyed.{by_key, put}
use Rattle.store_mem.specs.declared.open.OpenRow.{OpenRow}
use Rattle.store_mem.specs.NamedGroups.{rows_at}
use Rattle.store_mem.specs.Open.{open_key}
use Rattle.store_mem.proofs.OpenLaws.{and_false}
use Rattle.store_mem.proofs.open.put_counted.Goals as goal

pub returns-then-counts-clause-rows : goal.returns-then-counts-clause-rows
returns-then-counts-clause-rows c = λ b n.
    let rows : List OpenRow = rows_at b n c.args.opens.now.items in
    c.put_at.ensures.rows b n ∙ (λ i. cond (bytes_eq c.args.op.now b && (sym c.if-counts.true i && bytes_eq c.args.key.now n)) (put (by_key open_key) c.args.row rows) rows)

pub returns-else-counts-clause-rows : goal.returns-else-counts-clause-rows
returns-else-counts-clause-rows c = λ b n.
    let rows : List OpenRow = rows_at b n c.args.opens.now.items in
    sym (ap (λ t. cond (bytes_eq c.args.op.now b && (t && bytes_eq c.args.key.now n)) (put (by_key open_key) c.args.row rows) rows) c.if-counts.false
    ∙ ap (λ t. cond t (put (by_key open_key) c.args.row rows) rows) (and_false (bytes_eq c.args.op.now b)))
