use Rattle.std.proofs.Common.{◌≡◌, ◌-◌, List, length, take, drop, true, false, rules, ap, subst, sym, ◌∙◌}
use Rattle.std.specs.List.Sorted.{IsPartitionedBy, IsPartitionPoint}
use Rattle.std.specs.Str.{bytes_eq}
use Rattle.std.proofs.lemmas.List.{take_rest}
use Rattle.std.proofs.lemmas.List.Sorted.{IsPartitionPoint-from_clause}
use Rattle.pending_calls.proofs.Ranges.{parted-from, range}
use Rattle.pending_calls.proofs.own_rows.own_rows.Goals as goal

pub returns : goal.returns
returns g c =
    let op = g.R.NamedRow.op in
    let name = g.R.NamedRow.name in
    let b = c.args.op.now in
    let rows = c.args.rows.now in
    let first = c.first_place in
    let point = c.partition_point-end in
    let rest : List _ = take (length rows - first.result) (drop first.result rows) in
    let whole : rest ≡ drop first.result rows = take_rest rows first.result in
    let parted : IsPartitionedBy (λ r. bytes_eq (op r) b) rest = subst (IsPartitionedBy (λ r. bytes_eq (op r) b)) (sym whole) (parted-from op name b rows first.result c.requires first.ensures.from) in
    let at : IsPartitionPoint (λ r. bytes_eq (op r) b ≡ true) (λ r. bytes_eq (op r) b ≡ false) rest point.result = IsPartitionPoint-from_clause (λ r. bytes_eq (op r) b) rest point.result point.ensures.partitioned parted (λ a r f' called. search rules) in
    ap (take point.result) whole
    ∙ range op name b rows first.result point.result first.ensures.before (subst (λ xs. IsPartitionPoint (λ r. bytes_eq (op r) b ≡ true) (λ r. bytes_eq (op r) b ≡ false) xs point.result) whole at)
