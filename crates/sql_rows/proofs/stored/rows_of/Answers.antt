use Rattle.std.proofs.Common.{rules, ◌≡◌, [], ◌∷◌, ◌++◌, ◌+◌, map, take, sym, ap, ap₂, ◌∙◌, subst}
use Rattle.std.proofs.lemmas.List.{take_more}
use Rattle.std.specs.List.Sorted.{IsStrictlySortedBy}
use Rattle.hub_rows.specs.Keyed.{by_key, put, put_all}
use Rattle.hub_rows.proofs.ListLaws.{by_key_total}
use Rattle.sql_rows.proofs.MemberLaws.{is_arranged, mapped-last}
use Rattle.sql_rows.proofs.stored.rows_of.Goals as goal

pub put_row-requires : goal.put_row-requires
put_row-requires g c =
    subst (IsStrictlySortedBy (by_key g.R.Keyed.key)) (sym c.rows.invariant) (is_arranged (by_key g.R.Keyed.key) (by_key_total g.R.Keyed.key) (map g.R.Stored.read (take c.rows.row-index c.args.rows.now)))

pub rows-preserved : goal.rows-preserved
rows-preserved g c =
    let cmp = by_key g.R.Keyed.key in
    let read = g.R.Stored.read in
    let front = take c.rows.row-index c.args.rows.now in
    let x = c.row-item.result in
    let more : take (c.rows.row-index + 1) c.args.rows.now ≡ front ++ x ∷ [] = search (rules, take_more) in
    c.in_ok-put_row.ensures.ok ∙ ap₂ (put cmp) c.in_ok-read.ensures c.rows.invariant ∙ sym (mapped-last cmp read front x) ∙ ap (λ l. put_all cmp (map read l) []) (sym more)
