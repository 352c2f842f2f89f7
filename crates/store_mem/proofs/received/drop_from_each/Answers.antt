use Rattle.std.proofs.Common.{◌≡◌, ◌++◌, refl, length, take, drop, arith, ap, subst, ◌∙◌}
use Rattle.std.proofs.Math.Seq.{take-append_seam}
use Rattle.store_mem.specs.Groups.{all_of}
use Rattle.store_mem.specs.Received.{receiver_key, receiver_rest, is_of}
use Rattle.store_mem.proofs.DroppedLaws.{AreDropped, next-item, all-dropped}
use Rattle.store_mem.proofs.received.drop_from_each.Goals as goal

pub loop-group-preserved : goal.loop-group-preserved
loop-group-preserved c =
    let l = c.loop-group in
    next-item receiver_key (λ r. r.grant.to) receiver_rest (λ r. refl) (is_of c.args.key.now c.args.op.now) c.args.groups.now.items l.group-items l.group-index c.group-item.result c.drop_from.new.group
    l.invariant (omega (arith, c.loop-group-test.true)) c.drop_from.ensures.name c.drop_from.ensures.rows

pub returns-clause-rows : goal.returns-clause-rows
returns-clause-rows c =
    let l = c.loop-group in
    let old = c.args.groups.now.items in
    let is = is_of c.args.key.now c.args.op.now in
    let at_end : l.group-index ≡ length l.group-items = omega (arith, c.loop-group-test.false, l.auto.group-index-end, l.auto.group-items) in
    let whole : c.args.groups.now.len ≡ length l.group-items = omega (arith, l.auto.group-items, c.deref_mut-group-items.ensures.len) in
    ap all_of (ap (λ n. take n (l.group-items ++ drop (length l.group-items) old)) whole ∙ take-append_seam l.group-items (drop (length l.group-items) old))
    ∙ all-dropped receiver_key (λ r. r.grant.to) receiver_rest (λ r. refl) is old l.group-items
    (subst (AreDropped receiver_key (λ r. r.grant.to) receiver_rest (λ r. refl) is old l.group-items) at_end l.invariant)
