use Rattle.std.proofs.Common.{◌≡◌, ◌-◌, ◌≤◌, ℕ, List, length, take, subst, sym, ap, ◌∙◌, arith}
use Rattle.std.specs.Str.{IsCharBoundary}
use Rattle.std.specs.Str.Iter.{chars_rest}
use Rattle.repairs.proofs.Cut.{Passed, passed_none, passed_all, passed_boundary, passed_cut, passed_next, passed_short, none_left}
use Rattle.repairs.specs.Texts.{shortened}
use Rattle.repairs.proofs.texts.shortened.Goals as goal

pub loop-init : goal.loop-init
loop-init c = subst (Passed c.args.text.now 0) (sym c.chars-rest.ensures.rest) (passed_none c.args.text.now c.utf8.text)

pub returns-then-is_none : goal.returns-then-is_none
returns-then-is_none c =
    passed_all c.args.text.now c.loop.counter c.args.most (chars_rest c.loop.rest) c.utf8.text c.loop.invariant (omega arith)
    (none_left c.next.result _ _ _ c.next.ensures.steps.0 (cc))

pub loop-preserved : goal.loop-preserved
loop-preserved c =
    passed_next c.args.text.now c.loop.counter (chars_rest c.loop.rest) c.next.result (chars_rest c.next.new.self) _ c.loop.invariant c.next.ensures.steps.0 (cc)

pub overflow_sub-text : goal.overflow_sub-text
overflow_sub-text c =
    subst (λ (r : List ℕ). length r ≤ length c.args.text.now) (sym c.as_str.ensures) (passed_short c.args.text.now c.loop.counter (chars_rest c.loop.rest) c.loop.invariant)

pub range-requires-clause-end_boundary : goal.range-requires-clause-end_boundary
range-requires-clause-end_boundary c =
    subst (λ (r : List ℕ). IsCharBoundary c.args.text.now (length c.args.text.now - length r)) (sym c.as_str.ensures)
    (passed_boundary c.args.text.now c.loop.counter (chars_rest c.loop.rest) c.loop.invariant)

pub returns : goal.returns
returns c =
    let text = c.args.text.now in
    let all : c.loop.counter ≡ c.args.most = omega arith in
    let end : length text - length c.as_str.result.now - 0 ≡ length text - length c.as_str.result.now = omega arith in
    c.range.ensures.value ∙ ap (λ n. take n text) end ∙ ap (λ r. take (length text - length r) text) c.as_str.ensures
    ∙ passed_cut text c.loop.counter (chars_rest c.loop.rest) c.loop.invariant ∙ ap (λ n. shortened n text) all
