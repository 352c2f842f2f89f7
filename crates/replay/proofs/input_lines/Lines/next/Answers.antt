use Rattle.std.proofs.Common.{arith, ◌∙◌, ap, drop, length, length-append, length-drop}
use Rattle.replay.proofs.Parts.{seen_more, seen_found, seen_last, reads_both}
use Rattle.replay.proofs.input_lines.Lines.next.Goals as goal

pub returns-then-not-branch-2-clause-line : goal.returns-then-not-branch-2-clause-line
returns-then-not-branch-2-clause-line g c = λ _.
    let all = c.in_ok-take_front.ensures.open c.if-not-branch.true in
    let read = c.in_ok-read_more.ensures in
    let end = read.end c.if-not-branch-2.true in
    let seen = seen_more _ _ _ _ _ _ _ _ _ _ c.loop-self.invariant.seen all.1 all.2 read.bytes in
    rw (read.line.1, ap (λ v. v.items) read.line.0) (seen_last _ c.args.self.now.ended _ _ _ (drop c.read_more.new.self.start c.read_more.new.self.buffer.items) _ _ c.if-self.false seen end.0 end.2)

pub loop-self-preserved : goal.loop-self-preserved
loop-self-preserved g c =
    let inv = c.loop-self.invariant in
    let front = c.in_ok-take_front.ensures in
    let all = front.open c.if-not-branch.true in
    let read = c.in_ok-read_more.ensures in
    record {
      within = grind arith;
      bound = rw (read.line.1, read.line.0) front.bound;
      unended = read.ended ∙ front.ended ∙ inv.unended;
      turns = omega (arith, read.left, read.start, front.left, inv.turns, inv.within);
      seen = rw (read.line.1, ap (λ v. v.items) read.line.0, read.start) (seen_more _ _ _ _ _ _ _ _ _ _ inv.seen all.1 all.2 read.bytes);
      reads = reads_both _ _ _ _ c.loop-self.self.left _ inv.reads (record { bytes = c.read_more.new.self.buffer.items; consumes = read.bytes; count = omega (arith, c.read_more.new.self.buffer.ok.0, read.left, front.left) });
    }

pub returns-clause-line : goal.returns-clause-line
returns-clause-line g c = λ _.
    seen_found _ _ c.args.self.now.ended c.take_front.new.self.ended _ _ _ _ _ _ _ c.if-self.false (c.in_ok-take_front.ensures.ended ∙ c.loop-self.invariant.unended) c.loop-self.invariant.seen (c.in_ok-take_front.ensures.found c.if-not-branch.false)

pub returns-clause-fewer : goal.returns-clause-fewer
returns-clause-fewer g c = λ _.
    let front = c.in_ok-take_front.ensures in
    let found = front.found c.if-not-branch.false in
    let count = ap length found.1 ∙ length-append found.0 _ in
    let before = length-drop c.loop-self.self.start c.loop-self.self.buffer.items in
    let after = length-drop c.take_front.new.self.start c.take_front.new.self.buffer.items in
    rw (c.if-self.false, front.ended ∙ c.loop-self.invariant.unended)
    (omega (arith, count, front.left, front.within, c.loop-self.invariant.turns, c.loop-self.invariant.within, before, after))
