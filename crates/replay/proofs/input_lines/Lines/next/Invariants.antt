use Rattle.lines.specs.declared.input_line.TheConstants.{MAX_LINE}
use Rattle.std.proofs.Common.{◌≡◌, ◌+◌, ◌≤◌, false}
use Rattle.std.specs.Prelude.{vec_len}
use Rattle.replay.specs.Lines.{unread}
use Rattle.replay.specs.Held.{Reads}
use Rattle.replay.proofs.Parts.{Seen}
use Rattle.replay.proofs.input_lines.Lines.next.Given as goal

abbrev pub invariant-loop-self : goal.invariant-loop-self
invariant-loop-self g l = record {
  within : l.self.start ≤ vec_len l.self.buffer;
  bound : l.self.is_long ≡ false → vec_len l.self.line ≤ MAX_LINE;
  unended : l.self.ended ≡ false;
  turns : l.self.left + vec_len l.self.buffer + l.fn.self.start ≤ l.fn.self.left + vec_len l.fn.self.buffer + l.self.start;
  seen : Seen l.self.is_long l.self.line.items (unread l.fn.self) (unread l.self) (g.R.Read.remaining l.fn.reader) (g.R.Read.remaining l.reader);
  reads : Reads (g.R.Read.remaining l.fn.reader) (g.R.Read.remaining l.reader) l.fn.self.left l.self.left;
}

abbrev pub decreases-loop-self : goal.decreases-loop-self
decreases-loop-self g l = l.self.left
