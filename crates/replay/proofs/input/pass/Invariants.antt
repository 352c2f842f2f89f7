use Rattle.std.proofs.Common.{◌≡◌, ◌+◌, ◌<◌, ◌≤◌, true}
use Rattle.std.specs.Prelude.{vec_len}
use Rattle.std.specs.Io.KnownBytes.{IsAtEnd}
use Rattle.hub_rows.specs.Stops.{IsKept}
use Rattle.hub.specs.Hub.{hub_view, world, setting, is_clean, failures_of}
use Rattle.replay.specs.Held.{Reads}
use Rattle.replay.specs.Lines.{to_come, most_turns}
use Rattle.replay.proofs.Progress.{ProgressOf}
use Rattle.replay.proofs.Told.{ToldOf}
use Rattle.replay.proofs.Turns.{Waits}
use Rattle.replay.proofs.input.pass.Given as goal

abbrev pub invariant-loop-answers : goal.invariant-loop-answers
invariant-loop-answers g l = let st = setting g.V.VendorHandler.view l.fn.hub in record {
  within : l.lines.start ≤ vec_len l.lines.buffer;
  number : l.answers.number + most_turns l.lines ≤ l.fn.answers.number + most_turns l.fn.lines;
  was_clean : is_clean g.S.Store.view l.hub → is_clean g.S.Store.view l.fn.hub;
  count : failures_of g.S.Store.view l.fn.hub ≤ failures_of g.S.Store.view l.hub;
  waits : IsKept (hub_view g.S.Store.view l.fn.hub) → Waits st (world g.S.Store.view l.fn.hub) (to_come l.fn.lines (g.R.Read.remaining l.fn.reader)) l.fn.when (hub_view g.S.Store.view l.hub);
  told : IsKept (hub_view g.S.Store.view l.fn.hub) → ToldOf st (world g.S.Store.view l.fn.hub) l.fn.answers.number (g.W.Write.contents l.fn.writer) l.fn.answers.text.items
      (to_come l.fn.lines (g.R.Read.remaining l.fn.reader)) l.fn.when (hub_view g.S.Store.view l.hub) (g.W.Write.contents l.writer) l.answers.text.items;
  same : setting g.V.VendorHandler.view l.hub ≡ st;
  end : l.lines.ended ≡ true → (0 < l.lines.left) × IsAtEnd (g.R.Read.remaining l.reader);
  reads : Reads (g.R.Read.remaining l.fn.reader) (g.R.Read.remaining l.reader) l.fn.lines.left l.lines.left;
  progress : ProgressOf (is_clean g.S.Store.view l.hub) st (world g.S.Store.view l.fn.hub) (world g.S.Store.view l.hub)
      l.fn.answers.number l.answers.number (g.W.Write.contents l.fn.writer) (g.W.Write.contents l.writer) l.fn.answers.text.items l.answers.text.items
      (to_come l.fn.lines (g.R.Read.remaining l.fn.reader)) (to_come l.lines (g.R.Read.remaining l.reader));
}

abbrev pub decreases-loop-answers : goal.decreases-loop-answers
decreases-loop-answers g l = most_turns l.lines
