use Rattle.std.proofs.Common.{◌∙◌, arith, refl, sym}
use Rattle.sqlite.specs.Held.{state}
use Rattle.sql_rows.proofs.StoreLemmas.{open_is_clean}
use Rattle.sql_edits.proofs.BatchLaws.{not_over, ran_begin}
use Rattle.sql_edits.proofs.batches.begin.Goals as goal

pub returns-then-not-is_autocommit : goal.returns-then-not-is_autocommit
returns-then-not-is_autocommit g c =
    let s = state g.S.Store c.args.conn.now in
    let begun = not_over s.in_transaction (sym c.is_autocommit.ensures.value ∙ c.if-not-is_autocommit.true) in
    record {
      begins = record {
        leaves = λ serves up. record { was_open = up; now = refl; committed = refl; batch = record { serves = serves up; begun = begun } };
        stops = λ serves. record { stops = record { clean = omega arith; leaves = λ up sure db left. left }; up = λ up sure. up };
      };
    }

pub returns : goal.returns
returns g c = record {
  begins = ran_begin c.execute.result c.done.result c.execute.ensures.runs c.execute.ensures.survives (open_is_clean _ _ (g.met.S.Store.shut_if_dirty c.execute.new.self.store)) c.done.ensures.ok c.done.ensures.err;
}
