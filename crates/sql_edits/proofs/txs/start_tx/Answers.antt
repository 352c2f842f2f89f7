use Rattle.std.proofs.Common.{ap, ◌∙◌}
use Rattle.hub_rows.specs.Reservations.{without_named}
use Rattle.hub_rows.specs.Rows.{Rows}
use Rattle.sql_rows.proofs.EditLaws.{edits_err, edits_then}
use Rattle.sql_edits.proofs.txs.start_tx.Goals as goal

pub returns : goal.returns
returns g c = record {
  edits = edits_then c.in_ok-put_started.ensures.edits c.drop_named.ensures.edits
      (λ inside up made dropped. dropped ∙ ap {A = Rows} (λ rows. record rows { reservations = without_named c.args.op.now c.args.station.now c.args.start.now.reservation rows.reservations }) made);
}

pub returns-in_err-put_started : goal.returns-in_err-put_started
returns-in_err-put_started g c = record { edits = edits_err c.in_err-put_started.ensures.edits c.from_residual.ensures.0 }
