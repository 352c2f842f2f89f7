use Rattle.std.proofs.Common.{subst, sym}
use Rattle.cached.specs.ReadingAnswers.{IsNewLast}
use Rattle.cached.proofs.ReadingLaws.{IsLastOf, last-by_added, last-by_stop}
use Rattle.cached.proofs.reading_answer.last_added.Goals as goal

pub returns-in_ok-last_of-in-TxStopped : goal.returns-in_ok-last_of-in-TxStopped
returns-in_ok-last_of-in-TxStopped c =
    let edit = c.in-TxStopped in
    let last = c.in_ok-last_of-in-TxStopped in
    subst (λ e. IsNewLast e edit.station last.field-0) (sym edit.is) (last-by_stop _ _ edit.stop _ _ _ (subst (λ vs. IsLastOf edit.first vs last.field-0) c.as_slice.ensures last.ensures))

pub returns-in_ok-last_of-in-MeterValuesAdded : goal.returns-in_ok-last_of-in-MeterValuesAdded
returns-in_ok-last_of-in-MeterValuesAdded c =
    let edit = c.in-MeterValuesAdded in
    let last = c.in_ok-last_of-in-MeterValuesAdded in
    subst (λ e. IsNewLast e edit.station last.field-0) (sym edit.is) (last-by_added _ _ _ _ (subst (λ vs. IsLastOf edit.first vs last.field-0) c.as_slice-in-MeterValuesAdded.ensures last.ensures))
