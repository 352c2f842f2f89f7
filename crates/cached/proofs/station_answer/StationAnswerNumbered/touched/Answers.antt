use Rattle.std.proofs.Common.{◌≡◌, ◌&&◌, ◌∙◌, false, sym, subst, IfSome}
use Rattle.std.specs.Str.{bytes_eq}
use Rattle.cached.specs.Digests.{station_digest}
use Rattle.cached.proofs.StationLaws.{apart}
use Rattle.cached.proofs.StationLaws.{kept_station}
use Rattle.cached.proofs.station_answer.StationAnswerNumbered.touched.Goals as goal

pub returns : goal.returns
returns c = λ answer differ rows right.
    let change = c.args.change.now in
    let number = c.digest.ensures ∙ (λ i. station_digest (c.as_str.ensures i) (c.as_str-2.ensures i)) in
    let other = apart answer.op answer.station change.op.now c.in_ok-station.station.now (λ same. differ (same ∙ sym number)) in
    kept_station change.op.now change.edit.now rows answer (subst (λ o. IfSome o (λ t. bytes_eq answer.op change.op.now && bytes_eq answer.station t ≡ false)) c.in_ok-station.ensures other) right
