use Rattle.std.proofs.Common.{◌≡◌, List, ℕ, Some, subst, sym}
use Rattle.hub_events.specs.declared.event.What.TheVariants.{Frame}
use Rattle.serde_json.specs.Data.{string}
use Rattle.serde_json.specs.Read.{read}
use Rattle.std.specs.Prelude.{string_bytes}
use Rattle.lines.specs.Forms.{what_of}
use Rattle.lines.proofs.JournalLaws.{frame_said, quoted_said}
use Rattle.lines.proofs.journal.frame_text.Goals as goal

pub returns-then-has_break-clause-said : goal.returns-then-has_break-clause-said
returns-then-has_break-clause-said c plain =
    let text = c.in_ok-text.ensures in
    let line = c.in_ok-format.ensures in
    let read_again = subst (λ (t : List ℕ). read (string_bytes c.in_ok-text.text) ≡ Some (string t)) c.as_str-then-has_break.ensures text.read in
    subst (λ (t : List ℕ). what_of t ≡ Some (Frame c.args.station.now c.args.text.now)) (sym line.ok) (quoted_said c.args.station.now c.args.text.now _ plain read_again)

pub returns-clause-said : goal.returns-clause-said
returns-clause-said c plain =
    let line = c.in_ok-format-2.ensures in
    subst (λ (t : List ℕ). what_of t ≡ Some (Frame c.args.station.now c.args.text.now)) (sym line.ok) (frame_said c.args.station.now c.args.text.now plain)
