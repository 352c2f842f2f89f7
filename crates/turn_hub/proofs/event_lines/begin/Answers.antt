use Rattle.std.proofs.Common.{◌∙◌, sym, subst}
use Rattle.turn_hub.specs.Journals.{HasBegun}
use Rattle.turn_hub.proofs.Laws.{any_err, still_open}
use Rattle.turn_hub.proofs.event_lines.begin.Goals as goal

pub returns-in_ok-begin-clause-open : goal.returns-in_ok-begin-clause-open
returns-in_ok-begin-clause-open g c = λ beside is_hosted all. still_open g.W.Write.contents is_hosted c.args.journal.now c.begin.new.self c.args.on_record all (c.begin.ensures.open is_hosted) c.begin.ensures.same

pub returns-in_ok-begin-clause-begun : goal.returns-in_ok-begin-clause-begun
returns-in_ok-begin-clause-begun g c = λ events on_record is_hosted all stands was works.
    let has = was (sym c.begin.ensures.same.2 ∙ works) in
    subst (λ ahead. HasBegun g.W.Write.contents is_hosted ahead c.begin.new.self c.args.on_record all c.args.event.now) (sym c.if-is_ahead.false) (record {
      taken = has.taken;
      now = has.now;
      was = c.in_ok-begin.ensures.handling is_hosted has.taken has.now stands has.was;
      all = has.all;
      same = c.begin.ensures.same.0 ∙ has.same;
    })
