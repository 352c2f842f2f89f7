use Rattle.std.proofs.Common.{◌++◌, ◌∷◌, ◌+◌, List, [], inl, refl, subst, sym, ◌∙◌}
use Rattle.hub_events.specs.declared.event.Event.{Event}
use Rattle.journal.specs.Entries.{IsCount}
use Rattle.turn_hub.specs.Journals.{BeginsLine, HasBegun, HasEvents, Journals, Notes}
use Rattle.turn_hub.proofs.Laws.{any_err, begun_only, for_journal, keeps_record}
use Rattle.turn_hub.proofs.turn_hub.TurnHub.handle.Goals as goal

pub returns-in_err-begin_line-clause-refused : goal.returns-in_err-begin_line-clause-refused
returns-in_err-begin_line-clause-refused g c = λ small. any_err c.from_residual-in_err-begin_line.result (λ is_hosted events stands was.
    c.in_err-begin_line.ensures.refused (record { events = small.events; changes = small.changes; on_record = small.on_record }) is_hosted events was)

pub returns-in_err-commit-clause-refused : goal.returns-in_err-commit-clause-refused
returns-in_err-commit-clause-refused g c = λ small. any_err c.from_residual-in_err-commit.result (λ is_hosted events stands was.
    let on_record = c.begin_line.new.self.on_record in
    for_journal (λ writer. HasBegun g.W.Write.contents is_hosted c.goes_ahead-is_ahead.result writer on_record events c.args.event.now) (λ writer. HasEvents g.W.Write.contents is_hosted writer on_record events)
    c.begin_line.new.self.journal (λ writer it. begun_only g.W.Write.contents is_hosted writer on_record events c.goes_ahead-is_ahead.result c.args.event.now it)
    (c.in_ok-begin_line.ensures.begun (record { events = small.events; changes = small.changes; on_record = small.on_record }) is_hosted events stands was))

pub returns-then-is_ahead-clause-journal : goal.returns-then-is_ahead-clause-journal
returns-then-is_ahead-clause-journal g c = λ small is_hosted events stands was. (
  events ++ (c.args.event.now ∷ []),
  inl refl,
  c.finish_change.ensures.journal (subst (λ n. IsCount (n + 1)) (sym c.begin_line.ensures.counts.0) small.on_record) is_hosted events c.args.event.now
      (subst (λ ahead. BeginsLine g.W.Write.contents is_hosted ahead c.begin_line.new.self events c.args.event.now) c.if-is_ahead.true
      (c.in_ok-begin_line.ensures.begun (record { events = small.events; changes = small.changes; on_record = small.on_record }) is_hosted events stands was)),
)

pub returns-clause-journal : goal.returns-clause-journal
returns-clause-journal g c = λ small is_hosted events stands was.
    subst (λ outs. (after : List Event) × Notes events c.args.event.now outs after × Journals g.W.Write.contents is_hosted c.finish.new.self after) c.as_slice.ensures.value
    (c.finish.ensures.journal (subst (λ n. IsCount (n + 1)) (sym (c.begin_line.ensures.counts.1 c.if-is_ahead.false)) small.events) is_hosted events
    (subst (λ ahead. BeginsLine g.W.Write.contents is_hosted ahead c.begin_line.new.self events c.args.event.now) c.if-is_ahead.false
    (c.in_ok-begin_line.ensures.begun (record { events = small.events; changes = small.changes; on_record = small.on_record }) is_hosted events stands was)))

pub returns-clause-records : goal.returns-clause-records
returns-clause-records g c = keeps_record g.S.Store.view c.args.self.now c.finish.new.self c.prepare.new.self c.begin_line.new.self.hub c.commit.new.self c.flush-when.result _ _ _
    c.begin_line.ensures.hub c.finish.ensures.hub (c.finish.ensures.mode.0 ∙ c.begin_line.ensures.mode.0) (c.finish.ensures.mode.1 ∙ c.begin_line.ensures.mode.1) c.flush-when.ensures
    c.in_ok-step.ensures.stays c.in_ok-commit.ensures.records

pub returns-in_err-begin_line-clause-left_out : goal.returns-in_err-begin_line-clause-left_out
returns-in_err-begin_line-clause-left_out g c = λ later. any_err c.from_residual-in_err-begin_line.result (c.in_err-begin_line.ensures.open (c.goes_ahead-is_ahead.ensures (c.flush-when.ensures ∙ later)))

pub returns-in_err-begin_line-clause-same_counts : goal.returns-in_err-begin_line-clause-same_counts
returns-in_err-begin_line-clause-same_counts g c = any_err c.from_residual-in_err-begin_line.result (λ n up.
    c.in_err-begin_line.ensures.few n (record { events = up.events; changes = up.changes; on_record = up.on_record }))

pub returns-in_err-commit-clause-left_out : goal.returns-in_err-commit-clause-left_out
returns-in_err-commit-clause-left_out g c = λ later. any_err c.from_residual-in_err-commit.result (c.in_ok-begin_line.ensures.open (c.goes_ahead-is_ahead.ensures (c.flush-when.ensures ∙ later)))

pub returns-in_err-commit-clause-same_counts : goal.returns-in_err-commit-clause-same_counts
returns-in_err-commit-clause-same_counts g c = any_err c.from_residual-in_err-commit.result (λ n up.
    let few = c.in_ok-begin_line.ensures.few n (record { events = up.events; changes = up.changes; on_record = up.on_record }) in
    record { events = few.events; changes = few.changes; on_record = few.on_record })

pub returns-then-is_ahead-clause-counts : goal.returns-then-is_ahead-clause-counts
returns-then-is_ahead-clause-counts g c = λ n up.
    let few = c.in_ok-begin_line.ensures.few n (record { events = up.events; changes = up.changes; on_record = up.on_record }) in
    c.finish_change.ensures.counts n (record { events = few.events; changes = few.changes; on_record = few.on_record })

pub returns-clause-counts : goal.returns-clause-counts
returns-clause-counts g c = λ n up.
    let few = c.in_ok-begin_line.ensures.few n (record { events = up.events; changes = up.changes; on_record = up.on_record }) in
    c.finish.ensures.counts n (record { events = few.events; changes = few.changes; on_record = few.on_record })
