use Rattle.std.proofs.Common.{◌≤◌, ℕ, subst}
use Rattle.hub_events.specs.declared.event.Event.{Event}
use Rattle.lines.specs.Journal.{Stands}
use Rattle.ocpp_types.specs.Moment.{last_moment}
use Rattle.lines.proofs.JournalFeeds.{line_one, tick_one}
use Rattle.lines.proofs.JournalLaws.{line_read, tick_read}
use Rattle.lines.proofs.journal.journal_line.Goals as goal

pub returns-in_ok-format-in-Tick-clause-read : goal.returns-in_ok-format-in-Tick-clause-read
returns-in_ok-format-in-Tick-clause-read c is_hosted stands =
    let seconds = c.seconds-seconds.ensures in
    let line = c.in_ok-format-in-Tick.ensures in
    let within = subst (λ (n : ℕ). n ≤ last_moment) seconds.value seconds.within in
    rw c.in-Tick.is (rw line.ok (rw seconds.value (tick_read is_hosted c.in-Tick.moment within)))

pub returns-in_ok-format-in-At-clause-read : goal.returns-in_ok-format-in-At-clause-read
returns-in_ok-format-in-At-clause-read c is_hosted stands =
    let seconds = c.seconds-seconds-in-At.ensures in
    let text = c.in_ok-text-in-At.ensures in
    let line = c.in_ok-format-in-At.ensures in
    let within = subst (λ (n : ℕ). n ≤ last_moment) seconds.value seconds.within in
    let stood = subst (λ (e : Event). Stands is_hosted e c.args.order.now) c.in-At.is stands in
    let said = text.said c.in-At.op c.in-At.moment stood.says in
    rw c.in-At.is (rw line.ok (rw seconds.value (line_read is_hosted c.in-At.moment c.in-At.op _ c.in-At.what within stood.hosted stood.name said)))

pub returns-in_ok-format-in-Tick-clause-one : goal.returns-in_ok-format-in-Tick-clause-one
returns-in_ok-format-in-Tick-clause-one c is_hosted stands =
    let seconds = c.seconds-seconds.ensures in
    let line = c.in_ok-format-in-Tick.ensures in
    let within = subst (λ (n : ℕ). n ≤ last_moment) seconds.value seconds.within in
    rw line.ok (rw seconds.value (tick_one c.in-Tick.moment within))

pub returns-in_ok-format-in-At-clause-one : goal.returns-in_ok-format-in-At-clause-one
returns-in_ok-format-in-At-clause-one c is_hosted stands =
    let seconds = c.seconds-seconds-in-At.ensures in
    let text = c.in_ok-text-in-At.ensures in
    let line = c.in_ok-format-in-At.ensures in
    let within = subst (λ (n : ℕ). n ≤ last_moment) seconds.value seconds.within in
    let stood = subst (λ (e : Event). Stands is_hosted e c.args.order.now) c.in-At.is stands in
    rw line.ok (rw seconds.value (rw text.text (line_one is_hosted c.in-At.moment c.in-At.op c.args.order.now c.in-At.what within stood)))
