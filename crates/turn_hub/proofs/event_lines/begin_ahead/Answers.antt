use Rattle.std.proofs.Common.{◌≡◌, ◌∙◌, ◌+◌, ◌∷◌, [], ℕ, min, sym, subst, arith}
use Rattle.journal.specs.Entries.{AreCounts, IsCount}
use Rattle.journal.specs.Writers.{HasTurn, IsOpen}
use Rattle.turn_hub.proofs.Laws.{any_err, below_one_more, in_file, no_count, one_count}
use Rattle.turn_hub.proofs.event_lines.begin_ahead.Goals as goal

next_is : (m n : ℕ) → m ≡ min (n + 1) 18446744073709551615 → IsCount (n + 1) → m ≡ n + 1
next_is m n is within = omega (arith, is, within)

pub returns-in_err-begin-clause-refused : goal.returns-in_err-begin-clause-refused
returns-in_err-begin-clause-refused g c = λ events on_record. any_err c.from_residual-in_err-begin.result (λ is_hosted all was works.
    let has = was c.in_ok-end_turn.ensures.works.0 in
    let turn = c.in_ok-end_turn.ensures.turn (record { number = below_one_more c.args.journal.now.events events; old = subst IsCount (sym has.same) (below_one_more c.args.on_record on_record); new = below_one_more c.args.on_record on_record })
    is_hosted has.taken has.now has.was in
    let file = subst (λ es. IsOpen g.W.Write.contents is_hosted c.settle.new.self es []) has.all (c.settle.ensures.settled is_hosted has.taken has.now turn.1) in
    in_file g.W.Write.contents is_hosted c.begin.new.self c.args.on_record all (c.begin.ensures.open is_hosted all [] file) (c.begin.ensures.same.0 ∙ c.settle.ensures.same.0))

pub returns-clause-begun : goal.returns-clause-begun
returns-clause-begun g c = λ events on_record is_hosted all stands was works.
    let has = was c.in_ok-end_turn.ensures.works.0 in
    let turn = c.in_ok-end_turn.ensures.turn (record { number = below_one_more c.args.journal.now.events events; old = subst IsCount (sym has.same) (below_one_more c.args.on_record on_record); new = below_one_more c.args.on_record on_record })
    is_hosted has.taken has.now has.was in
    let file = subst (λ es. IsOpen g.W.Write.contents is_hosted c.settle.new.self es []) has.all (c.settle.ensures.settled is_hosted has.taken has.now turn.1) in
    let handles = c.in_ok-begin.ensures.handling is_hosted all [] stands file in
    let line = c.take.ensures.taken (no_count c.begin.new.self.events (c.begin.ensures.same.1 ∙ file.number)) c.in_ok-end_turn-2.ensures.works.0 is_hosted all [] c.args.event.now handles in
    let changes = c.take.ensures.same ∙ c.begin.ensures.same.0 ∙ c.settle.ensures.same.0 in
    let next = next_is c.saturating_add.result c.args.on_record c.saturating_add.ensures on_record in
    let counts : AreCounts c.take.new.self.events c.take.new.self.changes c.saturating_add.result = record { number = one_count c.take.new.self.events line.number; old = subst IsCount (sym changes) (below_one_more c.args.on_record on_record); new = subst IsCount (sym next) on_record } in
    record {
      turn = subst (λ n. HasTurn g.W.Write.contents is_hosted c.end_turn-2.new.self n all (c.args.event.now ∷ [])) next (c.in_ok-end_turn-2.ensures.turn counts is_hosted all (c.args.event.now ∷ []) line).1;
      same = c.end_turn-2.ensures.same ∙ changes;
    }
