use Rattle.std.proofs.Common.{◌≡◌, ◌∙◌, ℕ, map, subst}
use Rattle.std.specs.Map.Iter.{deref_pair}
use Rattle.std.proofs.lemmas.List.Elements.{All-map}
use Rattle.std.proofs.lemmas.Map.Iter.{iter_end}
use Rattle.hub_rows.specs.Changes.{edit}
use Rattle.hub_rows.specs.Rows.{Rows}
use Rattle.cached.proofs.memo.Memo.first_touched.Goals as goal

pub returns : goal.returns
returns g c =
    let stays = λ (e : ℕ × _). (rows : Rows) → g.A.Answer.is_right rows e.1 → g.A.Answer.is_right (edit c.args.change.now.op.now c.args.change.now.edit.now rows) e.1 in
    let start = c.into_iter-digest-iterator.ensures.into_iter_gives ∙ c.iter-digest-items.ensures.rest in
    let all : map deref_pair c.loop-digest.yielded ≡ c.args.self.now.answers.entries = (iter_end deref_pair c.args.self.now.answers.entries c.loop-digest.yielded c.into_iter-digest-iterator.result c.loop-digest.digest-iterator c.next.new.self c.next.result start c.loop-digest.yielded_by c.in-None.is c.next.ensures.steps).0 in
    let each = rw all at (All-map stays deref_pair c.loop-digest.yielded c.loop-digest.invariant) in
    λ e at. subst stays at.2 (each at.0 e at.1)
