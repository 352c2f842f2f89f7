use Rattle.std.proofs.Common.{get_or, ◌≡◌, ◌-◌, ◌<◌, ◌≤◌, length, map, subst, sym, ap, ◌∙◌}
use Rattle.std.proofs.lemmas.List.{length-map}
use Rattle.pending_calls.specs.Shown.{queued_of}
use Rattle.pending_calls.proofs.Rooms.{all_taken, mapped_at, one_taken}
use Rattle.pending_calls.proofs.slot.Slot.room_beside.Goals as goal

pub loop-waiting-preserved : goal.loop-waiting-preserved
loop-waiting-preserved g c =
    let items = c.self.inside.waiting.items in
    let queue : map queued_of items ≡ c.args.self.now.waiting = ap (λ s. s.waiting) c.self.view_is in
    let i = c.loop-waiting.waiting-index in
    let item = c.waiting-item.result in
    let within = rw c.deref-waiting-items.ensures.value at c.loop-waiting-test.true in
    let within' : i < length c.args.self.now.waiting = subst (λ qs. i < length qs) queue (subst (λ n. i < n) (sym (length-map items queued_of)) within) in
    let is = rw c.deref-waiting-items.ensures.value at c.waiting-item.is in
    let is' = subst (λ qs. queued_of item ≡ get_or qs i (queued_of item)) queue (mapped_at queued_of items i item is) in
    one_taken (λ q. length q.text) c.args.self.now.waiting i (queued_of item) c.loop-waiting.left c.saturating_sub-left.result c.args.room within' is' (c.saturating_sub-left.ensures ∙ ap (λ text. c.loop-waiting.left - length text) c.as_str.ensures) c.loop-waiting.invariant

pub returns : goal.returns
returns g c =
    let items = c.self.inside.waiting.items in
    let queue : map queued_of items ≡ c.args.self.now.waiting = ap (λ s. s.waiting) c.self.view_is in
    let i = c.loop-waiting.waiting-index in
    let end = rw c.deref-waiting-items.ensures.value at c.loop-waiting-test.false in
    let end' : length c.args.self.now.waiting ≤ i = subst (λ qs. length qs ≤ i) queue (subst (λ n. n ≤ i) (sym (length-map items queued_of)) end) in
    all_taken (λ q. length q.text) c.args.self.now.waiting i c.loop-waiting.left c.args.room end' c.loop-waiting.invariant
