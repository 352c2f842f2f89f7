-- Each operator is told, and left with, what its own machine gives for what it was shown.
use Rattle.std.specs.Prelude.{◌≡◌, ◌≢◌, ℕ, Option, None, Some, List, [], ◌∷◌, ◌++◌, length, drop, true, false, cond, map}
use Rattle.std.proofs.Common.{refl, sym, ◌∙◌, ap, append_assoc, append-nil}
use Rattle.std.specs.Str.{bytes_eq}
use Rattle.std.specs.Option.{ForSome}
use Rattle.std.proofs.lemmas.List.Elements.{filter-append}
use Rattle.std.proofs.Math.Seq.{drop-append_seam}
use Rattle.hub_rows.specs.declared.change.Edit.{Edit}
use Rattle.hub_rows.specs.Changes.{EditFits}
use Rattle.hub_rows.specs.Rows.{Rows}
use Rattle.hub_rows.specs.WellFormed.{WellFormedRows}
use Rattle.hub_rows.specs.declared.info.GrantedTag.{GrantedTag}
use Rattle.hub_rows.specs.declared.use_row.UseRow.{UseRow}
use Rattle.hub_rows.specs.Keyed.{own}
use Rattle.hub_rows.specs.Grants.{granted_in}
use Rattle.hub_rows.specs.Own.{own_rows}
use Rattle.hub_rows.proofs.GrantLaws.{granted-edit}
use Rattle.hub_rows.proofs.ListLaws.{same_text}
use Rattle.hub_rows.proofs.OwnLaws.{own_rows-edit, own_rows-edit_other, same_lookups, uses-edit}
use Rattle.hub_rows.proofs.WellFormedLaws.{well_formed-edit}
use Rattle.pending_calls.specs.OwnSlots.{own_slots}
use Rattle.pending_calls.proofs.OwnSlots.{slot_of-op, slot_of-own, tick-own}
use Rattle.pending_calls.proofs.Ticks.{sorted-tick}
use Rattle.hub_events.specs.declared.event.Event.{Event}
use Rattle.hub_events.specs.declared.event.Event.TheVariants.{At, Tick}
use Rattle.hub_events.specs.declared.event.What.{What}
use Rattle.hub_events.specs.declared.out.Out.{Out}
use Rattle.hub_events.specs.declared.out.Said.{Said}
use Rattle.plans.specs.declared.plan.Plan.{Plan}
use Rattle.hub.specs.Effects.{edit_of, effect_outputs, tick_outputs}
use Rattle.plans.specs.Facts.{Facts}
use Rattle.event_plans.specs.Table.{plan}
use Rattle.hub.specs.World.{Setting, World, said_to, outputs_of, facts_at, rows_after, plan_at, plan_outputs, world_outputs, world_step, run_outputs, world_run}
use Rattle.hub.specs.Others.{settled_by}
use Rattle.hub.specs.View.{View, granted_to, uses_of, news, more_uses, shown_by, view, own_facts, own_rows_after, own_slots_after, Item, Own, Granted, Use, operator_outputs, operator_step, operator_run_outputs, operator_run, seen_of, seen}
use Rattle.hub.specs.GrantedTags.{are_same}
use Rattle.hub.specs.WellFormed.{WellFormed}
use Rattle.hub.proofs.Committing.{edit_of_plan_fits}
use Rattle.hub.proofs.GrantedTags.{same_granted}
use Rattle.hub.proofs.SlotLaws.{AreFor, append-for, differs, effect-for, outputs_of-other, outputs_of-own, slots_after-other, slots_after-own, slots_after-sorted, tick_outputs-own}

-- the facts of an operator are those of its view
same_facts : (first : ℕ) (a : List ℕ) (w : World) → WellFormed w → facts_at first a w ≡ own_facts first a (view a w)
same_facts first a w good = λ i. record { lookups = same_lookups a w.rows good.rows i; slot = λ station. slot_of-own a first station w.slots i; slots = own_slots a w.slots }

-- ---- records after a step of one's own, and of another

own_rows-after : (a : List ℕ) (e : Option Edit) (rows : Rows) → WellFormedRows rows → own_rows a (rows_after a e rows) ≡ own_rows_after a e (own_rows a rows)
own_rows-after a None rows good = refl
own_rows-after a (Some e) rows good = own_rows-edit a e rows good

pub own_rows-after_other : (a b : List ℕ) (e : Option Edit) (rows : Rows) → b ≢ a → own_rows a (rows_after b e rows) ≡ record (own_rows a rows) { uses = own (λ r. r.op) a (rows_after b e rows).uses }
own_rows-after_other a b None rows other = refl
own_rows-after_other a b (Some e) rows other = own_rows-edit_other a b e rows other

-- one's uses are those before, and after them what another's edit settles
pub uses-after : (a b : List ℕ) (e : Option Edit) (rows : Rows) → WellFormedRows rows → own (λ r. r.op) a (rows_after b e rows).uses ≡ own (λ r. r.op) a rows.uses ++ settled_by a b e rows
uses-after a b None rows good = sym (append-nil _)
uses-after a b (Some e) rows good = uses-edit a b e rows good

-- one's own edit leaves what is granted to one
granted-after : (a : List ℕ) (e : Option Edit) (rows : Rows) → WellFormedRows rows → ForSome e (λ d. EditFits a d rows) → granted_in a (rows_after a e rows).tags (rows_after a e rows).grants ≡ granted_in a rows.tags rows.grants
granted-after a None rows good fits = refl
granted-after a (Some e) rows good fits = granted-edit a e rows good (fits e refl)

-- ---- lists of items

operator_run_outputs-append : (setting : Setting) (a : List ℕ) (v : View) (is js : List Item) → operator_run_outputs setting a v (is ++ js) ≡ operator_run_outputs setting a v is ++ operator_run_outputs setting a (operator_run setting a v is) js
operator_run_outputs-append setting a v [] js = refl
operator_run_outputs-append setting a v (i ∷ is) js =
    ap (λ outs. operator_outputs setting a v i ++ outs) (operator_run_outputs-append setting a (operator_step setting a v i) is js)
    ∙ sym (append_assoc (operator_outputs setting a v i) (operator_run_outputs setting a (operator_step setting a v i) is) (operator_run_outputs setting a (operator_run setting a (operator_step setting a v i) is) js))

operator_run-append : (setting : Setting) (a : List ℕ) (v : View) (is js : List Item) → operator_run setting a v (is ++ js) ≡ operator_run setting a (operator_run setting a v is) js
operator_run-append setting a v [] js = refl
operator_run-append setting a v (i ∷ is) js = operator_run-append setting a (operator_step setting a v i) is js

-- the news of another's event say nothing, and leave the tags that are granted then
told_by_news : (setting : Setting) (a : List ℕ) (v : View) (after : List GrantedTag) → operator_run_outputs setting a v (news v.granted after) ≡ []
told_by_news setting a v after = elim (are_same v.granted after) as (λ t. operator_run_outputs setting a v (cond t [] (Granted after ∷ [])) ≡ []) [ true ↦ refl | false ↦ refl ]

left_by_news : (setting : Setting) (a : List ℕ) (v : View) (after : List GrantedTag) → operator_run setting a v (news v.granted after) ≡ record v { granted = after }
left_by_news setting a v after =
    elim (are_same v.granted after) as (λ t. are_same v.granted after ≡ t → operator_run setting a v (cond t [] (Granted after ∷ [])) ≡ record v { granted = after }) [
      | true ↦ λ e i. record v { granted = same_granted v.granted after e i }
      | false ↦ λ e. refl
    ] refl

-- settled uses say nothing, and come after the uses that were there
told_by_uses : (setting : Setting) (a : List ℕ) (v : View) (more : List UseRow) → operator_run_outputs setting a v (map Use more) ≡ []
told_by_uses setting a v [] = refl
told_by_uses setting a v (r ∷ more) = told_by_uses setting a (operator_step setting a v (Use r)) more

left_by_uses : (setting : Setting) (a : List ℕ) (v : View) (more : List UseRow) → operator_run setting a v (map Use more) ≡ record v { rows = record v.rows { uses = v.rows.uses ++ more } }
left_by_uses setting a v [] = λ i. record v { rows = record v.rows { uses = sym (append-nil v.rows.uses) i } }
left_by_uses setting a v (r ∷ more) = left_by_uses setting a (operator_step setting a v (Use r)) more ∙ (λ i. record v { rows = record v.rows { uses = append_assoc v.rows.uses (r ∷ []) more i } })

-- what a step of another shows says nothing, and leads to the tags and uses after it
told_by_shown : (setting : Setting) (a : List ℕ) (w v : World) → operator_run_outputs setting a (view a w) (shown_by a w v) ≡ []
told_by_shown setting a w v =
    let granted : List GrantedTag = granted_to a v in
    operator_run_outputs-append setting a (view a w) (news (granted_to a w) granted) (more_uses (uses_of a w) (uses_of a v))
    ∙ (λ i. told_by_news setting a (view a w) granted i ++ operator_run_outputs setting a (left_by_news setting a (view a w) granted i) (more_uses (uses_of a w) (uses_of a v)))
    ∙ told_by_uses setting a (record (view a w) { granted = granted }) (drop (length (uses_of a w)) (uses_of a v))

left_by_shown : (setting : Setting) (a : List ℕ) (w v : World) (more : List UseRow) → uses_of a v ≡ uses_of a w ++ more → operator_run setting a (view a w) (shown_by a w v) ≡ record (view a w) { rows = record (own_rows a w.rows) { uses = uses_of a v }; granted = granted_to a v }
left_by_shown setting a w v more grown =
    let granted : List GrantedTag = granted_to a v in
    let rest : drop (length (uses_of a w)) (uses_of a v) ≡ more = ap (drop (length (uses_of a w))) grown ∙ drop-append_seam (uses_of a w) more in
    operator_run-append setting a (view a w) (news (granted_to a w) granted) (more_uses (uses_of a w) (uses_of a v))
    ∙ (λ i. operator_run setting a (left_by_news setting a (view a w) granted i) (map Use (rest i)))
    ∙ left_by_uses setting a (record (view a w) { granted = granted }) more
    ∙ (λ i. record (view a w) { rows = record (own_rows a w.rows) { uses = sym grown i }; granted = granted })

-- ---- what is said

said-for : (b : List ℕ) (said : List Said) → AreFor b (map (said_to b) said)
said-for b [] = tt
said-for b (s ∷ said) = (refl, said-for b said)

-- the outputs of a plan are for its operator
pub plan-for : (b : List ℕ) (p : Plan) (f : Facts) → ((station : List ℕ) → (f.slot station).op ≡ b) → AreFor b (plan_outputs b p f)
plan-for b p f named = append-for b (map (said_to b) p.said) (effect_outputs p.effect f.slot) (said-for b p.said) (effect-for b p.effect f.slot named)

outputs_of-append : (a : List ℕ) (outs more : List Out) → outputs_of a (outs ++ more) ≡ outputs_of a outs ++ outputs_of a more
outputs_of-append a outs more = filter-append (λ o. bytes_eq o.op a) outs more

-- ---- one event

own_step : (setting : Setting) (a : List ℕ) (w : World) (m : ℕ) (what : What) → WellFormed w → view a (world_step setting w (At a m what)) ≡ operator_step setting a (view a w) (Own m what)
own_step setting a w m what good =
    let first = setting.first_number in
    let e = (plan_at setting w a m what).effect in
    let fits : ForSome (edit_of e) (λ d. EditFits a d w.rows) = edit_of_plan_fits first setting.is_hosted setting.answers a what m w good.rows (plan_at setting w a m what) refl in
    (λ i. record { rows = own_rows-after a (edit_of e) w.rows good.rows i; slots = slots_after-own first a m e w.slots good.slots i; granted = granted-after a (edit_of e) w.rows good.rows fits i })
    ∙ (λ i. let d = (plan setting.is_hosted setting.answers what m (same_facts first a w good i)).effect in record { rows = own_rows_after a (edit_of d) (own_rows a w.rows); slots = own_slots_after first a m d (own_slots a w.slots); granted = granted_to a w })

pub step_outputs : (setting : Setting) (a : List ℕ) (w : World) (e : Event) → WellFormed w → outputs_of a (world_outputs setting w e) ≡ operator_run_outputs setting a (view a w) (seen_of setting a w e)
step_outputs setting a w (Tick m) good = tick_outputs-own a m w.slots ∙ sym (append-nil (tick_outputs m (own_slots a w.slots)))
step_outputs setting a w (At b m what) good =
    let first = setting.first_number in
    let after : World = world_step setting w (At b m what) in
    let mine_for : (c : List ℕ) → AreFor c (world_outputs setting w (At c m what)) = λ c. plan-for c (plan_at setting w c m what) (facts_at first c w) (λ station. slot_of-op first c station w.slots) in
    elim (bytes_eq b a) as (λ t. bytes_eq b a ≡ t → outputs_of a (world_outputs setting w (At b m what)) ≡ operator_run_outputs setting a (view a w) (cond t (Own m what ∷ []) (shown_by a w after))) [
      | true ↦ λ mine. (λ i. outputs_of a (world_outputs setting w (At (same_text b a mine i) m what)))
          ∙ outputs_of-own a (world_outputs setting w (At a m what)) (mine_for a)
          ∙ (λ i. plan_outputs a (plan setting.is_hosted setting.answers what m (same_facts first a w good i)) (same_facts first a w good i))
          ∙ sym (append-nil (operator_outputs setting a (view a w) (Own m what)))
      | false ↦ λ other. outputs_of-other a b (world_outputs setting w (At b m what)) (mine_for b) (differs a b other) ∙ sym (told_by_shown setting a w after)
    ] refl

pub step_view : (setting : Setting) (a : List ℕ) (w : World) (e : Event) → WellFormed w → view a (world_step setting w e) ≡ operator_run setting a (view a w) (seen_of setting a w e)
step_view setting a w (Tick m) good = λ i. record { rows = own_rows a w.rows; slots = tick-own a m w.slots i; granted = granted_to a w }
step_view setting a w (At b m what) good =
    let after : World = world_step setting w (At b m what) in
    elim (bytes_eq b a) as (λ t. bytes_eq b a ≡ t → view a after ≡ operator_run setting a (view a w) (cond t (Own m what ∷ []) (shown_by a w after))) [
      | true ↦ λ mine. (λ i. view a (world_step setting w (At (same_text b a mine i) m what))) ∙ own_step setting a w m what good
      | false ↦ λ other.
          let e = (plan_at setting w b m what).effect in
          (λ i. record { rows = own_rows-after_other a b (edit_of e) w.rows (differs a b other) i; slots = slots_after-other setting.first_number a b m e w.slots (differs a b other) i; granted = granted_to a after })
          ∙ sym (left_by_shown setting a w after (settled_by a b (edit_of e) w.rows) (uses-after a b (edit_of e) w.rows good.rows))
    ] refl

-- ---- the order of the lists is kept

rows_after-kept : (b : List ℕ) (e : Option Edit) (rows : Rows) → WellFormedRows rows → ForSome e (λ d. EditFits b d rows) → WellFormedRows (rows_after b e rows)
rows_after-kept b None rows good fits = good
rows_after-kept b (Some e) rows good fits = well_formed-edit b e rows good (fits e refl)

pub step_kept : (setting : Setting) (w : World) (e : Event) → WellFormed w → WellFormed (world_step setting w e)
step_kept setting w (Tick m) good = record { rows = good.rows; slots = sorted-tick m w.slots good.slots }
step_kept setting w (At b m what) good =
    let first = setting.first_number in
    let p = plan_at setting w b m what in
    record { rows = rows_after-kept b (edit_of p.effect) w.rows good.rows (edit_of_plan_fits first setting.is_hosted setting.answers b what m w good.rows p refl); slots = slots_after-sorted first b m p.effect w.slots good.slots }

-- ---- lists of events

-- the isolation theorem on the definitions: the outputs
pub run_outputs-own : (setting : Setting) (a : List ℕ) (w : World) (es : List Event) → WellFormed w → outputs_of a (run_outputs setting w es) ≡ operator_run_outputs setting a (view a w) (seen setting a w es)
run_outputs-own setting a w [] good = refl
run_outputs-own setting a w (e ∷ es) good =
    outputs_of-append a (world_outputs setting w e) (run_outputs setting (world_step setting w e) es)
    ∙ (λ i. step_outputs setting a w e good i ++ run_outputs-own setting a (world_step setting w e) es (step_kept setting w e good) i)
    ∙ (λ i. operator_run_outputs setting a (view a w) (seen_of setting a w e) ++ operator_run_outputs setting a (step_view setting a w e good i) (seen setting a (world_step setting w e) es))
    ∙ sym (operator_run_outputs-append setting a (view a w) (seen_of setting a w e) (seen setting a (world_step setting w e) es))

-- and the view afterwards
pub world_run-own : (setting : Setting) (a : List ℕ) (w : World) (es : List Event) → WellFormed w → view a (world_run setting w es) ≡ operator_run setting a (view a w) (seen setting a w es)
world_run-own setting a w [] good = refl
world_run-own setting a w (e ∷ es) good =
    world_run-own setting a (world_step setting w e) es (step_kept setting w e good)
    ∙ (λ i. operator_run setting a (step_view setting a w e good i) (seen setting a (world_step setting w e) es))
    ∙ sym (operator_run-append setting a (view a w) (seen_of setting a w e) (seen setting a (world_step setting w e) es))
