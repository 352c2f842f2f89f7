-- An event of another operator leaves an operator alone.
use Rattle.std.specs.Prelude.{◌≡◌, ◌⊎◌, ℕ, Option, None, Some, IfSome, List, [], ◌∷◌, ◌++◌, length, drop, map, Bool, false, cond}
use Rattle.std.proofs.Common.{refl, sym, ◌∙◌, ap, subst, inl, inr}
use Rattle.std.proofs.Math.Seq.{drop-length}
use Rattle.std.proofs.lemmas.Bool.{true≢false}
use Rattle.hub_rows.specs.declared.change.Edit.{Edit}
use Rattle.hub_rows.specs.declared.change.Edit.TheVariants.{Stations, Tags, Transactions, Holdings}
use Rattle.hub_rows.specs.declared.change.StationEdit.TheVariants.{StationAdded}
use Rattle.hub_rows.specs.declared.change.TagEdit.TheVariants.{TagDropped}
use Rattle.hub_rows.specs.declared.change.TransactionEdit.TheVariants.{MeterValuesAdded, TxStopped}
use Rattle.hub_rows.specs.declared.change.HoldingEdit.TheVariants.{ReservationDropped}
use Rattle.hub_rows.specs.declared.info.GrantedTag.{GrantedTag}
use Rattle.hub_rows.specs.declared.use_row.UseRow.{UseRow}
use Rattle.hub_rows.specs.Changes.{edit}
use Rattle.hub_rows.specs.Keyed.{own}
use Rattle.hub_rows.specs.Grants.{granted_in}
use Rattle.hub_rows.specs.Lookups.{lookups_at}
use Rattle.hub_rows.specs.Rows.{Rows}
use Rattle.hub_rows.specs.WellFormed.{WellFormedRows}
use Rattle.hub_rows.proofs.ListLaws.{other_text}
use Rattle.pending_calls.proofs.OwnSlots.{slot_of-op}
use Rattle.hub_events.specs.declared.event.Event.{Event}
use Rattle.hub_events.specs.declared.event.Event.TheVariants.{At, Tick}
use Rattle.hub_events.specs.declared.event.What.{What}
use Rattle.hub_events.specs.declared.out.Out.{Out}
use Rattle.hub.specs.Effects.{edit_of}
use Rattle.plans.specs.declared.plan.Effect.{Effect}
use Rattle.plans.specs.declared.plan.Effect.TheVariants as effect
use Rattle.plans.specs.Facts.{Facts}
use Rattle.event_plans.proofs.Fitting.{EffectFits, FitsLookups, connected_in, plan_fits}
use Rattle.hub.specs.Others.{AddsUse, IsOfAnother, LeavesAlone, edits_tags, is_of_tags}
use Rattle.hub.specs.View.{Granted, Own, Use, granted_to, uses_of, news, more_uses, shown_by, seen_of}
use Rattle.hub.specs.WellFormed.{WellFormed}
use Rattle.hub.specs.World.{Setting, World, facts_at, plan_at, rows_after, world_outputs, world_step}
use Rattle.hub.proofs.GrantedTags.{granted_same}
use Rattle.hub.proofs.Isolation.{own_rows-after_other, uses-after, plan-for}
use Rattle.hub.proofs.SlotLaws.{outputs_of-other, slots_after-other}
use Rattle.hub.proofs.Tells.{AddsTo, edit-adds, tags-tell}

-- an edit that is none of tags leaves what is granted
granted-edit : (a b : List ℕ) (e : Edit) (rows : Rows) → is_of_tags e ≡ false → granted_in a (edit b e rows).tags (edit b e rows).grants ≡ granted_in a rows.tags rows.grants
granted-edit a b (Tags e) rows none = absurd (true≢false none)
granted-edit a b (Stations (StationAdded station policy interval)) rows none = refl
granted-edit a b (Transactions (MeterValuesAdded station first values)) rows none = refl
granted-edit a b (Holdings (ReservationDropped station id)) rows none = refl
granted-edit a b e rows none = refl

pub granted-after : (a b : List ℕ) (o : Option Edit) (rows : Rows) → edits_tags o ≡ false → granted_in a (rows_after b o rows).tags (rows_after b o rows).grants ≡ granted_in a rows.tags rows.grants
granted-after a b None rows none = refl
granted-after a b (Some e) rows none = granted-edit a b e rows none

-- where the granted tags are the same, there is no news
pub no_news : (before after : List GrantedTag) → after ≡ before → news before after ≡ []
no_news before after same = ap (λ t. cond t [] (Granted after ∷ [])) (granted_same before after (sym same))

-- where the uses are the same, none is new
no_uses : (before after : List UseRow) → after ≡ before → more_uses before after ≡ []
no_uses before after same = ap (λ uses. map Use (drop (length before) uses)) same ∙ ap (map Use) (drop-length before)

-- an event of another shows an operator no more than the granted tags, where they are others, and its uses
pub seen-other : (setting : Setting) (a : List ℕ) (w : World) (e : Event) → IsOfAnother a e → granted_to a (world_step setting w e) ≡ granted_to a w → uses_of a (world_step setting w e) ≡ uses_of a w → seen_of setting a w e ≡ []
seen-other setting a w (At b m what) other granted uses =
    let after : World = world_step setting w (At b m what) in
    ap (λ t. cond t (Own m what ∷ []) (shown_by a w after)) (other_text b a other) ∙ (λ i. no_news (granted_to a w) (granted_to a after) granted i ++ no_uses (uses_of a w) (uses_of a after) uses i)
seen-other setting a w (Tick m) other granted uses = absurd other

-- an edit changes the tags and grants, or adds a use, or neither
either-edit : (a b : List ℕ) (e : Edit) (rows : Rows) → (granted_in a (edit b e rows).tags (edit b e rows).grants ≡ granted_in a rows.tags rows.grants) ⊎ (own (λ r. r.op) a (edit b e rows).uses ≡ own (λ r. r.op) a rows.uses)
either-edit a b (Transactions (TxStopped station number stop first values)) rows = inl refl
either-edit a b (Stations (StationAdded station policy interval)) rows = inr refl
either-edit a b (Tags (TagDropped key)) rows = inr refl
either-edit a b (Holdings (ReservationDropped station id)) rows = inr refl
either-edit a b e rows = inr refl

either-after : (a b : List ℕ) (o : Option Edit) (rows : Rows) → (granted_in a (rows_after b o rows).tags (rows_after b o rows).grants ≡ granted_in a rows.tags rows.grants) ⊎ (own (λ r. r.op) a (rows_after b o rows).uses ≡ own (λ r. r.op) a rows.uses)
either-after a b None rows = inl refl
either-after a b (Some e) rows = either-edit a b e rows

-- ---- the use that is added

-- the edit of an effect fits as the effect does
fits-edit : (m : ℕ) (f : Facts) (e : Effect) → EffectFits m f e → IfSome (edit_of e) (FitsLookups (connected_in f) m f.lookups)
fits-edit m f effect.Nothing fits = tt
fits-edit m f (effect.Edit e) fits = fits
fits-edit m f (effect.Connect station) fits = tt
fits-edit m f (effect.Disconnect station) fits = tt
fits-edit m f (effect.Submit station command text) fits = tt
fits-edit m f (effect.Answer station id outcome edit) fits = fits

adds-after : (k : List ℕ → Bool) (a b : List ℕ) (m : ℕ) (rows : Rows) → WellFormedRows rows → (o : Option Edit) → IfSome o (FitsLookups k m (lookups_at b rows)) → AddsTo a b m rows o (own (λ r. r.op) a (rows_after b o rows).uses)
adds-after k a b m rows good None fits = inl refl
adds-after k a b m rows good (Some e) fits = edit-adds k a b m rows good e fits

adds-use : (setting : Setting) (a : List ℕ) (w : World) (b : List ℕ) (m : ℕ) (what : What) → WellFormed w
    → (uses_of a (world_step setting w (At b m what)) ≡ uses_of a w) ⊎ ((u : UseRow) × AddsUse a setting w (At b m what) (world_step setting w (At b m what)) u)
adds-use setting a w b m what good =
    let f = facts_at setting.first_number b w in
    let e = (plan_at setting w b m what).effect in
    elim (adds-after (connected_in f) a b m w.rows good.rows (edit_of e) (fits-edit m f e (plan_fits setting.is_hosted setting.answers what m f))) [
      | inl same ↦ inl same
      | inr one ↦ inr (one.0, record { added = one.1; tells = one.2 })
    ]

by_table : (setting : Setting) (a : List ℕ) (w : World) (e : Event) → WellFormed w → IsOfAnother a e → LeavesAlone a setting w e (world_outputs setting w e) (world_step setting w e)
by_table setting a w (At b m what) good other =
    let first = setting.first_number in
    let p = plan_at setting w b m what in
    record {
      told = outputs_of-other a b (world_outputs setting w (At b m what)) (plan-for b p (facts_at first b w) (λ station. slot_of-op first b station w.slots)) other;
      kept = λ i. record { rows = own_rows-after_other a b (edit_of p.effect) w.rows other i; slots = slots_after-other first a b m p.effect w.slots other i; granted = granted_to a (world_step setting w (At b m what)) };
      granted = granted-after a b (edit_of p.effect) w.rows;
      uses = uses-after a b (edit_of p.effect) w.rows good.rows;
      adds = adds-use setting a w b m what good;
      tags = tags-tell a (world_step setting w (At b m what)).rows.tags (world_step setting w (At b m what)).rows.grants;
      either = either-after a b (edit_of p.effect) w.rows;
      shown = λ granted uses. ap (λ items. items ++ []) (seen-other setting a w (At b m what) other granted uses);
    }
by_table setting a w (Tick m) good other = absurd other

-- of what the table gives
pub leaves_alone : (setting : Setting) (a : List ℕ) (w : World) (e : Event) (outs : List Out) (v : World) → WellFormed w → outs ≡ world_outputs setting w e → v ≡ world_step setting w e → IsOfAnother a e → LeavesAlone a setting w e outs v
leaves_alone setting a w e outs v good said moved other =
    subst (λ o. LeavesAlone a setting w e o v) (sym said)
    (subst (λ u. LeavesAlone a setting w e (world_outputs setting w e) u) (sym moved) (by_table setting a w e good other))
