-- Two systems that are the same to an operator give it the same.
use Rattle.std.specs.Prelude.{◌≡◌, ◌≢◌, ℕ, List, [], ◌∷◌, ◌++◌, length, drop, map, cond}
use Rattle.std.specs.List.{AllByRecursion}
use Rattle.std.proofs.Common.{refl, ◌∙◌, sym, ap, append_assoc, append-nil}
use Rattle.std.proofs.Math.Seq.{drop-append_seam}
use Rattle.hub_rows.specs.Grants.{grants_to}
use Rattle.hub_rows.specs.declared.use_row.UseRow.{UseRow}
use Rattle.hub_rows.proofs.ListLaws.{other_text, text_itself}
use Rattle.hub_events.specs.declared.event.Event.{Event}
use Rattle.hub_events.specs.declared.event.Event.TheVariants.{At, Tick}
use Rattle.hub_events.specs.declared.event.What.{What}
use Rattle.hub.specs.Effects.{edit_of}
use Rattle.hub.specs.Others.{AddsUse, IsOfAnother, edits_tags}
use Rattle.hub.specs.Tells.{AgreeOn}
use Rattle.hub.specs.View.{Own, Use, granted_to, shown_by, uses_of, view, seen, seen_of, operator_run_outputs, operator_run}
use Rattle.hub.specs.WellFormed.{WellFormed}
use Rattle.hub.specs.World.{Setting, World, outputs_of, plan_at, run_outputs, world_run, world_step}
use Rattle.hub.specs.TwoSystems.{AreAlike, AreSameTo, IsItsOwn, LeavesShown}
use Rattle.hub.proofs.Isolation.{run_outputs-own, world_run-own}
use Rattle.hub.proofs.Others.{granted-after, no_news, seen-other}
use Rattle.hub.proofs.Tells.{one-use, same_granted}

-- settings that answer alike are one
same_setting : (s t : Setting) → AreAlike s t → s ≡ t
same_setting s t alike = λ i. record { is_hosted = λ b. alike.hosted b i; answers = λ vendor message content. alike.answers vendor message content i; first_number = alike.first_number i }

module _ (a : List ℕ) (s t : Setting) (w v : World) (es fs : List Event) (good : WellFormed w) (fine : WellFormed v) (same : AreSameTo a s w es t v fs) where
  -- an operator's own machine is a function of what it has and is shown
  pub same_outputs : outputs_of a (run_outputs s w es) ≡ outputs_of a (run_outputs t v fs)
  same_outputs =
      run_outputs-own s a w es good
      ∙ (λ i. operator_run_outputs (same_setting s t same.settings i) a (same.views i) (same.seen i))
      ∙ sym (run_outputs-own t a v fs fine)

  pub same_views : view a (world_run s w es) ≡ view a (world_run t v fs)
  same_views =
      world_run-own s a w es good
      ∙ (λ i. operator_run (same_setting s t same.settings i) a (same.views i) (same.seen i))
      ∙ sym (world_run-own t a v fs fine)

-- ---- lists of events that show an operator the same

-- what one more event shows comes after what the others show
seen-push : (s : Setting) (a : List ℕ) (w : World) (es : List Event) (e : Event) → seen s a w (es ++ e ∷ []) ≡ seen s a w es ++ seen_of s a (world_run s w es) e
seen-push s a w [] e = append-nil (seen_of s a w e)
seen-push s a w (f ∷ es) e =
    ap (λ items. seen_of s a w f ++ items) (seen-push s a (world_step s w f) es e)
    ∙ sym (append_assoc (seen_of s a w f) (seen s a (world_step s w f) es) (seen_of s a (world_run s (world_step s w f) es) e))

-- an event of one's own, or a tick, shows itself in every world
seen-own : (s t : Setting) (a : List ℕ) (w v : World) (e : Event) → IsItsOwn a e → seen_of s a w e ≡ seen_of t a v e
seen-own s t a w v (At b m what) is =
    ap (λ mine. cond mine (Own m what ∷ []) (shown_by a w (world_step s w (At b m what)))) (text_itself b a is)
    ∙ sym (ap (λ mine. cond mine (Own m what ∷ []) (shown_by a v (world_step t v (At b m what)))) (text_itself b a is))
seen-own s t a w v (Tick m) is = refl

module _ (a : List ℕ) (s t : Setting) (w v : World) where
  pub same_none : AreAlike s t → view a w ≡ view a v → AreSameTo a s w [] t v []
  same_none alike views = record { settings = alike; views = views; seen = refl }

  pub same_own : (es fs : List Event) (e : Event) → AreSameTo a s w es t v fs → IsItsOwn a e → AreSameTo a s w (es ++ e ∷ []) t v (fs ++ e ∷ [])
  same_own es fs e same mine = record {
    settings = same.settings;
    views = same.views;
    seen = seen-push s a w es e ∙ (λ i. same.seen i ++ seen-own s t a (world_run s w es) (world_run t v fs) e mine i) ∙ sym (seen-push t a v fs e);
  }

  pub same_first : (es fs : List Event) (e : Event) → AreSameTo a s w es t v fs → IsOfAnother a e → LeavesShown a s w es e → AreSameTo a s w (es ++ e ∷ []) t v fs
  same_first es fs e same other left = record {
    settings = same.settings;
    views = same.views;
    seen = seen-push s a w es e ∙ ap (λ items. seen s a w es ++ items) (seen-other s a (world_run s w es) e other left.granted left.uses) ∙ append-nil (seen s a w es) ∙ same.seen;
  }

  pub same_second : (es fs : List Event) (e : Event) → AreSameTo a s w es t v fs → IsOfAnother a e → LeavesShown a t v fs e → AreSameTo a s w es t v (fs ++ e ∷ [])
  same_second es fs e same other left = record {
    settings = same.settings;
    views = same.views;
    seen = same.seen ∙ sym (seen-push t a v fs e ∙ ap (λ items. seen t a v fs ++ items) (seen-other t a (world_run t v fs) e other left.granted left.uses) ∙ append-nil (seen t a v fs));
  }

-- ---- what a use and a grant show

-- a stop that adds a use shows that use
seen-use : (a : List ℕ) (s : Setting) (w : World) (b : List ℕ) (m : ℕ) (what : What) (u : UseRow) → b ≢ a → AddsUse a s w (At b m what) (world_step s w (At b m what)) u → seen s a w (At b m what ∷ []) ≡ Use u ∷ []
seen-use a s w b m what u other adds =
    let after : World = world_step s w (At b m what) in
    let granted : granted_to a after ≡ granted_to a w = granted-after a b (edit_of (plan_at s w b m what).effect) w.rows (ap edits_tags adds.tells.stopped) in
    let more : drop (length (uses_of a w)) (uses_of a after) ≡ u ∷ [] = ap (drop (length (uses_of a w))) adds.added ∙ drop-append_seam (uses_of a w) (u ∷ []) in
    append-nil (seen_of s a w (At b m what))
    ∙ ap (λ mine. cond mine (Own m what ∷ []) (shown_by a w after)) (other_text b a other)
    ∙ (λ i. no_news (granted_to a w) (granted_to a after) granted i ++ map Use (more i))

-- two stops at one moment with the same tag and energy show the same
pub same_use : (a b : List ℕ) (m : ℕ) (s t : Setting) (w v : World) (d e : What) (x y : UseRow) → b ≢ a → uses_of a w ≡ uses_of a v
    → AddsUse a s w (At b m d) (world_step s w (At b m d)) x → AddsUse a t v (At b m e) (world_step t v (At b m e)) y → x.key ≡ y.key → x.wh ≡ y.wh
    → seen s a w (At b m d ∷ []) ≡ seen t a v (At b m e ∷ [])
same_use a b m s t w v d e x y other uses this that key wh =
    seen-use a s w b m d x other this
    ∙ (λ i. Use (one-use a b m w.rows v.rows (edit_of (plan_at s w b m d).effect) (edit_of (plan_at t v b m e).effect) x y this.tells that.tells uses key wh i) ∷ [])
    ∙ sym (seen-use a t v b m e y other that)

-- the same grants of tags that agree show the same
pub same_tags : (a : List ℕ) (w v : World) → grants_to a w.rows.grants ≡ grants_to a v.rows.grants → AllByRecursion (AgreeOn w.rows.tags v.rows.tags) (grants_to a w.rows.grants) → granted_to a w ≡ granted_to a v
same_tags a w v same agree = same_granted a w.rows.tags v.rows.tags w.rows.grants v.rows.grants same agree
