-- A run goes on by one event.
use Rattle.std.proofs.Common.{◌≡◌, ℕ, List, [], ◌∷◌, ◌++◌, ◌<◌, ◌+◌, length, get_or, take, refl, ◌∙◌, ap, sym, append_assoc, append-nil}
use Rattle.std.proofs.lemmas.List.{take_more}
use Rattle.hub_events.specs.declared.event.Event.{Event}
use Rattle.hub_events.specs.declared.out.Out.{Out}
use Rattle.hub.specs.World.{Setting, World, world_outputs, world_step, run_outputs, world_run}

world_run-push : (setting : Setting) (w : World) (es : List Event) (e : Event) → world_run setting w (es ++ e ∷ []) ≡ world_step setting (world_run setting w es) e
world_run-push setting w [] e = refl
world_run-push setting w (f ∷ es) e = world_run-push setting (world_step setting w f) es e

run_outputs-push : (setting : Setting) (w : World) (es : List Event) (e : Event) → run_outputs setting w (es ++ e ∷ []) ≡ run_outputs setting w es ++ world_outputs setting (world_run setting w es) e
run_outputs-push setting w [] e = append-nil (world_outputs setting w e)
run_outputs-push setting w (f ∷ es) e =
    ap (λ outs. world_outputs setting w f ++ outs) (run_outputs-push setting (world_step setting w f) es e)
    ∙ sym (append_assoc (world_outputs setting w f) (run_outputs setting (world_step setting w f) es) (world_outputs setting (world_run setting (world_step setting w f) es) e))

world_more : (setting : Setting) (w : World) (es : List Event) (i : ℕ) (e : Event) → i < length es → e ≡ get_or es i e → world_run setting w (take (i + 1) es) ≡ world_step setting (world_run setting w (take i es)) e
world_more setting w es i e within is = ap (world_run setting w) (take_more es i e within ∙ ap (λ f. take i es ++ f ∷ []) (sym is)) ∙ world_run-push setting w (take i es) e

outputs_more : (setting : Setting) (w : World) (es : List Event) (i : ℕ) (e : Event) → i < length es → e ≡ get_or es i e → run_outputs setting w (take (i + 1) es) ≡ run_outputs setting w (take i es) ++ world_outputs setting (world_run setting w (take i es)) e
outputs_more setting w es i e within is = ap (run_outputs setting w) (take_more es i e within ∙ ap (λ f. take i es ++ f ∷ []) (sym is)) ∙ run_outputs-push setting w (take i es) e

pub outputs_go_on : (setting : Setting) (w : World) (es : List Event) (i : ℕ) (e : Event) (outs told : List Out) (mine : Setting) (now : World) → i < length es → e ≡ get_or es i e → mine ≡ setting → now ≡ world_run setting w (take i es) → outs ≡ run_outputs setting w (take i es) → told ≡ outs ++ world_outputs mine now e → told ≡ run_outputs setting w (take (i + 1) es)
outputs_go_on setting w es i e outs told mine now within is alike world so_far more =
    more ∙ (λ j. so_far j ++ world_outputs (alike j) (world j) e) ∙ sym (outputs_more setting w es i e within is)

pub world_goes_on : (setting : Setting) (w : World) (es : List Event) (i : ℕ) (e : Event) (new : World) (mine : Setting) (now : World) → i < length es → e ≡ get_or es i e → mine ≡ setting → now ≡ world_run setting w (take i es) → new ≡ world_step mine now e → new ≡ world_run setting w (take (i + 1) es)
world_goes_on setting w es i e new mine now within is alike world more =
    more ∙ (λ j. world_step (alike j) (world j) e) ∙ sym (world_more setting w es i e within is)
