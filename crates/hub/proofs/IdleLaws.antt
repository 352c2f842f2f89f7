-- A tick at which no call ends changes nothing.
use Rattle.std.proofs.Common.{◌≡◌, ◌∙◌, ◌+◌, ◌++◌, ℕ, List, [], ◌∷◌, length, Option, Some, None, true, false, refl, sym, ap, arith, nat_eq, if◌then◌else◌}
use Rattle.std.specs.Prelude.{option_map}
use Rattle.std.proofs.lemmas.List.{nil_from_length}
use Rattle.hub_events.specs.declared.event.Event.{Event}
use Rattle.hub_events.specs.declared.event.Event.TheVariants.{Tick}
use Rattle.hub_events.specs.declared.out.Out.{Out}
use Rattle.hub_events.specs.declared.out.Outcome.TheVariants.{Timeout}
use Rattle.hub.specs.Effects.{moved_outputs, tick_outputs}
use Rattle.hub.specs.World.{Setting, World, world_outputs, world_step}
use Rattle.plans.specs.Effects.{StationSlot}
use Rattle.operator_cmds.specs.declared.command.Command.{Command}
use Rattle.pending_calls.specs.Slot.{Flight, expiry, is_late, move_of, moved_on}
use Rattle.pending_calls.specs.Tick.{tick}

some_out : (out : Out) (outs : List Out) → out ∷ outs ≡ [] → ⊥
some_out out outs e = omega (arith, ap length e)

none_both : (xs ys : List Out) → xs ++ ys ≡ [] → (xs ≡ []) × (ys ≡ [])
none_both [] ys e = (refl, e)
none_both (x ∷ xs) ys e = absurd (some_out x (xs ++ ys) e)

-- the slot of a station of which nothing is said
by_flight : (m : ℕ) (s : StationSlot) (f : Option (Flight Command)) → moved_outputs Timeout (if is_late m f then option_map (move_of s) f else None) ≡ []
    → (if is_late m f then moved_on m s else s) ≡ s
by_flight m s None e = refl
by_flight m s (Some f) e =
    elim (is_late m (Some f)) as (λ b. moved_outputs Timeout (if b then option_map (move_of s) (Some f) else None) ≡ [] → (if b then moved_on m s else s) ≡ s) [
      | true ↦ λ e. absurd (some_out _ _ e)
      | false ↦ λ e. refl
    ] e

all_slots : (m : ℕ) (slots : List StationSlot) → tick_outputs m slots ≡ [] → tick m slots ≡ slots
all_slots m [] e = refl
all_slots m (s ∷ slots) e =
    let parts = none_both (moved_outputs Timeout (expiry m s)) (tick_outputs m slots) e in
    ap (λ x. x ∷ tick m slots) (by_flight m s s.in_flight parts.0) ∙ ap (λ xs. s ∷ xs) (all_slots m slots parts.1)

idle : (setting : Setting) (w : World) (m : ℕ) (outs : List Out) → outs ≡ [] → outs ≡ world_outputs setting w (Tick m) → world_step setting w (Tick m) ≡ w
idle setting w m outs none said = ap (λ slots. record w { slots = slots }) (all_slots m w.slots (sym said ∙ none))

pub idle_event : (setting : Setting) (w : World) (event : Event) (m : ℕ) (outs : List Out) → event ≡ Tick m → nat_eq (length outs) 0 ≡ true → outs ≡ world_outputs setting w event → world_step setting w event ≡ w
idle_event setting w event m outs is none said =
    ap (world_step setting w) is
    ∙ idle setting w m outs (nil_from_length outs (grind (arith, none))) (said ∙ ap (world_outputs setting w) is)
