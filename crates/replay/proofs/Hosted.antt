-- What lines spell: events of hosted operators, and nothing where they are too long. Failures are counted along.
use Rattle.std.proofs.Common.{◌≡◌, ◌<◌, ℕ, List, Bool, true, false, cond, refl, subst, arith}
use Rattle.std.specs.Prelude.{Option, Some, None}
use Rattle.hub_events.specs.declared.event.Event.{Event as HubEvent}
use Rattle.hub_events.specs.declared.event.Event.TheVariants as event
use Rattle.hub.specs.Hub.{is_of_hosted}
use Rattle.lines.specs.declared.input_line.TheConstants.{MAX_LINE}
use Rattle.lines.specs.declared.input_line.Line.{Line}
use Rattle.lines.specs.declared.input_line.Line.TheVariants as line
use Rattle.lines.specs.InputLines.{spelled, spelled_text, event_or_bad, event_of, operator_event, is_utf8}
use Rattle.lines.specs.Forms.{what_of}
use Rattle.lines.specs.Words.{first_word, moment_at, ◌>>=◌}
use Rattle.std.specs.Prelude.{nat_lt, ◌==◌, codes, length}
use Rattle.std.specs.Str.{bytes_eq}
use Rattle.std.specs.Io.BufRead.{strip_last}
use Rattle.replay.specs.Run.{IsOfHosted}

bind_gives : {A B : Type 0} (P : B → Type 0) (x : Option A) (f : A → Option B) → ((a : A) (b : B) → f a ≡ Some b → P b) → (b : B) → (x >>= f) ≡ Some b → P b
bind_gives P None f g b e = absurd (cc)
bind_gives P (Some a) f g b e = g a b e

when_gives : {B : Type 0} (P : B → Type 0) (t : Bool) (x : Option B) → (t ≡ true → (b : B) → x ≡ Some b → P b) → (b : B) → cond t x None ≡ Some b → P b
when_gives P false x g b e = absurd (cc)
when_gives P true x g b e = g refl b e

same_event : (x e : HubEvent) → Some x ≡ Some e → x ≡ e
same_event x e is = cc

either_gives : (P : HubEvent → Type 0) (t : Bool) (x : HubEvent) (rest : Option HubEvent) → P x → ((e : HubEvent) → rest ≡ Some e → P e) → (e : HubEvent) → cond t (Some x) rest ≡ Some e → P e
either_gives P true x rest p g e is = subst P (same_event x e is) p
either_gives P false x rest p g e is = g e is

event_hosted : (hosted : List ℕ → Bool) (text : List ℕ) (e : HubEvent) → event_of hosted text ≡ Some e → is_of_hosted hosted e ≡ true
unfolding event_of
event_hosted hosted text =
    let P : HubEvent → Type 0 = λ e. is_of_hosted hosted e ≡ true in
    bind_gives P (first_word text) _ (λ first. bind_gives P (moment_at first.0) _ (λ moment.
    either_gives P (bytes_eq first.1 (codes "* tick")) (event.Tick moment) (operator_event hosted moment first.1) refl
    (bind_gives P (first_word first.1) _ (λ op. when_gives P (hosted op.0) _ (λ taken. bind_gives P (what_of op.1) _ (λ w e is.
    subst P (same_event (event.At op.0 moment w) e is) taken))))))

line_event : (x : Option HubEvent) (e : HubEvent) → line.Event e ≡ event_or_bad x → x ≡ Some e
line_event None e is = absurd (cc)
line_event (Some x) e is = cc

-- an event that a line spells is of a hosted operator
spelled_hosted : (hosted : List ℕ → Bool) (bytes : List ℕ) (e : HubEvent) → line.Event e ≡ spelled hosted bytes → is_of_hosted hosted e ≡ true
unfolding spelled
spelled_hosted hosted bytes e =
    elim (nat_lt MAX_LINE (length bytes)) as (λ t. line.Event e ≡ cond t line.Bad (spelled_text hosted (strip_last 13 bytes)) → is_of_hosted hosted e ≡ true) [
      | true ↦ λ is. absurd (cc)
      | false ↦ text_hosted (strip_last 13 bytes)
    ]
  where
    text_hosted : (text : List ℕ) → line.Event e ≡ spelled_text hosted text → is_of_hosted hosted e ≡ true
    text_hosted text =
        elim (length text == 0) as (λ t. line.Event e ≡ cond t line.Nothing (cond (is_utf8 text) (event_or_bad (event_of hosted text)) line.Bad) → is_of_hosted hosted e ≡ true) [
          | true ↦ λ is. absurd (cc)
          | false ↦ elim (is_utf8 text) as (λ t. line.Event e ≡ cond t (event_or_bad (event_of hosted text)) line.Bad → is_of_hosted hosted e ≡ true) [
            | true ↦ λ is. event_hosted hosted text e (line_event (event_of hosted text) e is)
            | false ↦ λ is. absurd (cc)
          ]
        ]

of_hosted : (hosted : List ℕ → Bool) (said : Line) → ((e : HubEvent) → line.Event e ≡ said → is_of_hosted hosted e ≡ true) → IsOfHosted hosted said
of_hosted hosted line.Nothing f = tt
of_hosted hosted (line.Event e) f = f e refl
of_hosted hosted line.Bad f = tt

pub spelled_of_hosted : (hosted : List ℕ → Bool) (bytes : List ℕ) → IsOfHosted hosted (spelled hosted bytes)
spelled_of_hosted hosted bytes = of_hosted hosted (spelled hosted bytes) (spelled_hosted hosted bytes)

pub long_bad : (hosted : List ℕ → Bool) (bytes : List ℕ) → MAX_LINE < length bytes → line.Bad ≡ spelled hosted bytes
unfolding spelled
long_bad hosted bytes h = grind arith
