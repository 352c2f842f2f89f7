-- Lines of a journal that is followed, and runs of events.
use Rattle.std.proofs.Common.{◌≡◌, ◌≢◌, ◌∙◌, ℕ, List, [], ◌∷◌, ◌++◌, length, drop, get_or, Option, Some, None, Bool, true, false, refl, sym, subst, ap, arith, if◌then◌else◌}
use Rattle.std.specs.Prelude.{◌==◌, IfSome}
use Rattle.std.specs.Io.BufRead.{take_through, drop_through, DropsThrough}
use Rattle.std.proofs.lemmas.List.{append_assoc, append-nil, length-append}
use Rattle.hub_events.specs.declared.event.Event.{Event as HubEvent}
use Rattle.hub.specs.World.{Setting, World, world_run, world_step}
use Rattle.journal.specs.Journals.{lines_from, lines_of}
use Rattle.standby.specs.Follows.{IsNext, Reads}

pub run_both : (st : Setting) (w : World) (front rest : List HubEvent) → world_run st w (front ++ rest) ≡ world_run st (world_run st w front) rest
run_both st w [] rest = refl
run_both st w (e ∷ front) rest = run_both st (world_step st w e) front rest

longer : (text : List ℕ) → [] ≡ text ++ (10 ∷ []) → ⊥
longer text e = omega (arith, ap length e, length-append text (10 ∷ []))

is_ten : (x : ℕ) → (x == 10) ≡ true → x ≡ 10
is_ten x e = grind (arith, e)

-- where the bytes up to the first line feed are a text and that line feed, the text is the next line
next_step : (begun : List ℕ) (x : ℕ) (xs text : List ℕ) (b : Bool) → (x == 10) ≡ b
    → ((begun text : List ℕ) → take_through 10 xs ≡ text ++ (10 ∷ []) → lines_from begun xs ≡ (begun ++ text) ∷ lines_of (drop_through 10 xs))
    → (if b then x ∷ [] else x ∷ take_through 10 xs) ≡ text ++ (10 ∷ [])
    → (if b then begun ∷ lines_of xs else lines_from (begun ++ (x ∷ [])) xs)
    ≡ (begun ++ text) ∷ lines_of (if b then xs else drop_through 10 xs)
next_step begun x xs [] true is more e = ap (λ line. line ∷ lines_of xs) (sym (append-nil begun))
next_step begun x xs (t ∷ text) true is more e = absurd (longer text (ap (drop 1) e))
next_step begun x xs [] false is more e = let ten = ap (λ l. get_or l 0 0) e in absurd (grind (arith, is, ten))
next_step begun x xs (t ∷ text) false is more e =
    let same : x ≡ t = ap (λ l. get_or l 0 0) e in
    more (begun ++ (x ∷ [])) text (ap (drop 1) e)
    ∙ ap (λ line. line ∷ lines_of (drop_through 10 xs)) (append_assoc begun (x ∷ []) text ∙ ap (λ y. begun ++ (y ∷ text)) same)

pub next_line : (bytes begun text : List ℕ) → take_through 10 bytes ≡ text ++ (10 ∷ [])
    → lines_from begun bytes ≡ (begun ++ text) ∷ lines_of (drop_through 10 bytes)
unfolding lines_from
next_line [] begun text e = absurd (longer text e)
next_line (x ∷ xs) begun text e = next_step begun x xs text (x == 10) refl (next_line xs) e

-- where they end without one, no line is left
none_step : (begun : List ℕ) (x : ℕ) (xs : List ℕ) (b : Bool) → (x == 10) ≡ b
    → ((begun : List ℕ) → ((text : List ℕ) → take_through 10 xs ≡ text ++ (10 ∷ []) → ⊥) → lines_from begun xs ≡ [])
    → ((text : List ℕ) → (if b then x ∷ [] else x ∷ take_through 10 xs) ≡ text ++ (10 ∷ []) → ⊥)
    → (if b then begun ∷ lines_of xs else lines_from (begun ++ (x ∷ [])) xs) ≡ []
none_step begun x xs true is more none = absurd (none [] (ap (λ y. y ∷ []) (is_ten x is)))
none_step begun x xs false is more none = more (begun ++ (x ∷ [])) (λ text e. none (x ∷ text) (ap (λ l. x ∷ l) e))

pub no_line : (bytes begun : List ℕ) → ((text : List ℕ) → take_through 10 bytes ≡ text ++ (10 ∷ []) → ⊥) → lines_from begun bytes ≡ []
unfolding lines_from
no_line [] begun none = refl
no_line (x ∷ xs) begun none = none_step begun x xs (x == 10) refl (no_line xs) none

-- what was read up to a line feed, of what a reader had left
pub reads_line : (old new : Option (List ℕ)) (items text : List ℕ) → IfSome old (λ xs. items ≡ take_through 10 xs) → DropsThrough old new 10 → items ≡ text ++ (10 ∷ []) → Reads old (Some text) new
reads_line None new items text bytes rest is = tt
reads_line (Some xs) new items text bytes rest is = subst (λ left. IsNext xs (Some text) left) (sym rest) (next_line xs [] text (sym bytes ∙ is))

pub reads_none : (old new : Option (List ℕ)) (items : List ℕ) → IfSome old (λ xs. items ≡ take_through 10 xs) → ((text : List ℕ) → items ≢ text ++ (10 ∷ [])) → Reads old None new
reads_none None new items bytes none = tt
reads_none (Some xs) new items bytes none = no_line xs [] (λ text e. none text (bytes ∙ e))
