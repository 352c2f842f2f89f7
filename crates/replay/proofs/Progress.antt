-- How far the lines of an input have been answered.
use Rattle.std.proofs.Common.{arith, subst, ◌≡◌, ◌∙◌, sym, ap, ◌+◌, ◌++◌, ◌⊎◌, inl, inr, List, ℕ, [], ◌∷◌, length, length-append, take, refl, Bool, false, append_assoc, append-nil}
use Rattle.std.specs.Prelude.{Option, Some, None, IfSome}
use Rattle.std.specs.Io.KnownBytes.{Appends, Keeps}
use Rattle.std.proofs.Math.Seq.{take-append_seam}
use Rattle.hub_rows.specs.Rows.{Rows}
use Rattle.hub.specs.World.{Setting, World}
use Rattle.lines.specs.InputLines.{spelled}
use Rattle.replay.specs.Held.{lines_of}
use Rattle.replay.specs.Lines.{HandsOut, IsDone, lines_from}
use Rattle.replay.specs.Run.{Begins, IsStep, IsReached, AreReached, Stands, Falls, AppendsFront, answer, answers_to, after, world_after, output_of}
use Rattle.replay.proofs.Facts.{stands_start, stands_all, stands_begins, stands_kept}

-- from world w and line k on, all was to come; lines of it were answered up to world v and line n, and what is ahead is to come; their answers have been written, but for text'
pub record Progress (clean : Type 0) (st : Setting) (w v : World) (k n : ℕ) (begin now : Option (List ℕ)) (text text' : List ℕ) (all ahead : List (List ℕ)) : Type 0 where
  pub done : List (List ℕ)
  pub lines : all ≡ done ++ ahead
  pub number : n ≡ k + length done
  pub world : clean → v ≡ world_after st w done
  pub written : clean → (start : Option (List ℕ)) (whole : List ℕ) → Stands start begin (text ++ answers_to st w k all) whole → Stands start now (text' ++ answers_to st v n ahead) whole

abbrev pub ProgressOf : Type 0 → Setting → World → World → ℕ → ℕ → Option (List ℕ) → Option (List ℕ) → List ℕ → List ℕ → Option (List (List ℕ)) → Option (List (List ℕ)) → Type 0
ProgressOf clean st w v k n begin now text text' None ahead = Unit {0}
ProgressOf clean st w v k n begin now text text' (Some all) None = ⊥
ProgressOf clean st w v k n begin now text text' (Some all) (Some ahead) = Progress clean st w v k n begin now text text' all ahead

pub progress_none : (clean : Type 0) (st : Setting) (w : World) (k : ℕ) (begin : Option (List ℕ)) (text : List ℕ) (all : Option (List (List ℕ))) → ProgressOf clean st w w k k begin begin text text all all
unfolding world_after
progress_none clean st w k begin text None = tt
progress_none clean st w k begin text (Some all) = record { done = []; lines = refl; number = omega arith; world = λ c. refl; written = λ c start whole s. s }

world_more : (st : Setting) (w : World) (ls : List (List ℕ)) (l : List ℕ) → world_after st w (ls ++ l ∷ []) ≡ after st (world_after st w ls) (spelled st.is_hosted l)
unfolding world_after
world_more st w [] l = refl
world_more st w (x ∷ xs) l = world_more st (after st w (spelled st.is_hosted x)) xs l

answers_more : (st : Setting) (w : World) (k : ℕ) (l : List ℕ) (rest : List (List ℕ)) (text : List ℕ) → text ++ answers_to st w k (l ∷ rest) ≡ (text ++ answer st w k (spelled st.is_hosted l)) ++ answers_to st (after st w (spelled st.is_hosted l)) (k + 1) rest
unfolding answers_to
answers_more st w k l rest text = sym (append_assoc text (answer st w k (spelled st.is_hosted l)) (answers_to st (after st w (spelled st.is_hosted l)) (k + 1) rest))

-- a line is answered
pub line_done : (clean clean' : Type 0) (st mine : Setting) (w v v' : World) (k n n' : ℕ) (begin now : Option (List ℕ)) (text text' text'' : List ℕ) (all rest : List (List ℕ)) (l : List ℕ) →
    Progress clean st w v k n begin now text text' all (l ∷ rest) → (clean' → clean) → mine ≡ st → n' ≡ n + 1 →
    (clean' → v' ≡ after mine v (spelled mine.is_hosted l)) → (clean' → text'' ≡ text' ++ answer mine v n (spelled mine.is_hosted l)) →
    Progress clean' st w v' k n' begin now text text'' all rest
line_done clean clean' st mine w v v' k n n' begin now text text' text'' all rest l p back alike number to_world to_text =
    let step : clean' → v' ≡ after st v (spelled st.is_hosted l) = λ c. to_world c ∙ ap (λ s. after s v (spelled s.is_hosted l)) alike in
    let told : clean' → text'' ≡ text' ++ answer st v n (spelled st.is_hosted l) = λ c. to_text c ∙ ap (λ s. text' ++ answer s v n (spelled s.is_hosted l)) alike in
    record {
      done = p.done ++ l ∷ [];
      lines = p.lines ∙ sym (append_assoc p.done (l ∷ []) rest);
      number = omega (arith, number, p.number, length-append p.done (l ∷ []));
      world = λ c. step c ∙ ap (λ x. after st x (spelled st.is_hosted l)) (p.world (back c)) ∙ sym (world_more st w p.done l);
      written = λ c start whole s.
          let before = subst (λ t. Stands start now t whole) (answers_more st v n l rest text') (p.written (back c) start whole s) in
          subst (λ t. Stands start now t whole) (λ i. sym (told c) i ++ answers_to st (sym (step c) i) (sym number i) rest) before;
    }

pub progress_line : (clean clean' : Type 0) (st mine : Setting) (w v v' : World) (k n n' : ℕ) (begin now : Option (List ℕ)) (text text' text'' : List ℕ) (all ahead rest : Option (List (List ℕ))) (P : List ℕ → Type 0) →
    ProgressOf clean st w v k n begin now text text' all ahead → HandsOut ahead rest P → (clean' → clean) → mine ≡ st → n' ≡ n + 1 →
    (clean' → (l : List ℕ) → P l → v' ≡ after mine v (spelled mine.is_hosted l)) → (clean' → (l : List ℕ) → P l → text'' ≡ text' ++ answer mine v n (spelled mine.is_hosted l)) →
    ProgressOf clean' st w v' k n' begin now text text'' all rest
progress_line clean clean' st mine w v v' k n n' begin now text text' text'' None ahead rest P p h back alike number to_world to_text = tt
progress_line clean clean' st mine w v v' k n n' begin now text text' text'' (Some all) None rest P p h back alike number to_world to_text = absurd p
progress_line clean clean' st mine w v v' k n n' begin now text text' text'' (Some all) (Some ahead) None P p h back alike number to_world to_text = absurd h
progress_line clean clean' st mine w v v' k n n' begin now text text' text'' (Some all) (Some ahead) (Some rest) P p h back alike number to_world to_text =
    line_done clean clean' st mine w v v' k n n' begin now text text' text'' all rest h.0 (subst (λ ls. Progress clean st w v k n begin now text text' all ls) h.1 p) back alike number (λ c. to_world c h.0 h.2) (λ c. to_text c h.0 h.2)

-- some of the text is written
pub progress_write : (clean : Type 0) (st : Setting) (w v : World) (k n : ℕ) (begin now new : Option (List ℕ)) (text text' text'' : List ℕ) (all ahead : Option (List (List ℕ))) →
    ProgressOf clean st w v k n begin now text text' all ahead → ((start : Option (List ℕ)) (more whole : List ℕ) → Stands start now (text' ++ more) whole → Stands start new (text'' ++ more) whole) →
    ProgressOf clean st w v k n begin new text text'' all ahead
progress_write clean st w v k n begin now new text text' text'' None ahead p f = tt
progress_write clean st w v k n begin now new text text' text'' (Some all) None p f = absurd p
progress_write clean st w v k n begin now new text text' text'' (Some all) (Some ahead) p f = record { done = p.done; lines = p.lines; number = p.number; world = p.world; written = λ c start whole s. f start (answers_to st v n ahead) whole (p.written c start whole s) }

-- the same, where the world is the one before
pub progress_settle : (clean clean' : Type 0) (st : Setting) (w v v' : World) (k n n' : ℕ) (begin now new : Option (List ℕ)) (text text' text'' : List ℕ) (all ahead : Option (List (List ℕ))) →
    ProgressOf clean st w v k n begin now text text' all ahead → (clean' → clean) → (clean' → v' ≡ v) → n' ≡ n → ((start : Option (List ℕ)) (more whole : List ℕ) → Stands start now (text' ++ more) whole → Stands start new (text'' ++ more) whole) →
    ProgressOf clean' st w v' k n' begin new text text'' all ahead
progress_settle clean clean' st w v v' k n n' begin now new text text' text'' None ahead p back same number f = tt
progress_settle clean clean' st w v v' k n n' begin now new text text' text'' (Some all) None p back same number f = absurd p
progress_settle clean clean' st w v v' k n n' begin now new text text' text'' (Some all) (Some ahead) p back same number f = record {
  done = p.done;
  lines = p.lines;
  number = number ∙ p.number;
  world = λ c. same c ∙ p.world (back c);
  written = λ c start whole s. subst (λ t. Stands start new t whole) (λ i. text'' ++ answers_to st (sym (same c) i) (sym number i) ahead)
      (f start (answers_to st v n ahead) whole (p.written (back c) start whole s));
}

pub progress_end_world : (clean : Type 0) (st : Setting) (w v v' : World) (k n : ℕ) (begin now : Option (List ℕ)) (text text' : List ℕ) (all ahead : Option (List (List ℕ))) →
    ProgressOf clean st w v k n begin now text text' all ahead → IsDone ahead → clean → v' ≡ v → IfSome all (λ ls. v' ≡ world_after st w ls)
progress_end_world clean st w v v' k n begin now text text' None ahead p d c same = tt
progress_end_world clean st w v v' k n begin now text text' (Some all) None p d c same = absurd p
progress_end_world clean st w v v' k n begin now text text' (Some all) (Some ahead) p d c same =
    same ∙ p.world c ∙ ap (world_after st w) (sym (p.lines ∙ ap (λ ls. p.done ++ ls) d ∙ append-nil p.done))

pub progress_end_text : (clean : Type 0) (st : Setting) (w v : World) (k n : ℕ) (begin now new last : Option (List ℕ)) (text text' : List ℕ) (all ahead : Option (List (List ℕ))) →
    ProgressOf clean st w v k n begin now text text' all ahead → IsDone ahead → clean →
    ((start : Option (List ℕ)) (more whole : List ℕ) → Stands start now (text' ++ more) whole → Stands start new more whole) → Keeps new last →
    IfSome all (λ ls. (start : Option (List ℕ)) (whole : List ℕ) → Stands start begin (text ++ answers_to st w k ls) whole → Stands start last [] whole)
unfolding answers_to
progress_end_text clean st w v k n begin now new last text text' None ahead p d c f kept = tt
progress_end_text clean st w v k n begin now new last text text' (Some all) None p d c f kept = absurd p
progress_end_text clean st w v k n begin now new last text text' (Some all) (Some ahead) p d c f kept = λ start whole s.
    stands_kept start new last [] whole kept (f start [] whole (subst (λ ls. Stands start now (text' ++ answers_to st v n ls) whole) d (p.written c start whole s)))

-- it stops where it is
pub reached : (st : Setting) (w v : World) (all done ahead : List (List ℕ)) → all ≡ done ++ ahead → v ≡ world_after st w done → IsReached st w all v
reached st w v all done ahead lines world = record {
  taken = length done;
  is = world ∙ ap (world_after st w) (sym (ap (take (length done)) lines ∙ take-append_seam done ahead));
}

pub progress_stop_world : (clean clean' : Type 0) (st : Setting) (w v : World) (k n : ℕ) (begin now : Option (List ℕ)) (text text' : List ℕ) (all ahead : Option (List (List ℕ))) →
    ProgressOf clean st w v k n begin now text text' all ahead → (clean' → clean) → clean' → IfSome all (λ ls. IsReached st w ls v)
progress_stop_world clean clean' st w v k n begin now text text' None ahead p back c = tt
progress_stop_world clean clean' st w v k n begin now text text' (Some all) None p back c = absurd p
progress_stop_world clean clean' st w v k n begin now text text' (Some all) (Some ahead) p back c = reached st w v all p.done ahead p.lines (p.world (back c))

-- the same, where the world is the one before
pub progress_stop_settled : (clean clean' : Type 0) (st : Setting) (w v v' : World) (k n : ℕ) (begin now : Option (List ℕ)) (text text' : List ℕ) (all ahead : Option (List (List ℕ))) →
    ProgressOf clean st w v k n begin now text text' all ahead → (clean' → clean) → clean' → v' ≡ v → IfSome all (λ ls. IsReached st w ls v')
progress_stop_settled clean clean' st w v v' k n begin now text text' all ahead p back c same =
    subst (λ x. IfSome all (λ ls. IsReached st w ls x)) (sym same) (progress_stop_world clean clean' st w v k n begin now text text' all ahead p back c)

-- with what the text fell to
pub progress_stop_text : (clean clean' : Type 0) (st : Setting) (w v : World) (k n : ℕ) (begin now new : Option (List ℕ)) (text text' text'' : List ℕ) (all ahead : Option (List (List ℕ))) →
    ProgressOf clean st w v k n begin now text text' all ahead → (clean' → clean) → clean' → ((start : Option (List ℕ)) (more whole : List ℕ) → Stands start now (text' ++ more) whole → Falls start new text'' whole) →
    IfSome all (λ ls. (start : Option (List ℕ)) (whole : List ℕ) → Stands start begin (text ++ answers_to st w k ls) whole → Falls start new text'' whole)
progress_stop_text clean clean' st w v k n begin now new text text' text'' None ahead p back c f = tt
progress_stop_text clean clean' st w v k n begin now new text text' text'' (Some all) None p back c f = absurd p
progress_stop_text clean clean' st w v k n begin now new text text' text'' (Some all) (Some ahead) p back c f = λ start whole s. f start (answers_to st v n ahead) whole (p.written (back c) start whole s)

-- it stops in a line
line_reached : (st mine : Setting) (w v v' : World) (all done rest : List (List ℕ)) (l : List ℕ) → all ≡ done ++ l ∷ rest → v ≡ world_after st w done → mine ≡ st → IsStep mine v (spelled mine.is_hosted l) v' → IsReached st w all v'
line_reached st mine w v v' all done rest l lines world alike (inl same) = reached st w v' all done (l ∷ rest) lines (same ∙ world)
line_reached st mine w v v' all done rest l lines world alike (inr step) =
    reached st w v' all (done ++ l ∷ []) rest (lines ∙ sym (append_assoc done (l ∷ []) rest))
    (step ∙ ap (λ s. after s v (spelled s.is_hosted l)) alike ∙ ap (λ u. after st u (spelled st.is_hosted l)) world ∙ sym (world_more st w done l))

pub progress_line_world : (clean clean' : Type 0) (st mine : Setting) (w v v' : World) (k n : ℕ) (begin now : Option (List ℕ)) (text text' : List ℕ) (all ahead rest : Option (List (List ℕ))) (P : List ℕ → Type 0) →
    ProgressOf clean st w v k n begin now text text' all ahead → HandsOut ahead rest P → (clean' → clean) → clean' → mine ≡ st → ((l : List ℕ) → P l → IsStep mine v (spelled mine.is_hosted l) v') → IfSome all (λ ls. IsReached st w ls v')
progress_line_world clean clean' st mine w v v' k n begin now text text' None ahead rest P p h back c alike f = tt
progress_line_world clean clean' st mine w v v' k n begin now text text' (Some all) None rest P p h back c alike f = absurd p
progress_line_world clean clean' st mine w v v' k n begin now text text' (Some all) (Some ahead) None P p h back c alike f = absurd h
progress_line_world clean clean' st mine w v v' k n begin now text text' (Some all) (Some ahead) (Some rest) P p h back c alike f =
    line_reached st mine w v v' all p.done rest h.0 (p.lines ∙ ap (λ ls. p.done ++ ls) h.1) (p.world (back c)) alike (f h.0 h.2)

-- a stop finds the rows of a world that is reached
pub rows_reached : (st : Setting) (w v : World) (lines : List (List ℕ)) (r : Rows) → IsReached st w lines v → r ≡ v.rows → AreReached st w lines r
rows_reached st w v lines r at is = record { taken = at.taken; is = is ∙ ap (λ (u : World). u.rows) at.is }

pub progress_stop_rows : (st : Setting) (w v : World) (all : Option (List (List ℕ))) (r : Rows) → IfSome all (λ ls. IsReached st w ls v) → r ≡ v.rows → IfSome all (λ ls. AreReached st w ls r)
progress_stop_rows st w v None r at is = tt
progress_stop_rows st w v (Some all) r at is = rows_reached st w v all r at is

-- in a line it finds those before it or those after it
pub progress_line_rows : (clean : Type 0) (st mine : Setting) (w v : World) (k n : ℕ) (begin now : Option (List ℕ)) (text text' : List ℕ) (all ahead rest : Option (List (List ℕ))) (P : List ℕ → Type 0) (r : Rows) →
    ProgressOf clean st w v k n begin now text text' all ahead → HandsOut ahead rest P → mine ≡ st → ((on_record : Rows) → (clean → v.rows ≡ on_record) → (l : List ℕ) → P l → (r ≡ on_record) ⊎ (clean × (r ≡ (after mine v (spelled mine.is_hosted l)).rows))) → IfSome all (λ ls. AreReached st w ls r)
progress_line_rows clean st mine w v k n begin now text text' None ahead rest P r p h alike f = tt
progress_line_rows clean st mine w v k n begin now text text' (Some all) None rest P r p h alike f = absurd p
progress_line_rows clean st mine w v k n begin now text text' (Some all) (Some ahead) None P r p h alike f = absurd h
progress_line_rows clean st mine w v k n begin now text text' (Some all) (Some ahead) (Some rest) P r p h alike f =
    let lines = p.lines ∙ ap (λ ls. p.done ++ ls) h.1 in
    let before : World = world_after st w p.done in
    elim (f before.rows (λ c. ap (λ (u : World). u.rows) (p.world c)) h.0 h.2) [
      | inl same ↦ rows_reached st w before all r (reached st w before all p.done ahead p.lines refl) same
      | inr made ↦ rows_reached st w (after mine v (spelled mine.is_hosted h.0)) all r (line_reached st mine w v (after mine v (spelled mine.is_hosted h.0)) all p.done rest h.0 lines (p.world made.0) alike (inr refl)) made.1
    ]

begins_more : (text front more : List ℕ) → Begins text front → Begins text (front ++ more)
begins_more text front more b = record { more = b.more ++ more; is = sym (append_assoc text b.more more) ∙ ap (λ t. t ++ more) b.is }

pub progress_line_text : (clean clean' : Type 0) (st mine : Setting) (w v : World) (k n : ℕ) (begin now : Option (List ℕ)) (text text' text'' : List ℕ) (all ahead rest : Option (List (List ℕ))) (P : List ℕ → Type 0) →
    ProgressOf clean st w v k n begin now text text' all ahead → HandsOut ahead rest P → (clean' → clean) → clean' → mine ≡ st → ((l : List ℕ) → P l → Begins text'' (text' ++ answer mine v n (spelled mine.is_hosted l))) →
    IfSome all (λ ls. (start : Option (List ℕ)) (whole : List ℕ) → Stands start begin (text ++ answers_to st w k ls) whole → Falls start now text'' whole)
progress_line_text clean clean' st mine w v k n begin now text text' text'' None ahead rest P p h back c alike f = tt
progress_line_text clean clean' st mine w v k n begin now text text' text'' (Some all) None rest P p h back c alike f = absurd p
progress_line_text clean clean' st mine w v k n begin now text text' text'' (Some all) (Some ahead) None P p h back c alike f = absurd h
progress_line_text clean clean' st mine w v k n begin now text text' text'' (Some all) (Some ahead) (Some rest) P p h back c alike f = λ start whole s.
    let l = h.0 in
    let before = subst (λ ls. Stands start now (text' ++ answers_to st v n ls) whole) h.1 (p.written (back c) start whole s) in
    let told : Begins text'' (text' ++ answer st v n (spelled st.is_hosted l)) = subst (λ x. Begins text'' (text' ++ answer x v n (spelled x.is_hosted l))) alike (f l h.2) in
    stands_begins start now text'' _ whole (begins_more text'' _ (answers_to st (after st v (spelled st.is_hosted l)) (n + 1) rest) told) (subst (λ t. Stands start now t whole) (answers_more st v n l rest text') before)

-- all is written, and the writer's last call fails
pub falls_kept : (now new last : Option (List ℕ)) (text text' : List ℕ) → text' ≡ [] → Keeps new last → ((start : Option (List ℕ)) (more whole : List ℕ) → Stands start now (text ++ more) whole → Stands start new more whole) →
    (start : Option (List ℕ)) (more whole : List ℕ) → Stands start now (text ++ more) whole → Falls start last text' whole
falls_kept now new last text text' none kept f start more whole s = record {
  ahead = more;
  stands = subst (λ t. Stands start last (t ++ more) whole) (sym none) (stands_kept start new last more whole kept (f start more whole s));
}

-- all is written
pub settled_text : (now new : Option (List ℕ)) (text text' : List ℕ) → text' ≡ [] → ((start : Option (List ℕ)) (more whole : List ℕ) → Stands start now (text ++ more) whole → Stands start new more whole) →
    (start : Option (List ℕ)) (more whole : List ℕ) → Stands start now (text ++ more) whole → Stands start new (text' ++ more) whole
settled_text now new text text' none f start more whole s = subst (λ t. Stands start new (t ++ more) whole) (sym none) (f start more whole s)

-- the whole of an input is to come
pub all_to_come : (Q : List (List ℕ) → Type 0) (P : List ℕ → Type 0) → ((input : List ℕ) → Q (lines_of input) → P input) → (ended : Bool) (bytes : List ℕ) (remaining : Option (List ℕ)) → ended ≡ false → bytes ≡ [] → IfSome (lines_from ended bytes remaining) Q → IfSome remaining P
all_to_come Q P f ended bytes remaining unended none q = whole remaining (rw (unended, none) at q)
  where
    whole : (rest : Option (List ℕ)) → IfSome (lines_from false [] rest) Q → IfSome rest P
    whole None r = tt
    whole (Some input) r = f input r

-- all that is written for an input has been appended
pub appends_all : (start now : Option (List ℕ)) (text : List ℕ) (st : Setting) (w : World) → text ≡ [] → (input : List ℕ) → ((begin : Option (List ℕ)) (whole : List ℕ) → Stands begin start (text ++ answers_to st w 1 (lines_of input)) whole → Stands begin now [] whole) → Appends start now (output_of st w input)
appends_all start now text st w none input f =
    stands_all start now (output_of st w input) (f start (output_of st w input) (subst (λ t. Stands start start (t ++ output_of st w input) (output_of st w input)) (sym none) (stands_start start (output_of st w input))))

-- a front of it has
pub appends_front : (start now new : Option (List ℕ)) (text text' : List ℕ) (st : Setting) (w : World) → text ≡ [] → ((begin : Option (List ℕ)) (ahead whole : List ℕ) → Stands begin now (text' ++ ahead) whole → AppendsFront begin new whole) → (input : List ℕ) → ((begin : Option (List ℕ)) (whole : List ℕ) → Stands begin start (text ++ answers_to st w 1 (lines_of input)) whole → Falls begin now text' whole) → AppendsFront start new (output_of st w input)
appends_front start now new text text' st w none g input f =
    let h = f start (output_of st w input) (subst (λ t. Stands start start (t ++ output_of st w input) (output_of st w input)) (sym none) (stands_start start (output_of st w input))) in
    g start h.ahead (output_of st w input) h.stands
