-- What a stop leaves of lines, and what they say.
use Rattle.std.proofs.Common.{◌≡◌, ◌≢◌, ◌∙◌, ◌<◌, ◌≤◌, ◌+◌, ◌-◌, ℕ, suc, zero, List, [], ◌∷◌, ◌++◌, length, take, Some, None, Bool, true, false, refl, sym, ap, subst, arith, inl, inr, true≢false, if◌then◌else◌}
use Rattle.std.specs.Prelude.{◌==◌, ◌⊎◌, ◌||◌, ◌&&◌, Option}
use Rattle.std.specs.List.{list_any}
use Rattle.std.specs.Str.{bytes_eq}
use Rattle.std.proofs.lemmas.List.{append_assoc, append-nil, take-append-le, take_all, length-append}
use Rattle.std.proofs.lemmas.Option.{none-some}
use Rattle.std.proofs.lemmas.Slice.Eq.{bytes_eq-Decides}
use Rattle.std.proofs.Math.Seq.{take-append-add}
use Rattle.journal.proofs.Laws.{whole_end, both, one_from}
use Rattle.hub_events.specs.declared.event.Event.{Event as HubEvent}
use Rattle.lines.specs.Journal.{is_feed}
use Rattle.journal.specs.Entries.{digest_of, entry_of}
use Rattle.journal.specs.Journals.{lines_from, lines_of, is_whole, AddsLine}
use Rattle.journal.specs.Stops.{Found, found_by, found_after, found_from, found_of, taken_where, told_by, told_at, Survives}
use Rattle.journal.specs.Tails.{ends_turn, fits}
use Rattle.journal.specs.Writers.{SaysTurn, Waits}
use Rattle.journal.specs.declared.entry.Entry.{Entry}
use Rattle.journal.specs.declared.entry.Entry.TheVariants.{Begins, Continues, Event, Turn, Bad}

-- nothing was read
abbrev pub nothing_found : Found
nothing_found = record { taken = []; held = []; counts = None; waiting = []; lines = [] }

-- one line more
pub found_more : (is_hosted : List ℕ → Bool) (found : Found) (lines : List (List ℕ)) (line : List ℕ)
    → found_from is_hosted found (lines ++ (line ∷ [])) ≡ found_after is_hosted (found_from is_hosted found lines) line
unfolding found_from
found_more is_hosted found [] line = refl
found_more is_hosted found (first ∷ rest) line = found_more is_hosted (found_after is_hosted found first) rest line

-- a part of a line is none
pub part_none : (begun file part : List ℕ) → list_any is_feed part ≡ false → lines_from begun (file ++ part) ≡ lines_from begun file
unfolding lines_from
part_none begun [] [] none = refl
part_none begun [] (x ∷ part) none =
    elim (x == 10) as (λ b. (b ≡ true → false ≡ true) → (b ≡ false → list_any is_feed part ≡ false)
    → (if b then begun ∷ lines_from [] part else lines_from (begun ++ (x ∷ [])) part) ≡ []) [
      | true ↦ λ never more. absurd (true≢false (sym (never refl)))
      | false ↦ λ never more. part_none (begun ++ (x ∷ [])) [] part (more refl)
    ] (λ e. grind (arith, e, none)) (λ e. grind (arith, e, none))
part_none begun (x ∷ file) part none =
    elim (x == 10) as (λ b. (if b then begun ∷ lines_from [] (file ++ part) else lines_from (begun ++ (x ∷ [])) (file ++ part))
    ≡ (if b then begun ∷ lines_from [] file else lines_from (begun ++ (x ∷ [])) file)) [
      | true ↦ ap (λ ls. begun ∷ ls) (part_none [] file part none)
      | false ↦ part_none (begun ++ (x ∷ [])) file part none
    ]

-- ---- one line more

-- behind a file
regroup : (file old line : List ℕ) → file ++ (old ++ (line ++ (10 ∷ []))) ≡ (file ++ old) ++ (line ++ (10 ∷ []))
regroup file old line = sym (append_assoc file old (line ++ (10 ∷ [])))

pub line_whole : (is_hosted : List ℕ → Bool) (entry : Entry) (file old new : List ℕ) → AddsLine is_hosted entry old new → is_whole (file ++ new) ≡ true
line_whole is_hosted entry file old new adds =
    ap (λ xs. is_whole (file ++ xs)) adds.is ∙ ap is_whole (regroup file old adds.line ∙ sym (append_assoc (file ++ old) adds.line (10 ∷ []))) ∙ whole_end false ((file ++ old) ++ adds.line)

pub line_lines : (is_hosted : List ℕ → Bool) (entry : Entry) (file old new : List ℕ) (adds : AddsLine is_hosted entry old new) → is_whole (file ++ old) ≡ true
    → lines_of (file ++ new) ≡ lines_of (file ++ old) ++ (adds.line ∷ [])
line_lines is_hosted entry file old new adds whole =
    ap (λ xs. lines_of (file ++ xs)) adds.is ∙ ap lines_of (regroup file old adds.line)
    ∙ both (file ++ old) (adds.line ++ (10 ∷ [])) whole ∙ ap (λ ls. lines_of (file ++ old) ++ ls) (one_from [] adds.line adds.one)

pub line_found : (is_hosted : List ℕ → Bool) (entry : Entry) (file old new : List ℕ) (adds : AddsLine is_hosted entry old new) → is_whole (file ++ old) ≡ true
    → found_of is_hosted (file ++ new) ≡ found_by (found_of is_hosted (file ++ old)) adds.line entry
line_found is_hosted entry file old new adds whole =
    ap (found_from is_hosted nothing_found) (line_lines is_hosted entry file old new adds whole)
    ∙ found_more is_hosted nothing_found (lines_of (file ++ old)) adds.line
    ∙ ap (found_by (found_of is_hosted (file ++ old)) adds.line) adds.says

none_taken : (n : ℕ) (xs : List ℕ) → list_any is_feed xs ≡ false → list_any is_feed (take n xs) ≡ false
none_taken zero xs none = refl
none_taken (suc n) [] none = refl
none_taken (suc n) (x ∷ xs) none =
    elim (is_feed x) as (λ b. (b || list_any is_feed xs) ≡ false → (b || list_any is_feed (take n xs)) ≡ false) [
      | true ↦ λ e. e
      | false ↦ λ e. none_taken n xs e
    ] none

at_least : (k n : ℕ) → (k ≤ n) ⊎ (n < k)
at_least k n = grind arith

split_at : (n m : ℕ) → m < n → n ≡ m + (n - m)
split_at n m less = omega (arith, less)

-- a part of a line leaves the lines before it
part_of_line : (file line : List ℕ) (k : ℕ) → k ≤ length line → list_any is_feed line ≡ false → lines_of (file ++ take k (line ++ (10 ∷ []))) ≡ lines_of file
part_of_line file line k within none =
    part_none [] file (take k (line ++ (10 ∷ []))) (ap (list_any is_feed) (take-append-le k line (10 ∷ []) within) ∙ none_taken k line none)

-- what holds whatever a stop leaves of lines holds too with a part of the next one
pub line_parts : (file old line : List ℕ) (P : List (List ℕ) → Type 0) → list_any is_feed line ≡ false → ((n : ℕ) → P (lines_of (file ++ take n old)))
    → (n : ℕ) → n < length (old ++ (line ++ (10 ∷ []))) → P (lines_of (file ++ take n (old ++ (line ++ (10 ∷ [])))))
line_parts file old line P none was n less =
    elim (at_least n (length old)) as (λ _. P (lines_of (file ++ take n (old ++ (line ++ (10 ∷ [])))))) [
      | inl few ↦ subst (λ xs. P (lines_of (file ++ xs))) (sym (take-append-le n old (line ++ (10 ∷ [])) few)) (was n)
      | inr many ↦
          let k = n - length old in
          let long = length-append old (line ++ (10 ∷ [])) in
          let one = length-append line (10 ∷ []) in
          let parts : take n (old ++ (line ++ (10 ∷ []))) ≡ old ++ take k (line ++ (10 ∷ [])) =
          ap (λ m. take m (old ++ (line ++ (10 ∷ [])))) (split_at n (length old) many) ∙ take-append-add old (line ++ (10 ∷ [])) k in
          subst P (sym (ap (λ xs. lines_of (file ++ xs)) parts ∙ ap lines_of (sym (append_assoc file old (take k (line ++ (10 ∷ [])))))
          ∙ part_of_line (file ++ old) line k (omega (arith, less, long, one, many)) none
          ∙ ap (λ xs. lines_of (file ++ xs)) (sym (take_all (length old) old (omega arith)))))
          (was (length old))
    ]

-- and with all of it
pub line_prefix : (file old line : List ℕ) (P : List (List ℕ) → Type 0) → list_any is_feed line ≡ false → ((n : ℕ) → P (lines_of (file ++ take n old)))
    → P (lines_of (file ++ (old ++ (line ++ (10 ∷ []))))) → (n : ℕ) → P (lines_of (file ++ take n (old ++ (line ++ (10 ∷ [])))))
line_prefix file old line P none was all n =
    elim (at_least (length (old ++ (line ++ (10 ∷ [])))) n) as (λ _. P (lines_of (file ++ take n (old ++ (line ++ (10 ∷ [])))))) [
      | inl many ↦ subst (λ xs. P (lines_of (file ++ xs))) (sym (take_all n (old ++ (line ++ (10 ∷ []))) many)) all
      | inr less ↦ line_parts file old line P none was n less
    ]

-- ---- the events that a journal says were taken

pub same_number : (n : ℕ) → (n == n) ≡ true
same_number n = grind arith

other_number : (m n : ℕ) → m ≢ n → (n == m) ≡ false
other_number m n other = grind (arith, other)

same_some : {X : Type 0} (x y : X) → Some x ≡ Some y → x ≡ y
same_some x y e = ap (λ o. elim o [ Some z ↦ z | None ↦ x ]) e

pub told_where : (found : Found) (changes : ℕ) (taken : List HubEvent) → told_by found changes ≡ Some taken → taken_where found changes ≡ taken
told_where found changes taken told =
    elim (fits found.counts changes) as (λ b. (if b then Some (taken_where found changes) else None) ≡ Some taken → taken_where found changes ≡ taken) [
      | true ↦ λ e. same_some (taken_where found changes) taken e
      | false ↦ λ e. absurd (none-some taken e)
    ] told

-- a mark of as many changes as are on record says the same
pub mark_told : (found : Found) (line operators : List ℕ) (changes : ℕ) (taken : List HubEvent) → told_by found changes ≡ Some taken
    → told_by (found_by found line (Begins changes operators)) changes ≡ Some taken
mark_told found line operators changes taken told =
    let same = same_number changes in
    ap (λ b. if b || b then Some (if b then taken_where found changes ++ [] else taken_where found changes) else None) same
    ∙ ap Some (append-nil (taken_where found changes) ∙ told_where found changes taken told)

ends_itself : (now : List HubEvent) (lines : List ℕ) → ends_turn (length now) lines (length now) (digest_of lines) ≡ true
ends_itself now lines =
    ap (λ b. b && bytes_eq (digest_of lines) (digest_of lines)) (same_number (length now)) ∙ (bytes_eq-Decides (digest_of lines) (digest_of lines)).1 refl

-- the mark of a turn
pub turn_found : (found : Found) (line : List ℕ) (before after : ℕ) (taken now : List HubEvent) (lines : List ℕ)
    → found.waiting ≡ now → found.lines ≡ lines → told_by found before ≡ Some taken
    → found_by found line (Turn (length now) before after (digest_of lines)) ≡ record { taken = taken; held = now; counts = Some (record { before = before; after = after }); waiting = []; lines = [] }
turn_found found line before after taken now lines waits has told =
    let ends : ends_turn (length found.waiting) found.lines (length now) (digest_of lines) ≡ true =
    ap (λ w. ends_turn (length w) found.lines (length now) (digest_of lines)) waits ∙ ap (λ l. ends_turn (length now) l (length now) (digest_of lines)) has ∙ ends_itself now lines in
    let made : List HubEvent → List HubEvent → Found = λ t h. record { taken = t; held = h; counts = Some (record { before = before; after = after }); waiting = []; lines = [] } in
    ap (λ b. if b then made (taken_where found before) found.waiting else record found { waiting = []; lines = [] }) ends
    ∙ ap (λ t. made t found.waiting) (told_where found before taken told) ∙ ap (made taken) waits

pub turn_told : (taken now : List HubEvent) (before after : ℕ) (found : Found)
    → found ≡ record { taken = taken; held = now; counts = Some (record { before = before; after = after }); waiting = []; lines = [] } → told_by found after ≡ Some (taken ++ now)
turn_told taken now before after found is =
    ap (λ f. told_by f after) is ∙ ap (λ b. if b || (after == before) then Some (if b then taken ++ now else taken) else None) (same_number after)

pub turn_refused : (taken now : List HubEvent) (before after : ℕ) (found : Found)
    → found ≡ record { taken = taken; held = now; counts = Some (record { before = before; after = after }); waiting = []; lines = [] } → after ≢ before → told_by found before ≡ Some taken
turn_refused taken now before after found is other =
    ap (λ f. told_by f before) is ∙ ap (λ b. if b || (before == before) then Some (if b then taken ++ now else taken) else None) (other_number after before other)
    ∙ ap (λ b. if b then Some taken else None) (same_number before)

-- ---- bytes behind bytes

pub take_nothing : (n : ℕ) → take {A = ℕ} n [] ≡ []
take_nothing zero = refl
take_nothing (suc n) = refl

-- nothing waits
pub survives_nothing : (is_hosted : List ℕ → Bool) (file : List ℕ) (changes : ℕ) (taken : List HubEvent) → told_at is_hosted file changes ≡ Some taken → Survives is_hosted file [] changes taken
survives_nothing is_hosted file changes taken told = λ n.
    subst (λ xs. told_at is_hosted xs changes ≡ Some taken) (sym (ap (λ xs. file ++ xs) (take_nothing n) ∙ append-nil file)) told

pub survives_all : (is_hosted : List ℕ → Bool) (file bytes : List ℕ) (changes : ℕ) (taken : List HubEvent) → Survives is_hosted file bytes changes taken → told_at is_hosted (file ++ bytes) changes ≡ Some taken
survives_all is_hosted file bytes changes taken survives =
    subst (λ xs. told_at is_hosted (file ++ xs) changes ≡ Some taken) (take_all (length bytes) bytes (omega arith)) (survives (length bytes))

pub survives_none : (is_hosted : List ℕ → Bool) (file bytes : List ℕ) (changes : ℕ) (taken : List HubEvent) → Survives is_hosted file bytes changes taken → told_at is_hosted file changes ≡ Some taken
survives_none is_hosted file bytes changes taken survives = subst (λ xs. told_at is_hosted xs changes ≡ Some taken) (append-nil file) (survives 0)

-- bytes behind bytes
pub survives_both : (is_hosted : List ℕ → Bool) (file first second : List ℕ) (changes : ℕ) (taken : List HubEvent) → Survives is_hosted file first changes taken
    → Survives is_hosted (file ++ first) second changes taken → Survives is_hosted file (first ++ second) changes taken
survives_both is_hosted file first second changes taken one two = λ n.
    elim (at_least n (length first)) as (λ _. told_at is_hosted (file ++ take n (first ++ second)) changes ≡ Some taken) [
      | inl few ↦ subst (λ xs. told_at is_hosted (file ++ xs) changes ≡ Some taken) (sym (take-append-le n first second few)) (one n)
      | inr many ↦
          subst (λ xs. told_at is_hosted xs changes ≡ Some taken)
          (append_assoc file first (take (n - length first) second) ∙ ap (λ xs. file ++ xs) (sym (ap (λ k. take k (first ++ second)) (split_at n (length first) many) ∙ take-append-add first second (n - length first))))
          (two (n - length first))
    ]

-- ---- a line that was cut

-- a part of a line that is ended, of which a stop may leave a part again
pub cut_told : (is_hosted : List ℕ → Bool) (file cut part : List ℕ) (changes : ℕ) (taken : List HubEvent) → lines_of (file ++ cut) ≡ lines_of file ++ (part ∷ []) → entry_of is_hosted part ≡ Bad
    → cut ≡ 255 ∷ 10 ∷ [] → told_at is_hosted file changes ≡ Some taken → Survives is_hosted file cut changes taken × (is_whole (file ++ cut) ≡ true)
cut_told is_hosted file cut part changes taken ends bad is told = (
  λ n. subst (λ xs. told_at is_hosted (file ++ take n xs) changes ≡ Some taken) (sym is) (left n),
  ap (λ xs. is_whole (file ++ xs)) is ∙ ap is_whole (sym (append_assoc file (255 ∷ []) (10 ∷ []))) ∙ whole_end false (file ++ (255 ∷ [])),
)
  where
    all : told_at is_hosted (file ++ (255 ∷ 10 ∷ [])) changes ≡ Some taken
    all = subst (λ xs. told_at is_hosted (file ++ xs) changes ≡ Some taken) is
        (ap (λ ls. told_by (found_from is_hosted nothing_found ls) changes) ends ∙ ap (λ f. told_by f changes) (found_more is_hosted nothing_found (lines_of file) part)
        ∙ ap (λ e. told_by (found_by (found_of is_hosted file) part e) changes) bad ∙ told)

    left : (n : ℕ) → told_at is_hosted (file ++ take n (255 ∷ 10 ∷ [])) changes ≡ Some taken
    left zero = ap (λ xs. told_at is_hosted xs changes) (append-nil file) ∙ told
    left (suc zero) = ap (λ ls. told_by (found_from is_hosted nothing_found ls) changes) (part_none [] file (255 ∷ []) refl) ∙ told
    left (suc (suc n)) = ap (λ xs. told_at is_hosted (file ++ (255 ∷ 10 ∷ xs)) changes) (take_nothing n) ∙ all
