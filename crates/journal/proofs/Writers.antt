-- The states of a writer.
use Rattle.std.proofs.Common.{◌≡◌, ◌≢◌, ◌∙◌, ◌<◌, ℕ, List, [], ◌∷◌, ◌++◌, length, take, Some, None, Bool, true, false, refl, sym, ap, subst, true≢false, ◌+◌, arith}
use Rattle.std.specs.Prelude.{not, Option, Result, Ok, Err, OnOk}
use Rattle.std.specs.Result.{is_err}
use Rattle.std.specs.Io.KnownBytes.{Appends}
use Rattle.std.proofs.lemmas.List.{append-nil, length-append}
use Rattle.journal.proofs.Stops.{nothing_found, line_found, line_lines, line_whole, line_parts, line_prefix, mark_told, turn_found, turn_told, turn_refused, survives_all, survives_none, survives_nothing, cut_told}
use Rattle.hub_events.specs.declared.event.Event.{Event as HubEvent}
use Rattle.journal.specs.Entries.{digest_of, entry_of}
use Rattle.journal.specs.Journals.{is_whole, lines_from, lines_of, AddsLine, EndsCut}
use Rattle.journal.specs.Stops.{Found, found_by, found_from, found_of, marked, told_by, told_at, Survives}
use Rattle.journal.specs.declared.entry.Entry.{Entry}
use Rattle.journal.specs.declared.entry.Entry.TheVariants.{Event, Turn}
use Rattle.journal.specs.Writers.{EndsWith, HasTurn, IsEnded, IsHandling, IsMarked, IsOpen, SaysTurn, Waits, Wrote, WroteTurn}
use Rattle.journal.specs.declared.writer.Writer.{Writer}

-- the line of an event more
pub event_waits : (is_hosted : List ℕ → Bool) (file old new : List ℕ) (changes : ℕ) (taken now : List HubEvent) (event : HubEvent)
    → Waits is_hosted file old changes taken now → AddsLine is_hosted (Event event) old new → Waits is_hosted file new changes taken (now ++ (event ∷ []))
event_waits is_hosted file old new changes taken now event waits adds =
    let found = line_found is_hosted (Event event) file old new adds waits.whole in
    record {
      behind = waits.behind;
      whole = line_whole is_hosted (Event event) file old new adds;
      survives = subst (λ xs. Survives is_hosted file xs changes taken) (sym adds.is)
          (line_prefix file old adds.line (λ ls. told_by (found_from is_hosted nothing_found ls) changes ≡ Some taken) adds.one waits.survives
          (subst (λ xs. told_at is_hosted (file ++ xs) changes ≡ Some taken) adds.is (ap (λ f. told_by f changes) found ∙ survives_all is_hosted file old changes taken waits.survives)));
      waiting = ap (λ f. f.waiting) found ∙ ap (λ es. es ++ (event ∷ [])) waits.waiting;
      lines = ap (λ f. f.lines) found ∙ ap (λ xs. xs ++ (adds.line ++ (10 ∷ []))) waits.lines ∙ sym adds.is;
    }

-- lines behind a file that end in the mark of their turn
pub record Closed (is_hosted : List ℕ → Bool) (file bytes : List ℕ) (before after : ℕ) (taken now : List HubEvent) : Type 0 where
  pub part : (n : ℕ) → n < length bytes → told_at is_hosted (file ++ take n bytes) before ≡ Some taken
  pub says : SaysTurn is_hosted (file ++ bytes) before after taken now
  pub marked : IsMarked is_hosted (file ++ bytes)

pub turn_closed : (is_hosted : List ℕ → Bool) (file old new : List ℕ) (before after : ℕ) (taken now : List HubEvent)
    → Waits is_hosted file old before taken now → AddsLine is_hosted (Turn (length now) before after (digest_of old)) old new → Closed is_hosted file new before after taken now
turn_closed is_hosted file old new before after taken now waits adds =
    let found = line_found is_hosted (Turn (length now) before after (digest_of old)) file old new adds waits.whole
    ∙ turn_found (found_of is_hosted (file ++ old)) adds.line before after taken now old waits.waiting waits.lines (survives_all is_hosted file old before taken waits.survives) in
    record {
      part = subst (λ xs. (n : ℕ) → n < length xs → told_at is_hosted (file ++ take n xs) before ≡ Some taken) (sym adds.is)
          (line_parts file old adds.line (λ ls. told_by (found_from is_hosted nothing_found ls) before ≡ Some taken) adds.one waits.survives);
      says = record {
        told = turn_told taken now before after (found_of is_hosted (file ++ new)) found;
        refused = turn_refused taken now before after (found_of is_hosted (file ++ new)) found;
      };
      marked = record {
        whole = line_whole is_hosted (Turn (length now) before after (digest_of old)) file old new adds;
        waiting = ap (λ f. f.waiting) found;
        lines = ap (λ f. f.lines) found;
      };
    }

-- nothing waits behind a mark
pub waits_nothing : (is_hosted : List ℕ → Bool) (file : List ℕ) (changes : ℕ) (taken : List HubEvent) → IsMarked is_hosted file → told_at is_hosted file changes ≡ Some taken
    → Waits is_hosted file [] changes taken []
waits_nothing is_hosted file changes taken is told =
    let same = append-nil file in
    record {
      behind = is;
      whole = ap is_whole same ∙ is.whole;
      survives = survives_nothing is_hosted file changes taken told;
      waiting = ap (λ xs. (found_of is_hosted xs).waiting) same ∙ is.waiting;
      lines = ap (λ xs. (found_of is_hosted xs).lines) same ∙ is.lines;
    }

-- a mark with that count of changes follows whole lines
pub record Begun (is_hosted : List ℕ → Bool) (file bytes : List ℕ) (changes : ℕ) (taken : List HubEvent) : Type 0 where
  pub survives : Survives is_hosted file bytes changes taken
  pub waits : Waits is_hosted (file ++ bytes) [] changes taken []

pub begun : (is_hosted : List ℕ → Bool) (file bytes : List ℕ) (changes : ℕ) (taken : List HubEvent) (mark : Entry) → ((found : Found) (line : List ℕ) → found_by found line mark ≡ marked found changes)
    → is_whole file ≡ true → told_at is_hosted file changes ≡ Some taken → AddsLine is_hosted mark [] bytes → Begun is_hosted file bytes changes taken
begun is_hosted file bytes changes taken mark marks whole told adds =
    let same = append-nil file in
    let found = line_found is_hosted mark file [] bytes adds (ap is_whole same ∙ whole) ∙ marks (found_of is_hosted (file ++ [])) adds.line in
    let after = ap (λ f. told_by f changes) found ∙ mark_told (found_of is_hosted (file ++ [])) [] [] changes taken (ap (λ xs. told_at is_hosted xs changes) same ∙ told) in
    record {
      survives = subst (λ xs. Survives is_hosted file xs changes taken) (sym adds.is)
          (line_prefix file [] adds.line (λ ls. told_by (found_from is_hosted nothing_found ls) changes ≡ Some taken) adds.one (survives_nothing is_hosted file changes taken told)
          (subst (λ xs. told_at is_hosted (file ++ xs) changes ≡ Some taken) adds.is after));
      waits = waits_nothing is_hosted (file ++ bytes) changes taken
          (record { whole = line_whole is_hosted mark file [] bytes adds; waiting = ap (λ f. f.waiting) found; lines = ap (λ f. f.lines) found }) after;
    }

-- the last line of a file
pub ends_with : (is_hosted : List ℕ → Bool) (entry : Entry) (file bytes : List ℕ) (now : Option (List ℕ)) → AddsLine is_hosted entry [] bytes → is_whole file ≡ true → now ≡ Some (file ++ bytes)
    → EndsWith is_hosted entry now
ends_with is_hosted entry file bytes now adds whole is =
    record { bytes = file ++ bytes; known = is; before = lines_of (file ++ []); line = adds.line; last = line_lines is_hosted entry file [] bytes adds (ap is_whole (append-nil file) ∙ whole); says = adds.says }

pub adds_behind : (is_hosted : List ℕ → Bool) (entry : Entry) (old line new : List ℕ) → AddsLine is_hosted entry [] line → new ≡ old ++ line → AddsLine is_hosted entry old new
adds_behind is_hosted entry old line new adds is = record { line = adds.line; is = is ∙ ap (λ xs. old ++ xs) adds.is; one = adds.one; says = adds.says }

appended_to : (new : Option (List ℕ)) (file bytes : List ℕ) → Appends (Some file) new bytes → new ≡ Some (file ++ bytes)
appended_to None file bytes p = absurd p
appended_to (Some xs) file bytes p = ap Some p

pub appended : (old new : Option (List ℕ)) (file bytes : List ℕ) → old ≡ Some file → Appends old new bytes → new ≡ Some (file ++ bytes)
appended old new file bytes is p = appended_to new file bytes (subst (λ o. Appends o new bytes) is p)

-- a file that has no part of a line at its end
pub not_cut : (is_hosted : List ℕ → Bool) (old : Option (List ℕ)) (cut : Bool) (bytes : List ℕ) (taken : List HubEvent) (changes : ℕ) → old ≡ Some bytes → cut ≡ false → is_whole bytes ≡ not cut
    → told_at is_hosted bytes changes ≡ Some taken → IsEnded is_hosted bytes old changes taken
not_cut is_hosted old cut bytes taken changes is uncut whole told = record {
  added = [];
  is = is ∙ ap Some (sym (append-nil bytes));
  survives = survives_nothing is_hosted bytes changes taken told;
  whole = ap is_whole (append-nil bytes) ∙ whole ∙ ap not uncut;
  told = ap (λ xs. told_at is_hosted xs changes) (append-nil bytes) ∙ told;
}

pub was_cut : (is_hosted : List ℕ → Bool) (old new : Option (List ℕ)) (bytes cut : List ℕ) (taken : List HubEvent) (changes : ℕ) → old ≡ Some bytes → Appends old new cut → EndsCut cut → cut ≡ 255 ∷ 10 ∷ []
    → told_at is_hosted bytes changes ≡ Some taken → IsEnded is_hosted bytes new changes taken
was_cut is_hosted old new bytes cut taken changes is appends ends same told =
    let end = ends bytes in
    let all = cut_told is_hosted bytes cut end.0 changes taken end.1 (end.2 is_hosted) same told in
    record { added = cut; is = appended old new bytes cut is appends; survives = all.0; whole = all.1; told = survives_all is_hosted bytes cut changes taken all.0 }

-- ---- the code of a writer

pub on_ok_two : {T E P Q R : Type 0} (r : Result T E) → (P → Q → R) → OnOk r P → OnOk r Q → OnOk r R
on_ok_two (Ok x) f p q = f p q
on_ok_two (Err e) f p q = tt

pub on_ok : {T E P Q : Type 0} (r : Result T E) → (P → Q) → OnOk r P → OnOk r Q
on_ok (Ok x) f p = f p
on_ok (Err e) f p = tt

pub ok_of : {T E P : Type 0} (r : Result T E) → is_err r ≡ false → OnOk r P → P
ok_of (Ok x) e p = p
ok_of (Err x) e p = absurd (true≢false e)

-- a mark with that count of changes was appended to known bytes
pub record Marked (is_hosted : List ℕ → Bool) (old new : Option (List ℕ)) (file bytes : List ℕ) (changes : ℕ) (taken : List HubEvent) (mark : Entry) : Type 0 where
  pub wrote : Wrote is_hosted old new changes taken
  pub is : new ≡ Some (file ++ bytes)
  pub survives : Survives is_hosted file bytes changes taken
  pub waits : Waits is_hosted (file ++ bytes) [] changes taken []
  pub ends : EndsWith is_hosted mark new

pub mark_written : (is_hosted : List ℕ → Bool) (old new : Option (List ℕ)) (file before bytes : List ℕ) (changes : ℕ) (taken : List HubEvent) (mark : Entry)
    → ((found : Found) (line : List ℕ) → found_by found line mark ≡ marked found changes) → old ≡ Some file → is_whole file ≡ true → told_at is_hosted file changes ≡ Some taken
    → before ≡ [] → AddsLine is_hosted mark before bytes → Appends old new bytes → Marked is_hosted old new file bytes changes taken mark
mark_written is_hosted old new file before bytes changes taken mark marks was whole told none adds appends =
    let line = subst (λ xs. AddsLine is_hosted mark xs bytes) none adds in
    let is = appended old new file bytes was appends in
    let it = begun is_hosted file bytes changes taken mark marks whole told line in
    record {
      wrote = record { file = file; added = bytes; was = was; is = is; survives = it.survives };
      is = is;
      survives = it.survives;
      waits = it.waits;
      ends = ends_with is_hosted mark file bytes new line whole is;
    }

pub opened : {W : Type 0} (contents : W → Option (List ℕ)) (is_hosted : List ℕ → Bool) (writer : Writer W) (file : List ℕ) (changes : ℕ) (taken : List HubEvent)
    → contents writer.file ≡ Some file → Waits is_hosted file [] changes taken [] → writer.lines.bytes.items ≡ [] → writer.changes ≡ changes → writer.events ≡ 0 → IsOpen contents is_hosted writer taken []
opened contents is_hosted writer file changes taken known waits empty same none = record {
  file = file;
  known = known;
  waits = subst (λ n. Waits is_hosted file writer.lines.bytes.items n taken []) (sym same) (subst (λ xs. Waits is_hosted file xs changes taken []) (sym empty) waits);
  number = none;
}

-- a turn was written
pub turn_written : {W : Type 0} (contents : W → Option (List ℕ)) (is_hosted : List ℕ → Bool) (old new : Writer W) (bytes : List ℕ) (after : ℕ) (taken now : List HubEvent)
    → IsOpen contents is_hosted old taken now → AddsLine is_hosted (Turn old.events old.changes after (digest_of old.lines.bytes.items)) old.lines.bytes.items bytes
    → Appends (contents old.file) (contents new.file) bytes → new.lines.bytes.items ≡ [] → new.events ≡ 0 → new.changes ≡ old.changes
    → WroteTurn is_hosted (contents old.file) (contents new.file) old.changes after taken now × HasTurn contents is_hosted new after taken now
turn_written contents is_hosted old new bytes after taken now was adds appends empty none same =
    let line = subst (λ n. AddsLine is_hosted (Turn n old.changes after (digest_of old.lines.bytes.items)) old.lines.bytes.items bytes) was.number adds in
    let closed = turn_closed is_hosted was.file old.lines.bytes.items bytes old.changes after taken now was.waits line in
    let is = appended (contents old.file) (contents new.file) was.file bytes was.known appends in (
      record { file = was.file; added = bytes; was = was.known; is = is; part = closed.part; all = closed.says },
      record {
        file = was.file ++ bytes;
        known = is;
        says = subst (λ n. SaysTurn is_hosted (was.file ++ bytes) n after taken now) (sym same) closed.says;
        marked = closed.marked;
        none = none;
        empty = empty;
      },
    )

-- without a line no event waits
pub none_now : {W : Type 0} (contents : W → Option (List ℕ)) (is_hosted : List ℕ → Bool) (writer : Writer W) (taken now : List HubEvent) → IsOpen contents is_hosted writer taken now
    → writer.lines.bytes.items ≡ [] → now ≡ []
none_now contents is_hosted writer taken now was empty =
    sym was.waits.waiting ∙ ap (λ xs. (found_of is_hosted (was.file ++ xs)).waiting) empty ∙ ap (λ xs. (found_of is_hosted xs).waiting) (append-nil was.file) ∙ was.waits.behind.waiting

-- nothing was written
pub nothing_added : {W : Type 0} (contents : W → Option (List ℕ)) (is_hosted : List ℕ → Bool) (writer : Writer W) (taken now : List HubEvent) → IsOpen contents is_hosted writer taken now
    → WroteTurn is_hosted (contents writer.file) (contents writer.file) writer.changes writer.changes taken []
nothing_added contents is_hosted writer taken now was =
    let end = append-nil was.file in
    let told = survives_none is_hosted was.file writer.lines.bytes.items writer.changes taken was.waits.survives in
    record {
      file = was.file;
      added = [];
      was = was.known;
      is = was.known ∙ ap Some (sym end);
      part = λ n less. absurd (nothing_less n less);
      all = record { told = ap (λ xs. told_at is_hosted xs writer.changes) end ∙ told ∙ ap Some (sym (append-nil taken)); refused = λ other. absurd (other refl) };
    }
  where
    nothing_less : (n : ℕ) → n < 0 → ⊥
    nothing_less n less = omega (arith, less)

-- nothing is to be written
pub nothing_written : {W : Type 0} (contents : W → Option (List ℕ)) (is_hosted : List ℕ → Bool) (writer : Writer W) (after : ℕ) (taken now : List HubEvent)
    → IsOpen contents is_hosted writer taken now → writer.lines.bytes.items ≡ [] → after ≡ writer.changes
    → WroteTurn is_hosted (contents writer.file) (contents writer.file) writer.changes after taken now × HasTurn contents is_hosted (record writer { events = 0 }) after taken now
nothing_written contents is_hosted writer after taken now was empty same =
    let end = append-nil was.file in
    let none : now ≡ [] = none_now contents is_hosted writer taken now was empty in
    let told : told_at is_hosted was.file after ≡ Some (taken ++ now) =
    ap (told_at is_hosted was.file) same ∙ survives_none is_hosted was.file writer.lines.bytes.items writer.changes taken was.waits.survives ∙ ap Some (sym (ap (λ es. taken ++ es) none ∙ append-nil taken)) in (
      record {
        file = was.file;
        added = [];
        was = was.known;
        is = was.known ∙ ap Some (sym end);
        part = λ n less. absurd (nothing_less n less);
        all = record { told = ap (λ xs. told_at is_hosted xs after) end ∙ told; refused = λ other. absurd (other same) };
      },
      record {
        file = was.file;
        known = was.known;
        says = record { told = told; refused = λ other. absurd (other same) };
        marked = was.waits.behind;
        none = refl;
        empty = empty;
      },
    )
  where
    nothing_less : (n : ℕ) → n < 0 → ⊥
    nothing_less n less = omega (arith, less)

pub settled : {W : Type 0} (contents : W → Option (List ℕ)) (is_hosted : List ℕ → Bool) (old new : Writer W) (changes : ℕ) (taken now : List HubEvent) → HasTurn contents is_hosted old changes taken now
    → new.file ≡ old.file → new.lines.bytes.items ≡ old.lines.bytes.items → new.events ≡ old.events → new.changes ≡ changes → IsOpen contents is_hosted new (taken ++ now) []
settled contents is_hosted old new changes taken now turn file lines events same =
    opened contents is_hosted new turn.file changes (taken ++ now) (ap contents file ∙ turn.known) (waits_nothing is_hosted turn.file changes (taken ++ now) turn.marked turn.says.told)
    (lines ∙ turn.empty) same (events ∙ turn.none)

-- no line follows the mark, and the count of changes is the same
pub confirmed : {W : Type 0} (contents : W → Option (List ℕ)) (is_hosted : List ℕ → Bool) (old new : Writer W) (taken now : List HubEvent) → now ≡ [] → new.changes ≡ old.changes
    → WroteTurn is_hosted (contents old.file) (contents new.file) old.changes old.changes taken now × HasTurn contents is_hosted new old.changes taken now
    → WroteTurn is_hosted (contents old.file) (contents new.file) old.changes old.changes taken [] × IsOpen contents is_hosted new taken now
confirmed contents is_hosted old new taken now none same turn = (
  subst (λ es. WroteTurn is_hosted (contents old.file) (contents new.file) old.changes old.changes taken es) none turn.0,
  subst (λ es. IsOpen contents is_hosted new taken es) (sym none) (subst (λ es. IsOpen contents is_hosted new es []) (ap (λ es. taken ++ es) none ∙ append-nil taken)
      (settled contents is_hosted new new old.changes taken now turn.1 refl refl refl same)),
)

-- a file without a line
pub nothing_told : (is_hosted : List ℕ → Bool) (changes : ℕ) → told_at is_hosted [] changes ≡ Some []
unfolding lines_from found_from
nothing_told is_hosted changes = refl

-- the line of the event that is handled
pub event_taken : {W : Type 0} (contents : W → Option (List ℕ)) (is_hosted : List ℕ → Bool) (old new : Writer W) (taken now : List HubEvent) (event : HubEvent) → IsHandling contents is_hosted old taken now event
    → new.file ≡ old.file → new.changes ≡ old.changes → new.lines.bytes.items ≡ old.lines.bytes.items ++ old.current.bytes.items → new.events ≡ old.events + 1 → IsOpen contents is_hosted new taken (now ++ (event ∷ []))
event_taken contents is_hosted old new taken now event handling file changes lines events =
    let waits = event_waits is_hosted handling.was.file old.lines.bytes.items new.lines.bytes.items old.changes taken now event handling.was.waits
    (adds_behind is_hosted (Event event) old.lines.bytes.items old.current.bytes.items new.lines.bytes.items handling.line lines) in
    record {
      file = handling.was.file;
      known = ap contents file ∙ handling.was.known;
      waits = subst (λ n. Waits is_hosted handling.was.file new.lines.bytes.items n taken (now ++ (event ∷ []))) (sym changes) waits;
      number = events ∙ ap (λ n. n + 1) handling.was.number ∙ sym (length-append now (event ∷ []));
    }
