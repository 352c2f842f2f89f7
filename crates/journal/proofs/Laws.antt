-- Lines of a journal.
use Rattle.std.proofs.Common.{◌≡◌, ◌∙◌, ◌<◌, ◌+◌, ◌^◌, ℕ, List, [], ◌∷◌, ◌++◌, length, Some, None, Bool, true, false, codes, refl, sym, ap, arith, nat_eq, true≢false, if◌then◌else◌, zero, suc}
use Rattle.std.specs.Prelude.{◌==◌, ◌||◌, ◌/◌, ◌%◌, not, slice_index, String, string_bytes}
use Rattle.std.specs.Fmt.{decimal}
use Rattle.std.specs.List.{list_any}
use Rattle.std.specs.Str.Lossy.{utf8_valid_len}
use Rattle.std.proofs.lemmas.Fmt.{decimal_is_IsNumeral, decimal_nonempty, length-decimal-le}
use Rattle.std.proofs.lemmas.Str.{IsUtf8-string_bytes}
use Rattle.std.proofs.lemmas.List.{append_assoc, append-nil, nil_from_length}
use Rattle.hub_events.specs.declared.event.Event.{Event as HubEvent}
use Rattle.hex.specs.Hex.{encode_lower, encode_with, lower_digits}
use Rattle.sha1.specs.Sha1.{sha1}
use Rattle.lines.specs.InputLines.{event_of}
use Rattle.lines.specs.Journal.{is_feed, Stands, IsReadBack, IsOneLine}
use Rattle.lines.specs.Words.{is_space}
use Rattle.lines.proofs.JournalLaws.{word_first, digits_plain}
use Rattle.lines.proofs.JournalFeeds.{joined, of_digits}
use Rattle.lines.proofs.Utf8Lines.{valid_text}
use Rattle.ocpp_types.specs.Digits.{number_of_digits}
use Rattle.journal.specs.Entries.{entry_of, entry_in, mark_in, event_or, begins_line, continues_line, turn_line, digest_of, IsCount, AreCounts}
use Rattle.journal.specs.Journals.{lines_from, lines_of, is_whole_from, is_whole, AddsLine}
use Rattle.journal.specs.declared.entry.Entry.{Entry}
use Rattle.journal.specs.declared.entry.Entry.TheVariants.{Begins, Continues, Event, Turn}

-- ---- whole lines

pub whole_end : (begun : Bool) (xs : List ℕ) → is_whole_from begun (xs ++ (10 ∷ [])) ≡ true
unfolding is_whole_from
whole_end begun [] = refl
whole_end begun (x ∷ xs) = whole_end (not (x == 10)) xs

pub whole_line : (old line : List ℕ) → is_whole (old ++ (line ++ (10 ∷ []))) ≡ true
whole_line old line = ap is_whole (sym (append_assoc old line (10 ∷ []))) ∙ whole_end false (old ++ line)

whole_none : is_whole [] ≡ true
unfolding is_whole_from
whole_none = refl

pub whole_nothing : (xs : List ℕ) → xs ≡ [] → is_whole xs ≡ true
whole_nothing xs none = ap is_whole none ∙ whole_none

pub nothing : (xs : List ℕ) → nat_eq (length xs) 0 ≡ true → xs ≡ []
nothing xs e = nil_from_length xs (grind (arith, e))

-- a line is added, or none
pub whole_if : (b : Bool) (old line : List ℕ) → is_whole old ≡ true → is_whole (if b then old ++ (line ++ (10 ∷ [])) else old) ≡ true
whole_if true old line whole = whole_line old line
whole_if false old line whole = whole

pub whole_cut : (b : Bool) (x : ℕ) (old : List ℕ) → is_whole old ≡ true → is_whole (if b then old ++ (x ∷ 10 ∷ []) else old) ≡ true
whole_cut b x old whole = whole_if b old (x ∷ []) whole

-- whole lines behind whole lines
joined_from : (begun : Bool) (xs ys : List ℕ) → is_whole_from begun xs ≡ true → is_whole ys ≡ true → is_whole_from begun (xs ++ ys) ≡ true
unfolding is_whole_from
joined_from true [] ys whole other = absurd (true≢false (sym whole))
joined_from false [] ys whole other = other
joined_from begun (x ∷ xs) ys whole other = joined_from (not (x == 10)) xs ys whole other

pub whole_both : (b : Bool) (old other : List ℕ) → is_whole old ≡ true → is_whole other ≡ true → is_whole (if b then old ++ other else old) ≡ true
whole_both true old other whole more = joined_from false old other whole more
whole_both false old other whole more = whole

-- the lines of whole lines and of those that follow
both_from : (line front back : List ℕ) (begun : Bool) → is_whole_from begun front ≡ true → (begun ≡ false → line ≡ [])
    → lines_from line (front ++ back) ≡ lines_from line front ++ lines_of back
unfolding lines_from is_whole_from
both_from line [] back true whole none = absurd (true≢false (sym whole))
both_from line [] back false whole none = ap (λ l. lines_from l back) (none refl)
both_from line (x ∷ front) back begun whole none =
    elim (x == 10) as (λ b. is_whole_from (not b) front ≡ true
    → (if b then line ∷ lines_from [] (front ++ back) else lines_from (line ++ (x ∷ [])) (front ++ back))
    ≡ (if b then line ∷ lines_from [] front else lines_from (line ++ (x ∷ [])) front) ++ lines_of back) [
      | true ↦ λ w. ap (λ ls. line ∷ ls) (both_from [] front back false w (λ _. refl))
      | false ↦ λ w. both_from (line ++ (x ∷ [])) front back true w (λ e. absurd (true≢false e))
    ] whole

pub both : (front back : List ℕ) → is_whole front ≡ true → lines_of (front ++ back) ≡ lines_of front ++ lines_of back
both front back whole = both_from [] front back false whole (λ _. refl)

-- a line without a line feed is one
pub one_from : (begun line : List ℕ) → list_any is_feed line ≡ false → lines_from begun (line ++ (10 ∷ [])) ≡ (begun ++ line) ∷ []
unfolding lines_from
one_from begun [] none = ap (λ l. l ∷ []) (sym (append-nil begun))
one_from begun (x ∷ line) none =
    elim (x == 10) as (λ b. (b ≡ true → (x == 10) ≡ true) → (b ≡ false → list_any is_feed line ≡ false) → (b ≡ true → false ≡ true)
    → (if b then begun ∷ lines_from [] (line ++ (10 ∷ [])) else lines_from (begun ++ (x ∷ [])) (line ++ (10 ∷ []))) ≡ (begun ++ (x ∷ line)) ∷ []) [
      | true ↦ λ is more never. absurd (true≢false (sym (never refl)))
      | false ↦ λ is more never. one_from (begun ++ (x ∷ [])) line (more refl) ∙ ap (λ l. l ∷ []) (append_assoc begun (x ∷ []) line)
    ] (λ e. e) (λ e. grind (arith, e, none)) (λ e. grind (arith, e, none))

-- ---- the line of an event

is_text : {Z : Type 0} (s : String Z) → nat_eq (utf8_valid_len (string_bytes s)) (length (string_bytes s)) ≡ true
is_text s = valid_text (string_bytes s) (IsUtf8-string_bytes s)

entry_is : {Z : Type 0} (is_hosted : List ℕ → Bool) (s : String Z) → entry_of is_hosted (string_bytes s) ≡ entry_in is_hosted (string_bytes s)
unfolding entry_of
entry_is is_hosted s = let text = is_text s in rw text refl

event_says : {Z : Type 0} (is_hosted : List ℕ → Bool) (event : HubEvent) (order : List ℕ) (s : String Z) → IsReadBack event order (string_bytes s) → Stands is_hosted event order
    → entry_of is_hosted (string_bytes s) ≡ Event event
event_says is_hosted event order s read stands = entry_is is_hosted s ∙ ap (λ e. event_or e (mark_in (string_bytes s))) (read is_hosted stands)

pub event_line : {Z : Type 0} (event : HubEvent) (order old : List ℕ) (s : String Z) → IsReadBack event order (string_bytes s) → IsOneLine event order (string_bytes s)
    → (is_hosted : List ℕ → Bool) → Stands is_hosted event order → AddsLine is_hosted (Event event) old (old ++ (string_bytes s ++ (10 ∷ [])))
event_line event order old s read one = λ is_hosted stands.
    record { line = string_bytes s; is = refl; one = one is_hosted stands; says = event_says is_hosted event order s read stands }

-- ---- the lines of the marks

pub record ReadsCount (n : ℕ) : Type 0 where
  pub value : number_of_digits 19 (decimal n) ≡ Some n
  pub spaceless : list_any is_space (decimal n) ≡ false
  pub feedless : list_any is_feed (decimal n) ≡ false
  pub some : 0 < length (decimal n)

count_read : (n : ℕ) → IsCount n → ReadsCount n
count_read n within =
    let small : n < 2 ^ 64 = omega (arith, within) in
    let numeral = decimal_is_IsNumeral n small in
    let digits = digits_plain (decimal n) numeral.0.1 in
    let some = decimal_nonempty n small in
    let few = length-decimal-le 19 n (omega arith) (omega (arith, within)) small in
    let all = digits.0 in
    let value = numeral.1 in
    record { value = grind (arith, all, value, some, few); spaceless = digits.1; feedless = of_digits (decimal n) numeral.0.1; some = some }

-- no digit of a digest is a line feed
either_false : (x y : Bool) → (x || y) ≡ false → (x ≡ false) × (y ≡ false)
either_false true y e = absurd (true≢false e)
either_false false y e = (refl, e)

picked : (digits : List ℕ) (n : ℕ) → list_any is_feed digits ≡ false → is_feed (slice_index digits n) ≡ false
picked [] n none = refl
picked (x ∷ digits) zero none = (either_false (is_feed x) (list_any is_feed digits) none).0
picked (x ∷ digits) (suc n) none = picked digits n (either_false (is_feed x) (list_any is_feed digits) none).1

hex_feedless : (xs : List ℕ) → list_any is_feed (encode_lower xs) ≡ false
unfolding encode_with
hex_feedless [] = refl
hex_feedless (x ∷ xs) =
    let high = picked lower_digits (x / 16) refl in
    let low = picked lower_digits (x % 16) refl in
    ap (λ b. b || (is_feed (slice_index lower_digits (x % 16)) || list_any is_feed (encode_lower xs))) high
    ∙ ap (λ b. b || list_any is_feed (encode_lower xs)) low ∙ hex_feedless xs

digest_feedless : (lines : List ℕ) → list_any is_feed (digest_of lines) ≡ false
unfolding digest_of
digest_feedless lines = hex_feedless (sha1 lines)

turn_feedless : (events before after : ℕ) (digest : List ℕ) → AreCounts events before after → list_any is_feed digest ≡ false
    → list_any is_feed (turn_line events before after digest) ≡ false
turn_feedless events before after digest counts none =
    joined (decimal events) (codes " " ++ (decimal before ++ (codes " " ++ (decimal after ++ (codes " " ++ digest))))) (count_read events counts.number).feedless
    (joined (decimal before) (codes " " ++ (decimal after ++ (codes " " ++ digest))) (count_read before counts.old).feedless
    (joined (decimal after) (codes " " ++ digest) (count_read after counts.new).feedless none))

turn_no_event : (is_hosted : List ℕ → Bool) (events before after : ℕ) (digest : List ℕ) → event_of is_hosted (turn_line events before after digest) ≡ None
unfolding event_of
turn_no_event is_hosted events before after digest =
    let first = word_first (codes "turn") (decimal events ++ (codes " " ++ (decimal before ++ (codes " " ++ (decimal after ++ (codes " " ++ digest)))))) refl (omega arith) in
    rw first refl

turn_mark : (events before after : ℕ) (digest : List ℕ) → AreCounts events before after → mark_in (turn_line events before after digest) ≡ Some (Turn events before after digest)
turn_mark events before after digest counts =
    let one = count_read events counts.number in
    let two = count_read before counts.old in
    let three = count_read after counts.new in
    let first = word_first (codes "turn") (decimal events ++ (codes " " ++ (decimal before ++ (codes " " ++ (decimal after ++ (codes " " ++ digest)))))) refl (omega arith) in
    let second = word_first (decimal events) (decimal before ++ (codes " " ++ (decimal after ++ (codes " " ++ digest)))) one.spaceless one.some in
    let third = word_first (decimal before) (decimal after ++ (codes " " ++ digest)) two.spaceless two.some in
    let fourth = word_first (decimal after) digest three.spaceless three.some in
    rw first (rw second (rw third (rw fourth (rw one.value (rw two.value (rw three.value refl))))))

pub turn_adds : {Z : Type 0} (events before after : ℕ) (lines old : List ℕ) (s : String Z) → string_bytes s ≡ turn_line events before after (digest_of lines) → AreCounts events before after
    → (is_hosted : List ℕ → Bool) → AddsLine is_hosted (Turn events before after (digest_of lines)) old (old ++ (string_bytes s ++ (10 ∷ [])))
turn_adds events before after lines old s is counts = λ is_hosted. record {
  line = string_bytes s;
  is = refl;
  one = ap (list_any is_feed) is ∙ turn_feedless events before after (digest_of lines) counts (digest_feedless lines);
  says = entry_is is_hosted s ∙ ap (entry_in is_hosted) is ∙ ap (λ e. event_or e (mark_in (turn_line events before after (digest_of lines)))) (turn_no_event is_hosted events before after (digest_of lines))
      ∙ ap (event_or None) (turn_mark events before after (digest_of lines) counts);
}

begins_no_event : (is_hosted : List ℕ → Bool) (changes : ℕ) (operators : List ℕ) → event_of is_hosted (begins_line changes operators) ≡ None
unfolding event_of
begins_no_event is_hosted changes operators =
    let first = word_first (codes "begins") (decimal changes ++ (codes " " ++ operators)) refl (omega arith) in
    rw first refl

begins_mark : (changes : ℕ) (operators : List ℕ) → IsCount changes → mark_in (begins_line changes operators) ≡ Some (Begins changes operators)
begins_mark changes operators within =
    let one = count_read changes within in
    let first = word_first (codes "begins") (decimal changes ++ (codes " " ++ operators)) refl (omega arith) in
    let second = word_first (decimal changes) operators one.spaceless one.some in
    rw first (rw second (rw one.value refl))

pub begins_adds : {Z : Type 0} (changes : ℕ) (operators old : List ℕ) (s : String Z) → string_bytes s ≡ begins_line changes operators → IsCount changes
    → list_any is_feed operators ≡ false → (is_hosted : List ℕ → Bool) → AddsLine is_hosted (Begins changes operators) old (old ++ (string_bytes s ++ (10 ∷ [])))
begins_adds changes operators old s is within none = λ is_hosted. record {
  line = string_bytes s;
  is = refl;
  one = ap (list_any is_feed) is ∙ joined (decimal changes) (codes " " ++ operators) (count_read changes within).feedless none;
  says = entry_is is_hosted s ∙ ap (entry_in is_hosted) is ∙ ap (λ e. event_or e (mark_in (begins_line changes operators))) (begins_no_event is_hosted changes operators)
      ∙ ap (event_or None) (begins_mark changes operators within);
}

continues_no_event : (is_hosted : List ℕ → Bool) (file changes : ℕ) (operators : List ℕ) → event_of is_hosted (continues_line file changes operators) ≡ None
unfolding event_of
continues_no_event is_hosted file changes operators =
    let first = word_first (codes "continues") (decimal file ++ (codes " " ++ (decimal changes ++ (codes " " ++ operators)))) refl (omega arith) in
    rw first refl

continues_mark : (file changes : ℕ) (operators : List ℕ) → IsCount file → IsCount changes → mark_in (continues_line file changes operators) ≡ Some (Continues file changes operators)
continues_mark file changes operators number within =
    let one = count_read file number in
    let two = count_read changes within in
    let first = word_first (codes "continues") (decimal file ++ (codes " " ++ (decimal changes ++ (codes " " ++ operators)))) refl (omega arith) in
    let second = word_first (decimal file) (decimal changes ++ (codes " " ++ operators)) one.spaceless one.some in
    let third = word_first (decimal changes) operators two.spaceless two.some in
    rw first (rw second (rw third (rw one.value (rw two.value refl))))

pub continues_adds : {Z : Type 0} (file changes : ℕ) (operators old : List ℕ) (s : String Z) → string_bytes s ≡ continues_line file changes operators
    → IsCount file → IsCount changes → list_any is_feed operators ≡ false → (is_hosted : List ℕ → Bool)
    → AddsLine is_hosted (Continues file changes operators) old (old ++ (string_bytes s ++ (10 ∷ [])))
continues_adds file changes operators old s is number within none = λ is_hosted. record {
  line = string_bytes s;
  is = refl;
  one = ap (list_any is_feed) is ∙ joined (decimal file) (codes " " ++ (decimal changes ++ (codes " " ++ operators))) (count_read file number).feedless
      (joined (decimal changes) (codes " " ++ operators) (count_read changes within).feedless none);
  says = entry_is is_hosted s ∙ ap (entry_in is_hosted) is ∙ ap (λ e. event_or e (mark_in (continues_line file changes operators))) (continues_no_event is_hosted file changes operators)
      ∙ ap (event_or None) (continues_mark file changes operators number within);
}
