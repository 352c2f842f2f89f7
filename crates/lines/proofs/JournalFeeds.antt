-- A line of a journal has no line feed.
use Rattle.std.proofs.Common.{◌≡◌, ◌≤◌, ◌<◌, ◌+◌, ◌-◌, ◌^◌, ◌/◌, ◌%◌, ℕ, List, [], ◌∷◌, ◌++◌, length, take, drop, Option, Some, None, Bool, true, false, codes, arith, refl, sym, ap, ◌∙◌, true≢false, if◌then◌else◌}
use Rattle.std.specs.Prelude.{cond, not, ◌&&◌, ◌||◌, ◌==◌, nat_lt, nat_le}
use Rattle.std.specs.Char.{digit_char}
use Rattle.std.specs.Fmt.{decimal}
use Rattle.std.specs.Io.BufRead.{ends_with_byte, strip_last}
use Rattle.std.specs.List.{list_all, list_any, position_or_len, flat_map}
use Rattle.std.specs.Str.Parse.{AllDigits}
use Rattle.std.proofs.lemmas.Fmt.{decimal_is_IsNumeral}
use Rattle.std.proofs.lemmas.List.{take-append-drop}
use Rattle.std.proofs.lemmas.List.Folds.{list_any-append}
use Rattle.json.specs.Print.{escape_byte}
use Rattle.hub_events.specs.declared.event.Event.{Event}
use Rattle.hub_events.specs.declared.event.Event.TheVariants.{At}
use Rattle.hub_events.specs.declared.event.What.{What}
use Rattle.hub_events.specs.declared.event.What.TheVariants.{Connect, Disconnect, Frame, Do, Admin, List as Listing, Connections, DropStation, Forget}
use Rattle.hub_rows.specs.Operators.{is_name_byte}
use Rattle.lines.specs.Journal.{is_feed, is_break, is_gap, is_plain, has_break, what_text, journal_line, Says, Stands}
use Rattle.lines.specs.Orders.{has_line_feed, order_of, order_in}
use Rattle.lines.specs.RowLines.{quoted}
use Rattle.lines.specs.declared.input_line.TheConstants.{MAX_LINE}
use Rattle.ocpp_types.specs.Moment.{last_moment}
use Rattle.lines.proofs.JournalLaws.{or_false, and_true, not_true}

-- ---- parts of a line

pub joined : (xs ys : List ℕ) → list_any is_feed xs ≡ false → list_any is_feed ys ≡ false → list_any is_feed (xs ++ ys) ≡ false
joined xs ys one other = list_any-append is_feed xs ys ∙ ap (λ b. b || list_any is_feed ys) one ∙ other

of_gaps : (w : List ℕ) → list_any is_gap w ≡ false → list_any is_feed w ≡ false
of_gaps [] e = refl
of_gaps (c ∷ w) e =
    let both = or_false (is_gap c) (list_any is_gap w) e in
    let breaks = or_false (c == 32) (is_break c) both.0 in
    let feed = or_false (is_feed c) (c == 13) breaks.1 in
    rw feed.0 (of_gaps w both.1)

of_breaks : (w : List ℕ) → has_break w ≡ false → list_any is_feed w ≡ false
of_breaks [] e = refl
of_breaks (c ∷ w) e =
    let both = or_false (is_break c) (has_break w) e in
    let feed = or_false (is_feed c) (c == 13) both.0 in
    rw feed.0 (of_breaks w both.1)

of_plain : (name : List ℕ) → is_plain name ≡ true → list_any is_feed name ≡ false
of_plain name e = of_gaps name (not_true (list_any is_gap name) (and_true (nat_lt 0 (length name)) (not (list_any is_gap name)) e).1)

digit_no_feed : (c : ℕ) (ds : List ℕ) → AllDigits 10 (c ∷ ds) → is_feed c ≡ false
digit_no_feed c ds d = let one = d.0 in grind (arith, one)

pub of_digits : (ds : List ℕ) → AllDigits 10 ds → list_any is_feed ds ≡ false
of_digits [] d = refl
of_digits (c ∷ ds) d = rw (digit_no_feed c ds d) (of_digits ds d.1)

of_moment : (m : ℕ) → m ≤ last_moment → list_any is_feed (decimal m) ≡ false
of_moment m within =
    let small : m < 2 ^ 64 = omega (arith, within) in
    of_digits (decimal m) (decimal_is_IsNumeral m small).0.1

name_no_feed : (c : ℕ) → is_name_byte c ≡ true → is_feed c ≡ false
name_no_feed c e = grind (arith, e)

of_name : (op : List ℕ) → list_all is_name_byte op ≡ true → list_any is_feed op ≡ false
of_name [] e = refl
of_name (c ∷ op) e =
    let both = and_true (is_name_byte c) (list_all is_name_byte op) e in
    rw (name_no_feed c both.0) (of_name op both.1)

-- ---- a quoted text

hexit_no_feed : (d : ℕ) → is_feed (digit_char d) ≡ false
hexit_no_feed d = grind arith

escape_no_feed : (x : ℕ) → list_any is_feed (escape_byte x) ≡ false
unfolding escape_byte
escape_no_feed x =
    let high = hexit_no_feed (x / 16) in
    let low = hexit_no_feed (x % 16) in
    grind (arith, high, low)

of_escape : (text : List ℕ) → list_any is_feed (flat_map escape_byte text) ≡ false
of_escape [] = refl
of_escape (x ∷ text) = joined (escape_byte x) (flat_map escape_byte text) (escape_no_feed x) (of_escape text)

of_quoted : (text : List ℕ) → list_any is_feed (quoted text) ≡ false
of_quoted text = joined (flat_map escape_byte text) (34 ∷ []) (of_escape text) refl

-- ---- an order

of_front : (n : ℕ) (xs : List ℕ) → list_any is_feed xs ≡ false → list_any is_feed (take n xs) ≡ false
of_front n xs e = (or_false (list_any is_feed (take n xs)) (list_any is_feed (drop n xs))
    (sym (list_any-append is_feed (take n xs) (drop n xs)) ∙ ap (list_any is_feed) (take-append-drop n xs) ∙ e)).0

of_stripped : (xs : List ℕ) → list_any is_feed xs ≡ false → list_any is_feed (strip_last 13 xs) ≡ false
of_stripped xs e =
    elim (ends_with_byte 13 xs) as (λ b. list_any is_feed (if b then take (length xs - 1) xs else xs) ≡ false) [
      | true ↦ of_front (length xs - 1) xs e
      | false ↦ e
    ]

none_found : (xs : List ℕ) → has_line_feed xs ≡ false → list_any is_feed xs ≡ false
none_found [] e = refl
none_found (x ∷ xs) e =
    elim (x == 10) as (λ b. nat_lt (cond (not b) (1 + position_or_len is_feed xs) 0) (length (x ∷ xs)) ≡ false → (b || list_any is_feed xs) ≡ false) [
      | true ↦ λ e. absurd (grind (arith, e))
      | false ↦ λ e. none_found xs (grind (arith, e))
    ] e

is_event : Option Event → Bool
is_event (Some e) = true
is_event None = false

is_within : (b : Bool) (o : Option Event) (e : Event) → (if b then None else o) ≡ Some e → b ≡ false
unfolding is_event
is_within true o e is = absurd (true≢false (sym (ap is_event is)))
is_within false o e is = refl

of_order : (op : List ℕ) (m : ℕ) (order : List ℕ) (e : Event) → order_of op m order ≡ Some e → list_any is_feed (strip_last 13 order) ≡ false
unfolding order_of
of_order op m order e is =
    let within = is_within (nat_lt MAX_LINE (length order) || has_line_feed order) (order_in op m (strip_last 13 order)) e is in
    of_stripped order (none_found order (or_false (nat_lt MAX_LINE (length order)) (has_line_feed order) within).1)

-- ---- a line

of_frame : (breaks : Bool) (station text : List ℕ) → has_break text ≡ breaks → is_plain station ≡ true
    → list_any is_feed (if breaks then codes "quoted " ++ (station ++ (codes " " ++ quoted text)) else codes "frame " ++ (station ++ (codes " " ++ text))) ≡ false
of_frame true station text e plain = joined station (codes " " ++ quoted text) (of_plain station plain) (of_quoted text)
of_frame false station text e plain = joined station (codes " " ++ text) (of_plain station plain) (of_breaks text e)

of_what : (w : What) (op : List ℕ) (m : ℕ) (order : List ℕ) → Says w op m order → list_any is_feed (what_text w order) ≡ false
of_what (Connect station) op m order says = of_plain station says
of_what (Disconnect station) op m order says = of_plain station says
of_what (Frame station text) op m order says = of_frame (has_break text) station text refl says
of_what (Do station command) op m order says = of_order op m order _ says
of_what (Admin admin) op m order says = of_order op m order _ says
of_what (Listing listing) op m order says = of_order op m order _ says
of_what Connections op m order says = of_order op m order _ says
of_what (DropStation station) op m order says = of_order op m order _ says
of_what (Forget station until ends) op m order says = of_order op m order _ says

pub tick_one : (m : ℕ) → m ≤ last_moment → list_any is_feed (decimal m ++ codes " * tick") ≡ false
tick_one m within = joined (decimal m) (codes " * tick") (of_moment m within) refl

pub line_one : (is_hosted : List ℕ → Bool) (m : ℕ) (op order : List ℕ) (w : What) → m ≤ last_moment → Stands is_hosted (At op m w) order
    → list_any is_feed (journal_line (At op m w) order) ≡ false
line_one is_hosted m op order w within stands =
    let bytes = and_true (nat_le 1 (length op) && nat_le (length op) 32) (list_all is_name_byte op) stands.name in
    joined (decimal m) (codes " " ++ (op ++ (codes " " ++ what_text w order))) (of_moment m within)
    (joined op (codes " " ++ what_text w order) (of_name op bytes.1) (of_what w op m order stands.says))
