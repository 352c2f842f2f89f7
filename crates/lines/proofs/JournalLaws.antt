-- A line of a journal is read as its event.
use Rattle.std.proofs.Common.{◌≡◌, ◌≤◌, ◌<◌, ◌+◌, ◌^◌, ℕ, List, [], ◌∷◌, ◌++◌, length, take, drop, Option, Some, None, Bool, true, false, codes, arith, refl, sym, ap, ◌∙◌, true≢false, if◌then◌else◌}
use Rattle.std.specs.Prelude.{cond, not, ◌&&◌, ◌||◌, nat_lt, nat_le, option_and_then}
use Rattle.std.specs.Char.{is_ascii_digit}
use Rattle.std.specs.Fmt.{decimal}
use Rattle.std.specs.Io.BufRead.{strip_last}
use Rattle.std.specs.List.{list_all, list_any, position_or_len}
use Rattle.std.specs.Str.{bytes_eq}
use Rattle.std.specs.Str.Parse.{AllDigits}
use Rattle.std.proofs.Math.ListN.{length-append}
use Rattle.std.proofs.Math.Seq.{take-append_seam, drop-append-add}
use Rattle.std.proofs.lemmas.Fmt.{decimal_is_IsNumeral, decimal_nonempty, length-decimal-le}
use Rattle.hub_events.specs.declared.event.Event.{Event}
use Rattle.hub_events.specs.declared.event.Event.TheVariants.{At, Tick}
use Rattle.hub_events.specs.declared.event.What.{What}
use Rattle.hub_events.specs.declared.event.What.TheVariants.{Connect, Disconnect, Frame, Do, Admin, List as Listing, Connections, DropStation, Forget}
use Rattle.hub_rows.specs.Operators.{is_operator_name, is_name_byte}
use Rattle.lines.specs.Forms.{what_of}
use Rattle.lines.specs.InputLines.{event_of}
use Rattle.lines.specs.Journal.{is_gap, is_plain, Says}
use Rattle.lines.specs.Orders.{is_order, has_line_feed, order_of, order_in}
use Rattle.lines.specs.Words.{is_space, first_word, only_word, moment_at}
use Rattle.lines.specs.declared.input_line.TheConstants.{MAX_LINE}
use Rattle.ocpp_types.specs.Moment.{last_moment}
use Rattle.serde_json.specs.Data.{string}
use Rattle.serde_json.specs.Read.{read}

-- ---- words

pub or_false : (a b : Bool) → (a || b) ≡ false → (a ≡ false) × (b ≡ false)
or_false true b e = absurd (true≢false e)
or_false false b e = (refl, e)

pub and_true : (a b : Bool) → (a && b) ≡ true → (a ≡ true) × (b ≡ true)
and_true true b e = (refl, e)
and_true false b e = absurd (true≢false (sym e))

pub not_true : (b : Bool) → not b ≡ true → b ≡ false
not_true true e = absurd (true≢false (sym e))
not_true false e = refl

one_more : (b : Bool) (n m : ℕ) → b ≡ false → n ≡ m → cond (not b) (1 + n) 0 ≡ 1 + m
one_more true n m e same = absurd (true≢false e)
one_more false n m e same = ap (λ k. 1 + k) same

-- where no byte of a word is a space, the first one is that after it, or there is none
to_the_space : (w rest : List ℕ) → list_any is_space w ≡ false → position_or_len is_space (w ++ (32 ∷ rest)) ≡ length w
to_the_space [] rest e = refl
to_the_space (c ∷ w) rest e =
    let both = or_false (is_space c) (list_any is_space w) e in
    let more : 1 + length w ≡ length (c ∷ w) = omega arith in
    one_more (is_space c) _ _ both.0 (to_the_space w rest both.1) ∙ more

to_the_end : (w : List ℕ) → list_any is_space w ≡ false → position_or_len is_space w ≡ length w
to_the_end [] e = refl
to_the_end (c ∷ w) e =
    let both = or_false (is_space c) (list_any is_space w) e in
    let more : 1 + length w ≡ length (c ∷ w) = omega arith in
    one_more (is_space c) _ _ both.0 (to_the_end w both.1) ∙ more

-- a word and what follows the space after it
word_then : (w rest : List ℕ) (n : ℕ) → n ≡ length w → 0 < length w
    → if◌then◌else◌ {A = Option (List ℕ × List ℕ)} (nat_lt 0 n && nat_lt n (length (w ++ (32 ∷ rest)))) (Some (take n (w ++ (32 ∷ rest)), drop (n + 1) (w ++ (32 ∷ rest)))) None ≡ Some (w, rest)
word_then w rest n is some =
    let front : take n (w ++ (32 ∷ rest)) ≡ w = ap (λ k. take k (w ++ (32 ∷ rest))) is ∙ take-append_seam w (32 ∷ rest) in
    let size : length (w ++ (32 ∷ rest)) ≡ length w + (1 + length rest) = omega (arith, length-append w (32 ∷ rest)) in
    let back : drop (n + 1) (w ++ (32 ∷ rest)) ≡ rest = ap (λ k. drop (k + 1) (w ++ (32 ∷ rest))) is ∙ drop-append-add w (32 ∷ rest) 1 in
    grind (arith, is, some, size, front, back)

pub word_first : (w rest : List ℕ) → list_any is_space w ≡ false → 0 < length w → first_word (w ++ (32 ∷ rest)) ≡ Some (w, rest)
word_first w rest none some = word_then w rest (position_or_len is_space (w ++ (32 ∷ rest))) (to_the_space w rest none) some

word_only : (w : List ℕ) → list_any is_space w ≡ false → 0 < length w → only_word w ≡ Some w
word_only w none some = let all = to_the_end w none in grind (arith, all)

no_space : (w : List ℕ) → list_any is_gap w ≡ false → list_any is_space w ≡ false
no_space [] e = refl
no_space (c ∷ w) e =
    let both = or_false (is_gap c) (list_any is_gap w) e in
    let space = or_false (is_space c) _ both.0 in
    rw space.0 (no_space w both.1)

-- what a plain name is
plain : (name : List ℕ) → is_plain name ≡ true → (list_any is_space name ≡ false) × (0 < length name)
plain name e =
    let both = and_true (nat_lt 0 (length name)) (not (list_any is_gap name)) e in
    let some = both.0 in
    (no_space name (not_true (list_any is_gap name) both.1), grind (arith, some))

-- ---- what follows `MOMENT OP`

pub connect_said : (station : List ℕ) → is_plain station ≡ true → what_of (codes "connect " ++ station) ≡ Some (Connect station)
unfolding what_of
connect_said station e =
    let p = plain station e in
    let word = word_first (codes "connect") station refl (omega arith) in
    let name = word_only station p.0 p.1 in
    rw word (rw name refl)

pub disconnect_said : (station : List ℕ) → is_plain station ≡ true → what_of (codes "disconnect " ++ station) ≡ Some (Disconnect station)
unfolding what_of
disconnect_said station e =
    let p = plain station e in
    let word = word_first (codes "disconnect") station refl (omega arith) in
    let name = word_only station p.0 p.1 in
    rw word (rw name refl)

pub frame_said : (station text : List ℕ) → is_plain station ≡ true → what_of (codes "frame " ++ (station ++ (codes " " ++ text))) ≡ Some (Frame station text)
unfolding what_of
frame_said station text e =
    let p = plain station e in
    let word = word_first (codes "frame") (station ++ (codes " " ++ text)) refl (omega arith) in
    let name = word_first station text p.0 p.1 in
    rw word (rw name refl)

pub quoted_said : (station text json : List ℕ) → is_plain station ≡ true → read json ≡ Some (string text)
    → what_of (codes "quoted " ++ (station ++ (codes " " ++ json))) ≡ Some (Frame station text)
unfolding what_of
quoted_said station text json e value =
    let p = plain station e in
    let word = word_first (codes "quoted") (station ++ (codes " " ++ json)) refl (omega arith) in
    let name = word_first station json p.0 p.1 in
    rw word (rw name (rw value refl))

what_in : Option Event → What
what_in (Some (At op moment what)) = what
what_in (Some (Tick moment)) = Connections
what_in None = Connections

is_event : Option Event → Bool
is_event (Some e) = true
is_event None = false

if_order : (b : Bool) (op : List ℕ) (m : ℕ) (found w : What) → (if b then Some (At op m found) else None) ≡ Some (At op m w) → Some found ≡ Some w
unfolding is_event what_in
if_order true op m found w e = ap (λ o. Some (what_in o)) e
if_order false op m found w e = absurd (true≢false (sym (ap is_event e)))

in_order : (op : List ℕ) (m : ℕ) (w : What) (found : Option What) → option_and_then (λ f. if is_order f then Some (At op m f) else None) found ≡ Some (At op m w) → found ≡ Some w
unfolding is_event what_in
in_order op m w None e = absurd (true≢false (sym (ap is_event e)))
in_order op m w (Some found) e = if_order (is_order found) op m found w e

unless_long : (b : Bool) (o : Option Event) (op : List ℕ) (m : ℕ) (w : What) → (if b then None else o) ≡ Some (At op m w) → o ≡ Some (At op m w)
unfolding is_event what_in
unless_long true o op m w e = absurd (true≢false (sym (ap is_event e)))
unless_long false o op m w e = e

order_said : (op : List ℕ) (m : ℕ) (order : List ℕ) (w : What) → order_of op m order ≡ Some (At op m w) → what_of (strip_last 13 order) ≡ Some w
unfolding order_of
order_said op m order w e =
    in_order op m w (what_of (strip_last 13 order)) (unless_long (nat_lt MAX_LINE (length order) || has_line_feed order) (order_in op m (strip_last 13 order)) op m w e)

pub order_what : (w : What) (op : List ℕ) (m : ℕ) (order : List ℕ) → is_order w ≡ true → Says w op m order → what_of (strip_last 13 order) ≡ Some w
order_what (Connect station) op m order is says = absurd (true≢false (sym is))
order_what (Disconnect station) op m order is says = absurd (true≢false (sym is))
order_what (Frame station text) op m order is says = absurd (true≢false (sym is))
order_what (Do station command) op m order is says = order_said op m order (Do station command) says
order_what (Admin admin) op m order is says = order_said op m order (Admin admin) says
order_what (Listing listing) op m order is says = order_said op m order (Listing listing) says
order_what Connections op m order is says = order_said op m order Connections says
order_what (DropStation station) op m order is says = order_said op m order (DropStation station) says
order_what (Forget station until ends) op m order is says = order_said op m order (Forget station until ends) says

-- ---- the moment and the operator

digit_no_space : (c : ℕ) (ds : List ℕ) → AllDigits 10 (c ∷ ds) → (is_ascii_digit c ≡ true) × (is_space c ≡ false)
digit_no_space c ds d = let one = d.0 in (grind (arith, one), grind (arith, one))

pub digits_plain : (ds : List ℕ) → AllDigits 10 ds → (list_all is_ascii_digit ds ≡ true) × (list_any is_space ds ≡ false)
digits_plain [] d = (refl, refl)
digits_plain (c ∷ ds) d =
    let one = digit_no_space c ds d in
    let more = digits_plain ds d.1 in
    (rw one.0 more.0, rw one.1 more.1)

moment_read : (m : ℕ) → m ≤ last_moment → (moment_at (decimal m) ≡ Some m) × (list_any is_space (decimal m) ≡ false) × (0 < length (decimal m))
moment_read m within =
    let small : m < 2 ^ 64 = omega (arith, within) in
    let numeral = decimal_is_IsNumeral m small in
    let digits = digits_plain (decimal m) numeral.0.1 in
    let some = decimal_nonempty m small in
    let few = length-decimal-le 12 m (omega arith) (omega (arith, within)) small in
    let all = digits.0 in
    let value = numeral.1 in
    (grind (arith, all, value, some, few, within), digits.1, some)

name_no_space : (c : ℕ) → is_name_byte c ≡ true → is_space c ≡ false
name_no_space c e = grind (arith, e)

name_plain : (op : List ℕ) → list_all is_name_byte op ≡ true → list_any is_space op ≡ false
name_plain [] e = refl
name_plain (c ∷ op) e =
    let both = and_true (is_name_byte c) (list_all is_name_byte op) e in
    rw (name_no_space c both.0) (name_plain op both.1)

-- an operator's name isn't `*`
no_tick : (op rest : List ℕ) → list_all is_name_byte op ≡ true → 0 < length op → bytes_eq (op ++ rest) (codes "* tick") ≡ false
no_tick [] rest e some = absurd (omega (arith, some))
no_tick (c ∷ op) rest e some =
    let both = and_true (is_name_byte c) (list_all is_name_byte op) e in
    let name = both.0 in
    grind (arith, name)

pub line_read : (is_hosted : List ℕ → Bool) (m : ℕ) (op rest : List ℕ) (w : What) → m ≤ last_moment → is_hosted op ≡ true → is_operator_name op ≡ true → what_of rest ≡ Some w
    → event_of is_hosted (decimal m ++ (codes " " ++ (op ++ (codes " " ++ rest)))) ≡ Some (At op m w)
unfolding event_of
line_read is_hosted m op rest w within hosted name said =
    let moment = moment_read m within in
    let bytes = and_true (nat_le 1 (length op) && nat_le (length op) 32) (list_all is_name_byte op) name in
    let sized = and_true (nat_le 1 (length op)) (nat_le (length op) 32) bytes.0 in
    let some : 0 < length op = let one = sized.0 in grind (arith, one) in
    let first = word_first (decimal m) (op ++ (codes " " ++ rest)) moment.1 moment.2 in
    let second = word_first op rest (name_plain op bytes.1) some in
    rw first (rw moment.0 (rw (no_tick op (codes " " ++ rest) bytes.1 some) (rw second (rw hosted (rw said refl)))))

pub tick_read : (is_hosted : List ℕ → Bool) (m : ℕ) → m ≤ last_moment → event_of is_hosted (decimal m ++ codes " * tick") ≡ Some (Tick m)
unfolding event_of
tick_read is_hosted m within =
    let moment = moment_read m within in
    let first = word_first (decimal m) (codes "* tick") moment.1 moment.2 in
    rw first (rw moment.0 refl)
