-- Lines whose bytes come in parts.
use Rattle.std.proofs.Common.{arith, ◌≡◌, ◌∙◌, sym, ap, ◌+◌, ◌++◌, List, ℕ, [], ◌∷◌, length, drop, Bool, true, false, refl, append_assoc, length-append, append-nil}
use Rattle.std.specs.Prelude.{Option, Some, None}
use Rattle.std.specs.Io.KnownBytes.{Consumes, IsAtEnd}
use Rattle.std.proofs.lemmas.List.Splits.{slice_split_at, slice_split_none}
use Rattle.std.proofs.lemmas.List.Elements.{All-append}
use Rattle.std.proofs.lemmas.List.{drop-drop}
use Rattle.std.proofs.Math.Seq.{drop-append-add}
use Rattle.lines.specs.Journal.{is_feed}
use Rattle.replay.specs.Held.{Reads, HasNoFeed, IsHeld, lines_of}
use Rattle.replay.specs.Lines.{lines_from, HandsOut}

-- what stands after the first line feed from start on
pub after_feed : (buffer front rest : List ℕ) (start : ℕ) → drop start buffer ≡ front ++ (10 ∷ rest) → drop start buffer ≡ front ++ (10 ∷ drop (start + (length front + 1)) buffer)
after_feed buffer front rest start e =
    let later : drop (start + (length front + 1)) buffer ≡ rest =
    sym (drop-drop (length front + 1) start buffer) ∙ ap (drop (length front + 1)) e ∙ drop-append-add front (10 ∷ rest) 1 in
    e ∙ ap (λ r. front ++ (10 ∷ r)) (sym later)

pub consumes_none : (input : Option (List ℕ)) → Consumes input input []
consumes_none None = tt
consumes_none (Some xs) = refl

pub consumes_both : (a b c : Option (List ℕ)) (xs ys : List ℕ) → Consumes a b xs → Consumes b c ys → Consumes a c (xs ++ ys)
consumes_both None b c xs ys p q = tt
consumes_both (Some x) None c xs ys p q = absurd p
consumes_both (Some x) (Some y) None xs ys p q = absurd q
consumes_both (Some x) (Some y) (Some z) xs ys p q = p ∙ ap (λ t. xs ++ t) q ∙ sym (append_assoc xs ys z)

pub reads_none : (input : Option (List ℕ)) (n : ℕ) → Reads input input n n
reads_none input n = record { bytes = []; consumes = consumes_none input; count = omega arith }

pub reads_both : (a b c : Option (List ℕ)) (l m n : ℕ) → Reads a b l m → Reads b c m n → Reads a c l n
reads_both a b c l m n p q = record {
  bytes = p.bytes ++ q.bytes;
  consumes = consumes_both a b c p.bytes q.bytes p.consumes q.consumes;
  count = let x = p.count in let y = q.count in omega (arith, length-append p.bytes q.bytes);
}

-- of the bytes that were there, the front has been taken
abbrev pub Took : List ℕ → List ℕ → Option (List ℕ) → Option (List ℕ) → List ℕ → Type 0
Took unread unread' None rest' seen = Unit {0}
Took unread unread' (Some xs) None seen = ⊥
Took unread unread' (Some xs) (Some ys) seen = unread ++ xs ≡ seen ++ (unread' ++ ys)

took_more : (unread part bytes : List ℕ) (rest rest' rest'' : Option (List ℕ)) (seen : List ℕ) → Took unread part rest rest' seen → Consumes rest' rest'' bytes → Took unread bytes rest rest'' (seen ++ part)
took_more unread part bytes None rest' rest'' seen t c = tt
took_more unread part bytes (Some xs) None rest'' seen t c = absurd t
took_more unread part bytes (Some xs) (Some ys) None seen t c = absurd c
took_more unread part bytes (Some xs) (Some ys) (Some zs) seen t c = t ∙ ap (λ r. seen ++ (part ++ r)) c ∙ sym (append_assoc seen part (bytes ++ zs))

-- the front of a line has been seen: it has no line feed, and it is held
pub record Seen (is_long : Bool) (held unread unread' : List ℕ) (rest rest' : Option (List ℕ)) : Type 0 where
  pub seen : List ℕ
  pub plain : HasNoFeed seen
  pub is_held : IsHeld is_long held seen
  pub took : Took unread unread' rest rest' seen

plain_both : (xs ys : List ℕ) → HasNoFeed xs → HasNoFeed ys → HasNoFeed (xs ++ ys)
plain_both xs ys p q = All-append (λ x. is_feed x ≡ false) xs ys p q

pub seen_more : (is_long is_long' : Bool) (held held' unread part bytes : List ℕ) (rest rest' rest'' : Option (List ℕ)) → Seen is_long held unread part rest rest' → HasNoFeed part
    → ((seen : List ℕ) → IsHeld is_long held seen → IsHeld is_long' held' (seen ++ part)) → Consumes rest' rest'' bytes → Seen is_long' held' unread bytes rest rest''
seen_more is_long is_long' held held' unread part bytes rest rest' rest'' s plain more c = record {
  seen = s.seen ++ part;
  plain = plain_both s.seen part s.plain plain;
  is_held = more s.seen s.is_held;
  took = took_more unread part bytes rest rest' rest'' s.seen s.took c;
}

-- a line's feed is there
hands_found : (P : List ℕ → Type 0) (unread part piece after : List ℕ) (rest rest' : Option (List ℕ)) (seen : List ℕ) → Took unread part rest rest' seen → HasNoFeed (seen ++ piece) → part ≡ piece ++ (10 ∷ after) → P (seen ++ piece)
    → HandsOut (lines_from false unread rest) (lines_from false after rest') P
hands_found P unread part piece after None rest' seen t plain e p = tt
hands_found P unread part piece after (Some xs) None seen t plain e p = absurd t
hands_found P unread part piece after (Some xs) (Some ys) seen t plain e p =
    let whole : unread ++ xs ≡ (seen ++ piece) ++ (10 ∷ (after ++ ys)) =
    t ∙ ap (λ u. seen ++ (u ++ ys)) e ∙ ap (λ u. seen ++ u) (append_assoc piece (10 ∷ after) ys) ∙ sym (append_assoc seen piece (10 ∷ (after ++ ys))) in
    (seen ++ piece, ap lines_of whole ∙ slice_split_at is_feed (seen ++ piece) 10 (after ++ ys) plain refl, p)

pub seen_found : (is_long is_long' ended ended' : Bool) (held held' unread part after : List ℕ) (rest rest' : Option (List ℕ)) → ended ≡ false → ended' ≡ false → Seen is_long held unread part rest rest'
    → ((piece : List ℕ) × (part ≡ piece ++ (10 ∷ after)) × HasNoFeed piece × ((seen : List ℕ) → IsHeld is_long held seen → IsHeld is_long' held' (seen ++ piece)))
    → HandsOut (lines_from ended unread rest) (lines_from ended' after rest') (IsHeld is_long' held')
seen_found is_long is_long' ended ended' held held' unread part after rest rest' e e' s f =
    rw (e, e') (hands_found (IsHeld is_long' held') unread part f.0 after rest rest' s.seen s.took (plain_both s.seen f.0 s.plain f.2) f.1 (f.3 s.seen s.is_held))

-- the input ends
hands_last : (P : List ℕ → Type 0) (unread bytes buffer : List ℕ) (rest rest' : Option (List ℕ)) (seen : List ℕ) → Took unread bytes rest rest' seen → bytes ≡ [] → IsAtEnd rest' → HasNoFeed seen → P seen
    → HandsOut (lines_from false unread rest) (lines_from true buffer rest') P
hands_last P unread bytes buffer None rest' seen t none e plain p = tt
hands_last P unread bytes buffer (Some xs) None seen t none e plain p = absurd t
hands_last P unread bytes buffer (Some xs) (Some ys) seen t none e plain p =
    let whole : unread ++ xs ≡ seen = t ∙ ap (λ u. seen ++ (u ++ ys)) none ∙ ap (λ u. seen ++ u) e ∙ append-nil seen in
    (seen, ap lines_of whole ∙ slice_split_none is_feed seen plain, p)

pub seen_last : (is_long ended : Bool) (held unread bytes buffer : List ℕ) (rest rest' : Option (List ℕ)) → ended ≡ false → Seen is_long held unread bytes rest rest' → bytes ≡ [] → IsAtEnd rest'
    → HandsOut (lines_from ended unread rest) (lines_from true buffer rest') (IsHeld is_long held)
seen_last is_long ended held unread bytes buffer rest rest' open' s none e = rw open' (hands_last (IsHeld is_long held) unread bytes buffer rest rest' s.seen s.took none e s.plain s.is_held)
