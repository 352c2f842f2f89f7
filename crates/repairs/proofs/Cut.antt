-- Texts that are cut.
use Rattle.std.proofs.Common.{◌≡◌, ℕ, zero, suc, ◌+◌, ◌-◌, ◌≤◌, length, take, drop, List, [], ◌∷◌, ◌++◌, true, false, refl, sym, ap, ◌∙◌, arith, append_assoc, append-nil, add-one, length-append, Option, Some, None, MatchOption}
use Rattle.std.proofs.lemmas.List.{length-drop}
use Rattle.std.proofs.lemmas.Str.{encodes-append, encodes-chars, chars-nil, chars_past_char, IsUtf8-past_char, IsCharBoundary-at_seam}
use Rattle.std.proofs.Math.Utf8.{encodes, encode}
use Rattle.std.proofs.Math.Seq.{take_all, take-append_seam}
use Rattle.std.specs.Option.{is_some}
use Rattle.std.specs.Str.{chars, IsUtf8, IsCharBoundary}
use Rattle.repairs.specs.Texts.{shortened}

-- so many characters were passed, and this is left
pub record Passed (text : List ℕ) (n : ℕ) (rest : List ℕ) : Type 0 where
  pub split : text ≡ encodes (take n (chars text)) ++ rest
  pub left : chars rest ≡ drop n (chars text)
  pub utf8 : IsUtf8 rest

pub passed_none : (text : List ℕ) → IsUtf8 text → Passed text 0 text
passed_none text utf8 = record { split = refl; left = refl; utf8 = utf8 }

one_more : (n : ℕ) (xs : List ℕ) (c : ℕ) (ys : List ℕ) → drop n xs ≡ c ∷ ys → (take (suc n) xs ≡ take n xs ++ c ∷ []) × (drop (suc n) xs ≡ ys)
one_more zero [] c ys e = absurd (cc)
one_more zero (x ∷ xs) c ys e = (cc, cc)
one_more (suc n) [] c ys e = absurd (cc)
one_more (suc n) (x ∷ xs) c ys e =
    let more = one_more n xs c ys e in
    (ap (λ l. x ∷ l) more.0, more.1)

pub passed_more : (text : List ℕ) (n : ℕ) (rest : List ℕ) (c : ℕ) (next : List ℕ) → Passed text n rest → rest ≡ encode c ++ next → Passed text (n + 1) next
passed_more text n rest c next passed e =
    let more = one_more n (chars text) c (chars next) (sym passed.left ∙ chars_past_char rest next c passed.utf8 e) in
    rw add-one (record {
      split =
          passed.split ∙ ap (λ r. encodes (take n (chars text)) ++ r) e
          ∙ sym (append_assoc (encodes (take n (chars text))) (encode c) next)
          ∙ ap (λ r. (encodes (take n (chars text)) ++ r) ++ next) (sym (append-nil (encode c)))
          ∙ ap (λ l. l ++ next) (sym (encodes-append (take n (chars text)) (c ∷ [])) ∙ ap encodes (sym more.0));
      left = sym more.1;
      utf8 = IsUtf8-past_char rest next c passed.utf8 e;
    })

pub passed_all : (text : List ℕ) (n most : ℕ) (rest : List ℕ) → IsUtf8 text → Passed text n rest → n ≤ most → length rest ≡ 0 → text ≡ shortened most text
passed_all text n most [] utf8 passed within none =
    let short : length (chars text) ≤ n = omega (arith, length-drop n (chars text), ap length (sym passed.left ∙ chars-nil)) in
    sym (encodes-chars text utf8) ∙ ap encodes (sym (take_all most (chars text) (omega arith)))
passed_all text n most (c ∷ rest) utf8 passed within none = absurd (cc)

seam : (text : List ℕ) (n : ℕ) (rest : List ℕ) → Passed text n rest → length text - length rest ≡ length (encodes (take n (chars text)))
seam text n rest passed = omega (arith, ap length passed.split, length-append (encodes (take n (chars text))) rest)

pub passed_boundary : (text : List ℕ) (n : ℕ) (rest : List ℕ) → Passed text n rest → IsCharBoundary text (length text - length rest)
passed_boundary text n rest passed =
    rw (seam text n rest passed) (IsCharBoundary-at_seam text (encodes (take n (chars text))) rest passed.split passed.utf8)

pub passed_cut : (text : List ℕ) (n : ℕ) (rest : List ℕ) → Passed text n rest → take (length text - length rest) text ≡ shortened n text
passed_cut text n rest passed =
    let front = encodes (take n (chars text)) in
    ap (λ k. take k text) (seam text n rest passed) ∙ ap (take (length front)) passed.split ∙ take-append_seam front rest

pub passed_next : (text : List ℕ) (n : ℕ) (rest : List ℕ) (found : Option ℕ) (next : List ℕ) (P : Type 0) → Passed text n rest
    → MatchOption found P (λ c. rest ≡ encode c ++ next) → is_some found ≡ true → Passed text (n + 1) next
passed_next text n rest None next P passed steps some = absurd (cc)
passed_next text n rest (Some c) next P passed steps some = passed_more text n rest c next passed steps

pub none_left : (found : Option ℕ) (A B : Type 0) (Q : ℕ → Type 0) → MatchOption found (A × B) Q → is_some found ≡ false → A
none_left None A B Q steps none = steps.0
none_left (Some c) A B Q steps none = absurd (cc)

pub passed_short : (text : List ℕ) (n : ℕ) (rest : List ℕ) → Passed text n rest → length rest ≤ length text
passed_short text n rest passed = omega (arith, ap length passed.split, length-append (encodes (take n (chars text))) rest)
