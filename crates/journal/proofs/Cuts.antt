-- A line that was cut is no entry, once it ends in a byte that no text has.
use Rattle.std.proofs.Common.{◌≡◌, ◌∙◌, ◌<◌, ◌≤◌, ℕ, suc, zero, List, [], ◌∷◌, ◌++◌, length, take, Bool, true, false, refl, sym, ap, arith, inl, inr, true≢false, if◌then◌else◌}
use Rattle.std.specs.Prelude.{◌==◌, ◌&&◌, ◌||◌, ◌⊎◌}
use Rattle.std.specs.List.{list_any}
use Rattle.std.specs.Str.{IsUtf8, is_utf8 as is_text}
use Rattle.std.specs.Str.Lossy.{valid_len_up_to, utf8_valid_len}
use Rattle.std.proofs.Math.Utf8.{encode, encodes, scalar, scalars, scalar_cases}
use Rattle.std.proofs.lemmas.Str.{IsUtf8-from_is_utf8}
use Rattle.std.proofs.lemmas.List.{length-append}
use Rattle.std.proofs.lemmas.List.Folds.{list_any-append}
use Rattle.lines.specs.InputLines.{is_utf8}
use Rattle.journal.specs.Entries.{entry_of}
use Rattle.journal.specs.Journals.{lines_from, lines_of, EndsCut}
use Rattle.journal.specs.declared.entry.Entry.TheVariants.{Bad}

abbrev is_last : ℕ → Bool
is_last b = b == 255

-- no byte of a character is 255
low : (c : ℕ) → c < 1114112 → list_any is_last (encode c) ≡ false
unfolding encode
low c within = grind (arith, within)

scalar_low : (c : ℕ) → (c < 55296) ⊎ ((57344 ≤ c) × (c < 1114112)) → c < 1114112
scalar_low c (inl low) = omega (arith, low)
scalar_low c (inr high) = high.1

both_true : (x y : Bool) → (x && y) ≡ true → (x ≡ true) × (y ≡ true)
both_true true y e = (refl, e)
both_true false y e = absurd (true≢false (sym e))

lows : (cs : List ℕ) → scalars cs ≡ true → list_any is_last (encodes cs) ≡ false
lows [] good = refl
lows (c ∷ cs) good =
    let parts = both_true (scalar c) (scalars cs) good in
    list_any-append is_last (encode c) (encodes cs) ∙ ap (λ b. b || list_any is_last (encodes cs)) (low c (scalar_low c (scalar_cases c parts.0))) ∙ lows cs parts.1

text_low : (bs : List ℕ) → IsUtf8 bs → list_any is_last bs ≡ false
text_low bs (cs, (good, spelt)) = ap (list_any is_last) (sym spelt) ∙ lows cs good

or_true : (b : Bool) → (b || true) ≡ true
or_true true = refl
or_true false = refl

has_last : (xs : List ℕ) → list_any is_last (xs ++ (255 ∷ [])) ≡ true
has_last [] = refl
has_last (x ∷ xs) = ap (λ b. is_last x || b) (has_last xs) ∙ or_true (is_last x)

no_text : (xs : List ℕ) (b : Bool) → is_text (xs ++ (255 ∷ [])) ≡ b → b ≡ false
no_text xs false is = refl
no_text xs true is = absurd (true≢false (sym (has_last xs) ∙ text_low (xs ++ (255 ∷ [])) (IsUtf8-from_is_utf8 (xs ++ (255 ∷ [])) is)))

-- the longest front that is a text is shorter than what is none
short : (bs : List ℕ) (n : ℕ) → valid_len_up_to bs n ≤ n
short bs zero = omega arith
short bs (suc n) = let less = short bs n in
    elim (is_text (take (suc n) bs)) as (λ b. (if b then suc n else valid_len_up_to bs n) ≤ suc n) [
      | true ↦ omega arith
      | false ↦ omega (arith, less)
    ]

take_all : (xs : List ℕ) → take (length xs) xs ≡ xs
take_all [] = refl
take_all (x ∷ xs) = ap (λ ys. x ∷ ys) (take_all xs)

shorter : (bs : List ℕ) (n : ℕ) → length bs ≡ suc n → is_text bs ≡ false → (utf8_valid_len bs == length bs) ≡ false
unfolding utf8_valid_len
shorter bs n many none =
    let less = short bs n in
    let whole : take (suc n) bs ≡ bs = ap (λ k. take k bs) (sym many) ∙ take_all bs in
    let found : utf8_valid_len bs ≡ valid_len_up_to bs n =
    ap (valid_len_up_to bs) many ∙ ap (λ b. if b then suc n else valid_len_up_to bs n) (ap is_text whole ∙ none) in
    grind (arith, less, found, many)

cut_no_text : (line : List ℕ) → is_utf8 (line ++ (255 ∷ [])) ≡ false
cut_no_text line =
    shorter (line ++ (255 ∷ [])) (length line) (length-append line (255 ∷ []) ∙ omega arith) (no_text line (is_text (line ++ (255 ∷ []))) refl)

cut_bad : (is_hosted : List ℕ → Bool) (line : List ℕ) → entry_of is_hosted (line ++ (255 ∷ [])) ≡ Bad
unfolding entry_of
cut_bad is_hosted line = let none = cut_no_text line in rw none refl

-- the line that was cut, where one may have begun before
unfoldable last_from : List ℕ → List ℕ → List ℕ
last_from line [] = line
last_from line (x ∷ file) = if x == 10 then last_from [] file else last_from (line ++ (x ∷ [])) file

cut_from : (line file : List ℕ) → lines_from line (file ++ (255 ∷ 10 ∷ [])) ≡ lines_from line file ++ ((last_from line file ++ (255 ∷ [])) ∷ [])
unfolding lines_from last_from
cut_from line [] = refl
cut_from line (x ∷ file) =
    elim (x == 10) as (λ b. (if b then line ∷ lines_from [] (file ++ (255 ∷ 10 ∷ [])) else lines_from (line ++ (x ∷ [])) (file ++ (255 ∷ 10 ∷ [])))
    ≡ (if b then line ∷ lines_from [] file else lines_from (line ++ (x ∷ [])) file) ++ (((if b then last_from [] file else last_from (line ++ (x ∷ [])) file) ++ (255 ∷ [])) ∷ [])) [
      | true ↦ ap (λ ls. line ∷ ls) (cut_from [] file)
      | false ↦ cut_from (line ++ (x ∷ [])) file
    ]

pub ends_cut : (old new : List ℕ) → new ≡ old ++ (255 ∷ 10 ∷ []) → old ≡ [] → EndsCut new
ends_cut old new is none = λ file. (
  last_from [] file ++ (255 ∷ []),
  ap (λ bytes. lines_of (file ++ bytes)) (is ∙ ap (λ bytes. bytes ++ (255 ∷ 10 ∷ [])) none) ∙ cut_from [] file,
  λ is_hosted. cut_bad is_hosted (last_from [] file),
)
