-- The meter values of a station that an order to forget looks at.
use Rattle.std.proofs.Common.{◌≡◌, ◌∙◌, ◌++◌, ◌+◌, ◌-◌, ◌==◌, ◌||◌, ◌≤◌, ℕ, suc, zero, nat_le, List, [], ◌∷◌, Bool, true, false, length, take, arith, refl, sym, ap, inl, inr, append_assoc}
use Rattle.std.proofs.Math.Seq.{take-append-add, take-append_seam}
use Rattle.std.proofs.lemmas.Bool.{cases_lt, leb-true, eqb-true}
use Rattle.std.proofs.lemmas.List.{length-append, take-append-le, take_all}
use Rattle.hub_rows.specs.declared.forgettable.TheConstants.{MAX_FORGOTTEN, MAX_READINGS}
use Rattle.hub_rows.specs.declared.meter_value_row.MeterValueRow.{MeterValueRow}
use Rattle.hub_rows.specs.Forgetting.{count_readings, oldest, oldest_values, until_readings}

abbrev pub Values : Type 0
Values = List MeterValueRow

-- ---- readings

pub count_both : (xs ys : Values) → count_readings (xs ++ ys) ≡ count_readings xs + count_readings ys
count_both [] ys = omega arith
count_both (x ∷ xs) ys = let rest = count_both xs ys in omega (arith, rest)

-- those that are left, after some more
pub left_after : (n before left : ℕ) (xs ys more : Values) → before ≡ n - count_readings xs → left ≡ before - count_readings ys → more ≡ xs ++ ys → left ≡ n - count_readings more
left_after n before left xs ys more was now new =
    let sum : count_readings more ≡ count_readings xs + count_readings ys = ap count_readings new ∙ count_both xs ys in
    omega (arith, was, now, sum)

-- a prefix with n readings decides `until_readings n`
until_both : (n : ℕ) (xs ys : Values) → n ≤ count_readings xs → until_readings n (xs ++ ys) ≡ until_readings n xs
until_both zero xs ys enough = refl
until_both (suc n) [] ys enough = absurd (omega (arith, enough))
until_both (suc n) (x ∷ xs) ys enough = ap (λ l. x ∷ l) (until_both (suc n - length x.value.sampled) xs ys (omega (arith, enough)))

-- ---- rows

oldest_before : (xs : Values) (x : MeterValueRow) → oldest (xs ++ x ∷ []) ≡ take MAX_FORGOTTEN xs
oldest_before xs x =
    let many = length-append xs (x ∷ []) in
    let but_last : length (xs ++ x ∷ []) - 1 ≡ length xs = omega (arith, many) in
    ap (take MAX_FORGOTTEN) (ap (λ n. take n (xs ++ x ∷ [])) but_last ∙ take-append_seam xs (x ∷ []))

oldest_more : (xs : Values) (x : MeterValueRow) (more : Values) → oldest (xs ++ x ∷ more) ≡ take MAX_FORGOTTEN (xs ++ take (length more) (x ∷ more))
oldest_more xs x more =
    let many = length-append xs (x ∷ more) in
    let but_last : length (xs ++ x ∷ more) - 1 ≡ length xs + length more = omega (arith, many) in
    ap (take MAX_FORGOTTEN) (ap (λ n. take n (xs ++ x ∷ more)) but_last ∙ take-append-add xs (x ∷ more) (length more))

-- once the rows or their readings reach the limit, `oldest_values` depends on no row past the next one
many_rows : (xs : Values) (x : MeterValueRow) (more : Values) → MAX_FORGOTTEN ≤ length xs → oldest_values (xs ++ x ∷ []) ≡ oldest_values (xs ++ x ∷ more)
many_rows xs x more many = ap (until_readings MAX_READINGS) (oldest_before xs x ∙ sym (take-append-le MAX_FORGOTTEN xs (take (length more) (x ∷ more)) many) ∙ sym (oldest_more xs x more))

many_readings : (xs : Values) (x : MeterValueRow) (more : Values) → MAX_READINGS ≤ count_readings xs → length xs ≤ MAX_FORGOTTEN → oldest_values (xs ++ x ∷ []) ≡ oldest_values (xs ++ x ∷ more)
many_readings xs x more enough few =
    let behind : Values = take (length more) (x ∷ more) in
    let size : MAX_FORGOTTEN ≡ length xs + (MAX_FORGOTTEN - length xs) = omega (arith, few) in
    let here : take MAX_FORGOTTEN (xs ++ behind) ≡ xs ++ take (MAX_FORGOTTEN - length xs) behind = ap (λ n. take n (xs ++ behind)) size ∙ take-append-add xs behind (MAX_FORGOTTEN - length xs) in
    ap (until_readings MAX_READINGS) (oldest_before xs x ∙ take_all MAX_FORGOTTEN xs few)
    ∙ sym (until_both MAX_READINGS xs (take (MAX_FORGOTTEN - length xs) behind) enough)
    ∙ ap (until_readings MAX_READINGS) (sym here ∙ sym (oldest_more xs x more))

enough_is : (left : ℕ) (xs : Values) (x : MeterValueRow) (more : Values) → left ≡ MAX_READINGS - count_readings xs → (left == 0) || nat_le MAX_FORGOTTEN (length xs) ≡ true → oldest_values (xs ++ x ∷ []) ≡ oldest_values (xs ++ x ∷ more)
enough_is left xs x more is = go (left == 0) refl
  where
    go : (none : Bool) → (left == 0) ≡ none → none || nat_le MAX_FORGOTTEN (length xs) ≡ true → oldest_values (xs ++ x ∷ []) ≡ oldest_values (xs ++ x ∷ more)
    go true none enough = elim (cases_lt (length xs) MAX_FORGOTTEN) [
      | inl few ↦ let zero_left = eqb-true left 0 none in many_readings xs x more (omega (arith, is, zero_left)) (omega (arith, few))
      | inr many ↦ many_rows xs x more many
    ]
    go false some enough = many_rows xs x more (leb-true MAX_FORGOTTEN (length xs) enough)

-- the oldest of all are among these rows and the next one, if there is any
pub oldest_found : (left : ℕ) (xs page behind those all found : Values) → left ≡ MAX_READINGS - count_readings xs → (left == 0) || nat_le MAX_FORGOTTEN (length xs) ≡ true → found ≡ xs ++ page → found ++ behind ≡ all → page ≡ take 1 those → page ++ behind ≡ those → oldest_values found ≡ oldest_values all
oldest_found left xs page behind [] all found is enough new whole one these =
    ap oldest_values (new ∙ ap (λ l. xs ++ l) (one ∙ sym these) ∙ sym (append_assoc xs page behind) ∙ ap (λ l. l ++ behind) (sym new) ∙ whole)
oldest_found left xs page behind (x ∷ more) all found is enough new whole one these =
    ap oldest_values (new ∙ ap (λ l. xs ++ l) one) ∙ enough_is left xs x more is enough
    ∙ ap oldest_values (ap (λ l. xs ++ l) (sym these) ∙ sym (append_assoc xs page behind) ∙ ap (λ l. l ++ behind) (sym new) ∙ whole)
