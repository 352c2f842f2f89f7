-- The places of the items that pass a test.
use Rattle.std.proofs.Common.{arith, add-one, ◌≡◌, ◌∙◌, ℕ, zero, suc, ◌+◌, ◌<◌, ◌≤◌, List, [], ◌∷◌, ◌++◌, length, map, drop, get_or, set, sym, ap, refl, Bool, true, false, subst, append_assoc, drop-cons, length-drop, drop_of_length-le, if◌then◌else◌, ◌-◌}
use Rattle.std.proofs.Math.Bool.{cond}
use Rattle.std.proofs.lemmas.List.{drop-set-lt, drop-drop, get_or-drop}
use Rattle.std.specs.List.{AllZip, filter}
use Rattle.ws_peers.specs.Lists.{Front}
use Rattle.ws_peers.specs.Peers.{places_of}

-- ---- loops over all

front_more : {A : Type 0} (R : A → A → Type 0) (old now : List A) (i : ℕ) (d y : A) → Front R i old now → i < length now → R (get_or now i d) y → Front R (suc i) old (set now i y)
front_more R old [] i d y f small r = absurd (omega (arith, small))
front_more R [] (b ∷ bs) zero d y f small r = absurd (omega (arith, ap length f))
front_more R (a ∷ aa) (b ∷ bs) zero d y f small r = subst (λ zs. R (get_or zs 0 d) y × (bs ≡ drop 1 zs)) f (r, refl)
front_more R [] (b ∷ bs) (suc i) d y f small r = absurd f
front_more R (a ∷ aa) (b ∷ bs) (suc i) d y f small r = (f.0, front_more R aa bs i d y f.1 (omega (arith, small)) r)

-- one more
pub front_on : {A : Type 0} (R : A → A → Type 0) (old now : List A) (i : ℕ) (d y : A) → Front R i old now → i < length now → R (get_or now i d) y → Front R (i + 1) old (set now i y)
front_on R old now i d y f small r = rw add-one (front_more R old now i d y f small r)

pub front_all : {A : Type 0} (R : A → A → Type 0) (n : ℕ) (old now : List A) → Front R n old now → length now ≤ n → AllZip R old now
front_all R zero [] [] f small = tt
front_all R zero (a ∷ aa) [] f small = absurd (omega (arith, ap length f))
front_all R zero old (b ∷ bs) f small = absurd (omega (arith, small))
front_all R (suc n) [] [] f small = tt
front_all R (suc n) [] (b ∷ bs) f small = absurd f
front_all R (suc n) (a ∷ aa) [] f small = absurd f
front_all R (suc n) (a ∷ aa) (b ∷ bs) f small = (f.0, front_all R n aa bs f.1 (omega (arith, small)))

-- ---- places

module _ {A : Type 0} (f : A → Bool) where
  pub places_bound : (n : ℕ) (xs : List A) → length (places_of f n xs) ≤ length xs
  places_bound n [] = omega arith
  places_bound n (x ∷ xs) =
      let more = places_bound (suc n) xs in
      elim (f x) as (λ b. length (if b then n ∷ places_of f (suc n) xs else places_of f (suc n) xs) ≤ suc (length xs)) [
        | true ↦ omega (arith, more)
        | false ↦ omega (arith, more)
      ]

  -- one more item
  pub places_more : (n : ℕ) (xs : List A) (y : A) → places_of f n (xs ++ y ∷ []) ≡ places_of f n xs ++ (if f y then (n + length xs) ∷ [] else [])
  places_more n [] y =
      let same : n + 0 ≡ n = omega arith in
      elim (f y) as (λ b. (if b then n ∷ [] else []) ≡ (if b then (n + 0) ∷ [] else [])) [
        | true ↦ ap (λ k. k ∷ []) (sym same)
        | false ↦ refl
      ]
  places_more n (x ∷ xs) y =
      let same : suc n + length xs ≡ n + suc (length xs) = omega arith in
      let more = places_more (suc n) xs y ∙ ap (λ k. places_of f (suc n) xs ++ (if f y then k ∷ [] else [])) same in
      elim (f x) as (λ b. (if b then n ∷ places_of f (suc n) (xs ++ y ∷ []) else places_of f (suc n) (xs ++ y ∷ [])) ≡ (if b then n ∷ places_of f (suc n) xs else places_of f (suc n) xs) ++ (if f y then (n + suc (length xs)) ∷ [] else [])) [
        | true ↦ ap (λ ps. n ∷ ps) more
        | false ↦ more
      ]

  pub places_set : (n : ℕ) (xs : List A) (i : ℕ) (d y : A) → f y ≡ f (get_or xs i d) → places_of f n (set xs i y) ≡ places_of f n xs
  places_set n [] i d y e = refl
  places_set n (x ∷ xs) zero d y e = ap (λ b. if b then n ∷ places_of f (suc n) xs else places_of f (suc n) xs) e
  places_set n (x ∷ xs) (suc i) d y e = ap (λ ps. if f x then n ∷ ps else ps) (places_set (suc n) xs i d y e)

  pub places_zip : (R : A → A → Type 0) → ((x y : A) → R x y → f y ≡ f x) → (n : ℕ) (xs ys : List A) → AllZip R xs ys → places_of f n ys ≡ places_of f n xs
  places_zip R same n [] [] z = refl
  places_zip R same n [] (y ∷ ys) z = absurd z
  places_zip R same n (x ∷ xs) [] z = absurd z
  places_zip R same n (x ∷ xs) (y ∷ ys) z =
      ap (λ b. if b then n ∷ places_of f (suc n) ys else places_of f (suc n) ys) (same x y z.0)
      ∙ ap (λ ps. if f x then n ∷ ps else ps) (places_zip R same (suc n) xs ys z.1)

  pub places_map : (g : A → A) → ((x : A) → f (g x) ≡ f x) → (n : ℕ) (xs : List A) → places_of f n (map g xs) ≡ places_of f n xs
  places_map g same n [] = refl
  places_map g same n (x ∷ xs) =
      ap (λ b. if b then n ∷ places_of f (suc n) (map g xs) else places_of f (suc n) (map g xs)) (same x)
      ∙ ap (λ ps. if f x then n ∷ ps else ps) (places_map g same (suc n) xs)

  -- a list of places as one more item is looked at
  pub listed : (ps qs : List ℕ) (n : ℕ) (xs : List A) (d : A) → ps ++ places_of f n (drop n xs) ≡ places_of f 0 xs → n < length xs
      → qs ≡ (if f (get_or xs n d) then ps ++ n ∷ [] else ps) → qs ++ places_of f (n + 1) (drop (n + 1) xs) ≡ places_of f 0 xs
  listed ps qs n xs d so small is =
      let now : ps ++ places_of f n (get_or xs n d ∷ drop (suc n) xs) ≡ places_of f 0 xs = ap (λ ys. ps ++ places_of f n ys) (sym (drop-cons xs n d small)) ∙ so in
      rw add-one
      (elim (f (get_or xs n d)) as (λ b. ps ++ (if b then n ∷ places_of f (suc n) (drop (suc n) xs) else places_of f (suc n) (drop (suc n) xs)) ≡ places_of f 0 xs → qs ≡ (if b then ps ++ n ∷ [] else ps) → qs ++ places_of f (suc n) (drop (suc n) xs) ≡ places_of f 0 xs) [
        | true ↦ λ so is. ap (λ rs. rs ++ places_of f (suc n) (drop (suc n) xs)) is ∙ append_assoc ps (n ∷ []) (places_of f (suc n) (drop (suc n) xs)) ∙ so
        | false ↦ λ so is. ap (λ rs. rs ++ places_of f (suc n) (drop (suc n) xs)) is ∙ so
      ] now is)

  -- ---- a walk over the places, where the other items may stay as they are

  -- the items up to b have changed, and the places from i on are those of the items from b on
  abbrev pub Walked : (A → A → Type 0) → ℕ → List ℕ → List A → List A → Type 0
  Walked R i places old now = (b : ℕ) × Front R b old now × (drop i places ≡ places_of f b (drop b now))

  module _ (R : A → A → Type 0) (stays : (x : A) → f x ≡ false → R x x) where
    -- the next place
    abbrev pub Jump : ℕ → List A → ℕ → List ℕ → Type 0
    Jump n xs p rest = (q : ℕ) × (p ≡ n + q) × (q < length xs) × Front R q xs xs × (rest ≡ places_of f (suc p) (drop (suc q) xs))

    jump : (n : ℕ) (xs : List A) (p : ℕ) (rest : List ℕ) → p ∷ rest ≡ places_of f n xs → Jump n xs p rest
    jump n [] p rest e = absurd (cc)
    jump n (x ∷ xs) p rest e =
        elim (f x) as (λ b. f x ≡ b → p ∷ rest ≡ (if b then n ∷ places_of f (suc n) xs else places_of f (suc n) xs) → Jump n (x ∷ xs) p rest) [
          | true ↦ λ is e.
              let here : p ≡ n = cc in
              let left : rest ≡ places_of f (suc n) xs = cc in
              (0, omega (arith, here), omega arith, refl, left ∙ ap (λ k. places_of f (suc k) xs) (sym here))
          | false ↦ λ is e.
              let next = jump (suc n) xs p rest e in
              (suc next.0, omega (arith, next.1), omega (arith, next.2), (stays x is, next.3), next.4)
        ] refl e

    -- none is left
    past : (n : ℕ) (xs : List A) → [] ≡ places_of f n xs → Front R (length xs) xs xs
    past n [] e = refl
    past n (x ∷ xs) e =
        elim (f x) as (λ b. f x ≡ b → [] ≡ (if b then n ∷ places_of f (suc n) xs else places_of f (suc n) xs) → Front R (suc (length xs)) (x ∷ xs) (x ∷ xs)) [
          | true ↦ λ is e. absurd (cc)
          | false ↦ λ is e. (stays x is, past (suc n) xs e)
        ] refl e

    front_past : (b q k : ℕ) (old now : List A) → k ≡ b + q → Front R b old now → Front R q (drop b now) (drop b now) → Front R k old now
    front_past zero q k old now e front more =
        let same : q ≡ k = omega (arith, e) in
        subst (λ xs. Front R k xs now) front (subst (λ j. Front R j now now) same more)
    front_past (suc b) q zero old now e front more = absurd (omega (arith, e))
    front_past (suc b) q (suc k) [] [] e front more = tt
    front_past (suc b) q (suc k) [] (y ∷ ys) e front more = absurd front
    front_past (suc b) q (suc k) (x ∷ xs) [] e front more = absurd front
    front_past (suc b) q (suc k) (x ∷ xs) (y ∷ ys) e front more = (front.0, front_past b q k xs ys (omega (arith, e)) front.1 more)

    pub walk_start : (places : List ℕ) (old now : List A) → now ≡ old → places ≡ places_of f 0 old → Walked R 0 places old now
    walk_start places old now same e = (0, same, e ∙ ap (places_of f 0) (sym same))

    next : (i : ℕ) (places : List ℕ) (old now : List A) → (w : Walked R i places old now) → i < length places → Jump w.0 (drop w.0 now) (get_or places i 0) (drop (suc i) places)
    next i places old now w small = jump w.0 (drop w.0 now) (get_or places i 0) (drop (suc i) places) (sym (drop-cons places i 0 small) ∙ w.2)

    -- a listed place is one of an item
    pub walk_within : (i : ℕ) (places : List ℕ) (old now : List A) (p : ℕ) → Walked R i places old now → i < length places → p ≡ get_or places i 0 → p < length now
    walk_within i places old now p w small is =
        let j = next i places old now w small in
        let size : length (drop w.0 now) ≡ length now - w.0 = length-drop w.0 now in
        omega (arith, is, j.1, j.2, size)

    pub walk_on : (i : ℕ) (places : List ℕ) (old now : List A) (p : ℕ) (d y : A) → Walked R i places old now → i < length places → p ≡ get_or places i 0 → R (get_or now p d) y → Walked R (i + 1) places old (set now p y)
    walk_on i places old now p d y w small is r =
        let j = next i places old now w small in
        let place : p ≡ w.0 + j.0 = is ∙ j.1 in
        let within : p < length now = walk_within i places old now p w small is in
        let front : Front R p old now = front_past w.0 j.0 p old now place w.1 j.3 in
        let more : drop (suc i) places ≡ places_of f (suc p) (drop (suc j.0) (drop w.0 now)) = j.4 ∙ ap (λ k. places_of f (suc k) (drop (suc j.0) (drop w.0 now))) (sym is) in
        let jumped : w.0 + suc j.0 ≡ suc p = omega (arith, place) in
        let rest : drop (suc j.0) (drop w.0 now) ≡ drop (suc p) (set now p y) = drop-drop (suc j.0) w.0 now ∙ ap (λ k. drop k now) jumped ∙ sym (drop-set-lt (suc p) now p y (omega arith)) in
        (suc p, front_more R old now p d y front within r, rw add-one (more ∙ ap (places_of f (suc p)) rest))

    pub walk_end : (i : ℕ) (places : List ℕ) (old now : List A) → Walked R i places old now → length places ≤ i → AllZip R old now
    walk_end i places old now w all =
        let none : drop i places ≡ [] = drop_of_length-le places all in
        let front : Front R (w.0 + length (drop w.0 now)) old now = front_past w.0 (length (drop w.0 now)) (w.0 + length (drop w.0 now)) old now refl w.1 (past w.0 (drop w.0 now) (sym none ∙ w.2)) in
        let size : length (drop w.0 now) ≡ length now - w.0 = length-drop w.0 now in
        front_all R (w.0 + length (drop w.0 now)) old now front (omega (arith, size))

  -- ---- how many pass a test that passes only where this one does

  module _ (g : A → Bool) (fails : (x : A) → f x ≡ false → g x ≡ false) where
    abbrev Without : A → A → Type 0
    Without x y = g x ≡ false

    before : (q : ℕ) (xs : List A) → Front Without q xs xs → filter g xs ≡ filter g (drop q xs)
    before zero xs front = refl
    before (suc q) [] front = refl
    before (suc q) (x ∷ xs) front = ap (λ b. cond b (x ∷ filter g xs) (filter g xs)) front.0 ∙ before q xs front.1

    -- those at the places up to i are counted
    abbrev pub Counted : ℕ → List ℕ → List A → ℕ → Type 0
    Counted i places xs count = (b : ℕ) × (drop i places ≡ places_of f b (drop b xs)) × (count + length (filter g (drop b xs)) ≡ length (filter g xs))

    pub count_start : (places : List ℕ) (xs : List A) → places ≡ places_of f 0 xs → Counted 0 places xs 0
    count_start places xs e = (0, e, omega arith)

    next_counted : (i : ℕ) (places : List ℕ) (xs : List A) (count : ℕ) → (c : Counted i places xs count) → i < length places → Jump Without fails c.0 (drop c.0 xs) (get_or places i 0) (drop (suc i) places)
    next_counted i places xs count c small = jump Without fails c.0 (drop c.0 xs) (get_or places i 0) (drop (suc i) places) (sym (drop-cons places i 0 small) ∙ c.1)

    pub count_within : (i : ℕ) (places : List ℕ) (xs : List A) (count : ℕ) → Counted i places xs count → i < length places → get_or places i 0 < length xs
    count_within i places xs count c small =
        let j = next_counted i places xs count c small in
        let size : length (drop c.0 xs) ≡ length xs - c.0 = length-drop c.0 xs in
        omega (arith, j.1, j.2, size)

    pub count_on : (i : ℕ) (places : List ℕ) (xs : List A) (count more : ℕ) (d : A) (one : Bool) → Counted i places xs count → i < length places → one ≡ g (get_or xs (get_or places i 0) d) → more ≡ (if one then count + 1 else count) → Counted (i + 1) places xs more
    count_on i places xs count more d one c small is put =
        let j = next_counted i places xs count c small in
        let p = get_or places i 0 in
        let from = drop c.0 xs in
        let after : c.0 + suc j.0 ≡ suc p = omega (arith, j.1) in
        let here : get_or from j.0 d ≡ get_or xs p d = get_or-drop c.0 xs j.0 d ∙ ap (λ k. get_or xs k d) (sym j.1) in
        let rest : drop (suc j.0) from ≡ drop (suc p) xs = drop-drop (suc j.0) c.0 xs ∙ ap (λ k. drop k xs) after in
        let split : filter g from ≡ filter g (get_or from j.0 d ∷ drop (suc j.0) from) = before j.0 from j.3 ∙ ap (filter g) (drop-cons from j.0 d j.2) in
        let parts : filter g from ≡ cond one (get_or xs p d ∷ filter g (drop (suc p) xs)) (filter g (drop (suc p) xs)) =
        split ∙ ap (λ y. filter g (y ∷ drop (suc j.0) from)) here ∙ ap (λ ys. filter g (get_or xs p d ∷ ys)) rest ∙ ap (λ b. cond b (get_or xs p d ∷ filter g (drop (suc p) xs)) (filter g (drop (suc p) xs))) (sym is) in
        let total : count + length (cond one (get_or xs p d ∷ filter g (drop (suc p) xs)) (filter g (drop (suc p) xs))) ≡ length (filter g xs) = sym (ap (λ ys. count + length ys) parts) ∙ c.2 in (
          suc p,
          rw add-one (j.4 ∙ ap (places_of f (suc p)) rest),
          elim one as (λ b. more ≡ (if b then count + 1 else count) → count + length (cond b (get_or xs p d ∷ filter g (drop (suc p) xs)) (filter g (drop (suc p) xs))) ≡ length (filter g xs) → more + length (filter g (drop (suc p) xs)) ≡ length (filter g xs)) [
            | true ↦ λ put total. omega (arith, put, total)
            | false ↦ λ put total. omega (arith, put, total)
          ] put total,
        )

    pub count_end : (i : ℕ) (places : List ℕ) (xs : List A) (count : ℕ) → Counted i places xs count → length places ≤ i → count ≡ length (filter g xs)
    count_end i places xs count c all =
        let from = drop c.0 xs in
        let none : drop i places ≡ [] = drop_of_length-le places all in
        let left : filter g from ≡ filter g (drop (length from) from) = before (length from) from (past Without fails c.0 from (sym none ∙ c.1)) in
        let over : drop (length from) from ≡ [] = drop_of_length-le from (omega arith) in
        let zero_left : length (filter g from) ≡ 0 = ap length (left ∙ ap (filter g) over) in
        omega (arith, zero_left, c.2)
