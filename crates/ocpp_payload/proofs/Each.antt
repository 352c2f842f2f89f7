-- Reading the items of a list, one after another.
use Rattle.std.proofs.Common.{◌≡◌, ℕ, suc, ◌+◌, ◌<◌, ◌==◌, false, List, [], ◌∷◌, ◌++◌, length, get_or, drop, Result, Ok, Err, refl, ap, subst, sym, ◌∙◌, append_assoc, drop-cons, add-one}
use Rattle.serde_json.specs.Data.{Data}
use Rattle.json_data.specs.View.{view, items_view}
use Rattle.json.specs.declared.value.Value.{Value}
use Rattle.ocpp_payload.specs.declared.fault.FieldFault.{FieldFault}
use Rattle.ocpp_payload.specs.Kind.{Kind, ◌>>=◌}
use Rattle.ocpp_payload.specs.Lists.{each, some_each}
use Rattle.ocpp_payload.specs.Gives.{Fails, Gives}
use Rattle.ocpp_payload.specs.declared.fault.ReadError.{ReadError}
use Rattle.ocpp_payload.specs.declared.fault.ReadError.TheVariants.{NoMemory, Fault}

-- the items so far, before those that reading gives
abbrev pub with_front : {A : Type 0} → List A → Result (List A) FieldFault → Result (List A) FieldFault
with_front front r = r >>= (λ xs. Ok (front ++ xs))

module _ {A : Type 0} where
  with_front-one : (front : List A) (y : A) (r : Result (List A) FieldFault) → with_front front (r >>= (λ xs. Ok (y ∷ xs))) ≡ with_front (front ++ y ∷ []) r
  with_front-one front y (Ok xs) = ap Ok (sym (append_assoc front (y ∷ []) xs))
  with_front-one front y (Err e) = refl

  pub each-item : {B : Type 0} → (read : Data → Result A FieldFault) (front : List A) (vs : List (Value B)) (i : ℕ) (v : Value B) (y : A) → i < length vs → v ≡ get_or vs i v → read (view v) ≡ Ok y
      → with_front front (each read (items_view (drop i vs))) ≡ with_front (front ++ y ∷ []) (each read (items_view (drop (i + 1) vs)))
  each-item read front vs i v y within is e =
      ap (λ ws. with_front front (each read (items_view ws))) (drop-cons vs i v within)
      ∙ ap (λ w. with_front front (read (view w) >>= (λ x. each read (items_view (drop (suc i) vs)) >>= (λ xs. Ok (x ∷ xs))))) (sym is)
      ∙ ap (λ r. with_front front (r >>= (λ x. each read (items_view (drop (suc i) vs)) >>= (λ xs. Ok (x ∷ xs))))) e
      ∙ with_front-one front y (each read (items_view (drop (suc i) vs)))
      ∙ ap (λ n. with_front (front ++ y ∷ []) (each read (items_view (drop n vs)))) (sym (add-one i))

  pub each-refused : {B : Type 0} → (read : Data → Result A FieldFault) (front : List A) (vs : List (Value B)) (i : ℕ) (v : Value B) (f : FieldFault) → i < length vs → v ≡ get_or vs i v → read (view v) ≡ Err f
      → with_front front (each read (items_view (drop i vs))) ≡ Err f
  each-refused read front vs i v f within is e =
      ap (λ ws. with_front front (each read (items_view ws))) (drop-cons vs i v within)
      ∙ ap (λ w. with_front front (read (view w) >>= (λ x. each read (items_view (drop (suc i) vs)) >>= (λ xs. Ok (x ∷ xs))))) (sym is)
      ∙ ap (λ r. with_front front (r >>= (λ x. each read (items_view (drop (suc i) vs)) >>= (λ xs. Ok (x ∷ xs))))) e

  -- a fault at an item is the list's
  pub each-fails : {B : Type 0} → (e : ReadError) (read : Data → Result A FieldFault) (front : List A) (vs : List (Value B)) (i : ℕ) (v : Value B)
      → i < length vs → v ≡ get_or vs i v → Fails e (read (view v))
      → with_front front (each read (items_view (drop i vs))) ≡ each read (items_view vs)
      → Fails e (each read (items_view vs))
  each-fails NoMemory read front vs i v within is h same = tt
  each-fails (Fault f) read front vs i v within is h same = sym same ∙ each-refused read front vs i v f within is h

  pub some_each-each : {B : Type 0} → (kind : Kind A) (name : List ℕ) (vs : List (Value B)) → (length vs == 0) ≡ false → each (kind name) (items_view vs) ≡ some_each kind name (items_view vs)
  some_each-each kind name [] some = absurd (cc)
  some_each-each kind name (v ∷ vs) some = refl

  pub gives_as : (r : Result A ReadError) (wanted other : Result A FieldFault) → Gives r wanted → wanted ≡ other → Gives r other
  gives_as r wanted other h same = subst (λ w. Gives r w) same h
