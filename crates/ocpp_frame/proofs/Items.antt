-- What stands behind an id, by how many items there are.
use Rattle.std.proofs.Common.{◌⊎◌, inl, inr, ◌≡◌, ◌≢◌, ℕ, ◌+◌, ◌<◌, ◌≤◌, List, [], ◌∷◌, length, refl, ap, sym, ◌∙◌, arith}
use Rattle.serde_json.specs.Find.{as_str}
use Rattle.json_data.specs.View.{view, items_view}
use Rattle.json.specs.declared.value.Value.{Value}
use Rattle.ocpp_frame.specs.declared.frame.Frame.TheVariants.{Broken, Ignored}
use Rattle.ocpp_frame.specs.Frame.{frame_of_items, call, call_result, call_error, error_with, description_of}

pub frame_of_items-short : {A : Type 0} → (vs : List (Value A)) → length vs < 2 → Ignored ≡ frame_of_items (items_view vs)
frame_of_items-short [] h = refl
frame_of_items-short (v ∷ []) h = refl
frame_of_items-short (u ∷ v ∷ vs) h = absurd (omega arith)

pub call-other : {A : Type 0} → (id : List ℕ) (vs : List (Value A)) → (length vs < 2) ⊎ (2 < length vs) → Broken id ≡ call id (items_view vs)
call-other id [] h = refl
call-other id (u ∷ []) h = refl
call-other id (u ∷ v ∷ []) h = absurd (elim h [ inl p ↦ omega arith | inr p ↦ omega arith ])
call-other id (u ∷ v ∷ w ∷ vs) h = refl

pub call_result-other : {A : Type 0} → (id : List ℕ) (vs : List (Value A)) → length vs ≢ 1 → Ignored ≡ call_result id (items_view vs)
call_result-other id [] h = refl
call_result-other id (v ∷ []) h = absurd (h refl)
call_result-other id (v ∷ w ∷ vs) h = refl

pub call_error-other : {A : Type 0} → (id : List ℕ) (vs : List (Value A)) → (length vs < 2) ⊎ (3 < length vs) → Ignored ≡ call_error id (items_view vs)
call_error-other id [] h = refl
call_error-other id (u ∷ []) h = refl
call_error-other id (u ∷ v ∷ []) h = absurd (elim h [ inl p ↦ omega arith | inr p ↦ omega arith ])
call_error-other id (u ∷ v ∷ w ∷ []) h = absurd (elim h [ inl p ↦ omega arith | inr p ↦ omega arith ])
call_error-other id (u ∷ v ∷ w ∷ x ∷ vs) h = refl

-- the details aren't looked at
call_error-two : {A : Type 0} → (id : List ℕ) (code description : Value A) (rest : List (Value A)) → length rest + 2 ≤ 3
    → error_with id (as_str (view code)) (description_of (view description)) ≡ call_error id (items_view (code ∷ description ∷ rest))
call_error-two id code description [] h = refl
call_error-two id code description (d ∷ []) h = refl
call_error-two id code description (d ∷ e ∷ rest) h = absurd (omega arith)

pub call_error-some : {A : Type 0} → (id : List ℕ) (code description : Value A) (vs rest : List (Value A)) → vs ≡ code ∷ description ∷ rest → length rest + 2 ≤ 3
    → error_with id (as_str (view code)) (description_of (view description)) ≡ call_error id (items_view vs)
call_error-some id code description vs rest e h = call_error-two id code description rest h ∙ ap (λ us. call_error id (items_view us)) (sym e)
