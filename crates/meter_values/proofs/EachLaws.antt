-- Reading the items of an array, one after another.
use Rattle.std.proofs.Common.{◌≡◌, ℕ, suc, ◌+◌, ◌<◌, List, [], ◌∷◌, ◌++◌, length, get_or, drop, Option, Some, None, refl, ap, sym, ◌∙◌, append_assoc, drop-cons, add-one}
use Rattle.json.specs.Value.{value_view, items_view}
use Rattle.json.specs.declared.value.Value.{Value}
use Rattle.ocpp_types.specs.declared.sampled_value.SampledValue.{SampledValue}
use Rattle.meter_values.specs.Read.{◌>>=◌, sampled_of_json, each_sampled}

-- the sampled values so far, before those that reading gives
abbrev pub with_front : List SampledValue → Option (List SampledValue) → Option (List SampledValue)
with_front front o = o >>= (λ xs. Some (front ++ xs))

with_front-one : (front : List SampledValue) (y : SampledValue) (o : Option (List SampledValue)) → with_front front (o >>= (λ xs. Some (y ∷ xs))) ≡ with_front (front ++ y ∷ []) o
with_front-one front y (Some xs) = ap Some (sym (append_assoc front (y ∷ []) xs))
with_front-one front y None = refl

module _ {A : Type 0} (front : List SampledValue) (vs : List (Value A)) (i : ℕ) (v : Value A) (within : i < length vs) (is : v ≡ get_or vs i v) where
  next : with_front front (each_sampled (items_view (drop i vs))) ≡ with_front front (sampled_of_json (value_view v) >>= (λ s. each_sampled (items_view (drop (suc i) vs)) >>= (λ rest. Some (s ∷ rest))))
  next =
      ap (λ ws. with_front front (each_sampled (items_view ws))) (drop-cons vs i v within)
      ∙ ap (λ w. with_front front (sampled_of_json (value_view w) >>= (λ s. each_sampled (items_view (drop (suc i) vs)) >>= (λ rest. Some (s ∷ rest))))) (sym is)

  pub each-item : (y : SampledValue) → Some y ≡ sampled_of_json (value_view v)
      → with_front front (each_sampled (items_view (drop i vs))) ≡ with_front (front ++ y ∷ []) (each_sampled (items_view (drop (i + 1) vs)))
  each-item y e =
      next ∙ ap (λ r. with_front front (r >>= (λ s. each_sampled (items_view (drop (suc i) vs)) >>= (λ rest. Some (s ∷ rest))))) (sym e)
      ∙ with_front-one front y (each_sampled (items_view (drop (suc i) vs)))
      ∙ ap (λ n. with_front (front ++ y ∷ []) (each_sampled (items_view (drop n vs)))) (sym (add-one i))
