-- Taking the texts of a list, one after another.
use Rattle.std.proofs.Common.{◌≡◌, ◌∙◌, ℕ, suc, ◌+◌, ◌<◌, List, None, Some, [], ◌∷◌, ◌++◌, length, get_or, drop, refl, ap, sym, add-one, drop-cons}
use Rattle.serde_json.specs.Data.{Items, no_items, item, string}
use Rattle.serde_json.specs.Find.{as_str}
use Rattle.json.specs.declared.value.Value as tree
use Rattle.json_data.specs.View as lent
use Rattle.serde_json.specs.View.{view, items_view}
use Rattle.serde_json.specs.declared.value.Value.{Value}
use Rattle.station_sim.specs.Replies.{texts, text_before}

-- values before other items
abbrev pub followed : List Value → Items → Items
followed [] ds = ds
followed (v ∷ vs) ds = item (view v) (followed vs ds)

pub followed_none : (vs : List Value) → followed vs no_items ≡ items_view vs
followed_none [] = refl
followed_none (v ∷ vs) = ap (item (view v)) (followed_none vs)

followed_one : (vs : List Value) (v : Value) (ds : Items) → followed (vs ++ v ∷ []) ds ≡ followed vs (item (view v) ds)
followed_one [] v ds = refl
followed_one (w ∷ vs) v ds = ap (item (view w)) (followed_one vs v ds)

texts_at : {A : Type 0} → (vs : List (tree.Value A)) (i : ℕ) (v : tree.Value A) → i < length vs → v ≡ get_or vs i v → texts (lent.items_view (drop i vs)) ≡ text_before (as_str (lent.view v)) (texts (lent.items_view (drop (i + 1) vs)))
texts_at vs i v within is =
    ap (λ ws. texts (lent.items_view ws)) (drop-cons vs i v within)
    ∙ ap (λ w. text_before (as_str (lent.view w)) (texts (lent.items_view (drop (suc i) vs)))) (sym is)
    ∙ ap (λ n. text_before (as_str (lent.view v)) (texts (lent.items_view (drop n vs)))) (sym (add-one i))

-- a text is taken
pub texts_take : {A : Type 0} → (front : List Value) (vs : List (tree.Value A)) (i : ℕ) (v : tree.Value A) (w : Value) (t : List ℕ) → i < length vs → v ≡ get_or vs i v → Some t ≡ as_str (lent.view v) → view w ≡ string t
    → followed (front ++ w ∷ []) (texts (lent.items_view (drop (i + 1) vs))) ≡ followed front (texts (lent.items_view (drop i vs)))
texts_take front vs i v w t within is text same =
    let rest = texts (lent.items_view (drop (i + 1) vs)) in
    followed_one front w rest
    ∙ ap (λ d. followed front (item d rest)) same
    ∙ ap (λ o. followed front (text_before o rest)) text
    ∙ ap (followed front) (sym (texts_at vs i v within is))

-- another item is left out
pub texts_skip : {A : Type 0} → (front : List Value) (vs : List (tree.Value A)) (i : ℕ) (v : tree.Value A) → i < length vs → v ≡ get_or vs i v → None ≡ as_str (lent.view v)
    → followed front (texts (lent.items_view (drop (i + 1) vs))) ≡ followed front (texts (lent.items_view (drop i vs)))
texts_skip front vs i v within is none =
    ap (λ o. followed front (text_before o (texts (lent.items_view (drop (i + 1) vs))))) none
    ∙ ap (followed front) (sym (texts_at vs i v within is))
