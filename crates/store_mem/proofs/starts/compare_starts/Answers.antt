use mir.Syntax.{w64}
use mir.Val.{SFits}
use Rattle.std.proofs.Common.{◌≡◌, ℤ, [], ◌∷◌, refl, nat_cmp, unsigned_abs, rules, ◌∙◌}
use Rattle.std.proofs.lemmas.Int.{to_z-of_z}
use Rattle.std.specs.Ordering.{ordering_then}
use Rattle.std.specs.declared.cmp.Ordering.{Ordering}
use Rattle.std.specs.declared.cmp.Ordering.TheVariants.{Less, Equal, Greater}
use Rattle.hub_rows.specs.Keyed.{text_cmp}
use Rattle.store_mem.specs.Starts.{sign}
use Rattle.store_mem.proofs.starts.compare_starts.Goals as goal

abbrev number_cmp : ℤ → ℤ → Ordering
number_cmp x y = text_cmp (unsigned_abs x ∷ sign x ∷ []) (unsigned_abs y ∷ sign y ∷ [])

joined : (a s m t c k : Ordering) → ordering_then (ordering_then (ordering_then (ordering_then a (ordering_then s Equal)) (ordering_then m (ordering_then t Equal))) c) k ≡ ordering_then a (ordering_then s (ordering_then m (ordering_then t (ordering_then c k))))
joined Less s m t c k = refl
joined Greater s m t c k = refl
joined Equal Less m t c k = refl
joined Equal Greater m t c k = refl
joined Equal Equal Less t c k = refl
joined Equal Equal Greater t c k = refl
joined Equal Equal Equal Less c k = refl
joined Equal Equal Equal Greater c k = refl
joined Equal Equal Equal Equal c k = refl

pub returns : goal.returns
returns c =
    let s = c.args.start.now in
    let o = c.args.other.now in
    let numbers = c.then.ensures ∙ (λ i. ordering_then (c.compare_numbers-at.ensures i) (c.compare_numbers-meter_start.ensures i)) in
    let connectors = c.then-2.ensures ∙ (λ i. ordering_then (numbers i) (c.cmp.ensures i)) in
    let keys = c.cmp-2.ensures ∙ (λ i. text_cmp (c.as_str.ensures i) (c.as_str-2.ensures i)) in
    let at : SFits w64 s.at = search rules in
    let other_at : SFits w64 o.at = search rules in
    let meter : SFits w64 s.meter_start = search rules in
    let other_meter : SFits w64 o.meter_start = search rules in
    let order : ℤ → ℤ → ℤ → ℤ → Ordering = (λ x y m n. ordering_then (ordering_then (ordering_then (number_cmp x y) (number_cmp m n)) (nat_cmp s.connector o.connector)) (text_cmp s.key o.key)) in
    c.then-3.ensures ∙ (λ i. ordering_then (connectors i) (keys i))
    ∙ (λ i. order (to_z-of_z w64 s.at at i) (to_z-of_z w64 o.at other_at i) (to_z-of_z w64 s.meter_start meter i) (to_z-of_z w64 o.meter_start other_meter i))
    ∙ joined (nat_cmp (unsigned_abs s.at) (unsigned_abs o.at)) (nat_cmp (sign s.at) (sign o.at)) (nat_cmp (unsigned_abs s.meter_start) (unsigned_abs o.meter_start)) (nat_cmp (sign s.meter_start) (sign o.meter_start)) (nat_cmp s.connector o.connector) (text_cmp s.key o.key)
