-- JSON without floats.
use Rattle.std.specs.Prelude.{◌≡◌, refl, ℕ, ℤ, pos, negsuc, List, Bool, true, false, ◌||◌}
use Rattle.std.specs.Ordering.{match_ordering, nat_cmp}
use Rattle.std.specs.Cmp.Lexicographic.{slice_cmp}
use Rattle.std.specs.declared.cmp.Ordering.TheVariants.{Less, Equal, Greater}
use Rattle.std.proofs.Common.{◌∙◌, ap}
use Rattle.serde_json.specs.Data.{Data, Members, no_members, member, put}
use Rattle.serde_json.specs.Find.{of_integer, is_float}
use Rattle.serde_json.specs.Written.{has_float, members_have_float}

-- an integer is no float
pub integer_plain : (z : ℤ) → is_float (of_integer z) ≡ false
integer_plain (pos n) = refl
integer_plain (negsuc n) = refl

pub or_false : {p q : Bool} → p ≡ false → q ≡ false → p || q ≡ false
or_false {p} {q} e f = ap (λ b. b || q) e ∙ f

pub or_parts : (p q : Bool) → p || q ≡ false → (p ≡ false) × (q ≡ false)
or_parts true q e = absurd (cc)
or_parts false q e = (refl, e)

-- an object stays without floats as a member is put to it
pub put_plain : (k : List ℕ) (d : Data) (ms : Members) → has_float d ≡ false → members_have_float ms ≡ false → members_have_float (put k d ms) ≡ false
put_plain k d no_members plain none = or_false plain refl
put_plain k d (member l e ms) plain none =
    let parts : (has_float e ≡ false) × (members_have_float ms ≡ false) = or_parts (has_float e) (members_have_float ms) none in
    elim (slice_cmp nat_cmp k l) as (λ o. members_have_float (match_ordering o (member k d (member l e ms)) (member l d ms) (member l e (put k d ms))) ≡ false) [
      | Less ↦ or_false plain none
      | Equal ↦ or_false plain parts.1
      | Greater ↦ or_false parts.0 (put_plain k d ms plain parts.1)
    ]
