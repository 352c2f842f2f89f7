-- Texts that are equal leave the order to what comes after them, and others decide it.
use Rattle.std.proofs.Common.{◌≡◌, ℕ, List, Ordering, Less, Equal, Greater, true, false, refl, ◌∙◌}
use Rattle.std.specs.Ordering.{ordering_then, is_eq}
use Rattle.std.specs.Str.{bytes_eq}
use Rattle.std.proofs.lemmas.Map.Text.{is_eq-slice_cmp}
use Rattle.hub_rows.specs.Keyed.{text_cmp}

after_equal : (o rest : Ordering) → is_eq o ≡ true → rest ≡ ordering_then o rest
after_equal Less rest e = absurd (cc)
after_equal Equal rest e = refl
after_equal Greater rest e = absurd (cc)

decided : (o rest : Ordering) → is_eq o ≡ false → o ≡ ordering_then o rest
decided Less rest e = refl
decided Equal rest e = absurd (cc)
decided Greater rest e = refl

pub same_text : (x y : List ℕ) (rest : Ordering) → bytes_eq x y ≡ true → rest ≡ ordering_then (text_cmp x y) rest
same_text x y rest e = after_equal (text_cmp x y) rest (is_eq-slice_cmp x y ∙ e)

pub other_text : (x y : List ℕ) (rest : Ordering) → bytes_eq x y ≡ false → text_cmp x y ≡ ordering_then (text_cmp x y) rest
other_text x y rest e = decided (text_cmp x y) rest (is_eq-slice_cmp x y ∙ e)
