-- One pass over the entries finds a key that is repeated.
use Rattle.std.specs.Prelude.{ℕ, List, [], ◌∷◌, Bool, true, false, not, ◌||◌, cond}
use Rattle.std.specs.BTreeSet.{BTreeSet, contains, Updates}
use Rattle.std.specs.Cmp.Lexicographic.{slice_cmp, texts_ties}
use Rattle.std.specs.List.{list_any}
use Rattle.std.specs.Ordering.{nat_cmp}
use Rattle.std.proofs.Common.{◌≡◌, refl, ap, sym, ◌∙◌}
use Rattle.ocpp_types.specs.TagKey.{key_of}
use Rattle.operator_cmds.specs.LocalList.{repeats_key, same_key}
use Rattle.operator_cmds.specs.declared.local_list.AuthorizationData.{AuthorizationData}

-- the set has the key of an entry
abbrev pub has_key : BTreeSet (List ℕ) → AuthorizationData → Bool
has_key s e = contains (slice_cmp nat_cmp) s (key_of e.id_tag)

-- an entry has a key of the set or of a later entry
abbrev pub repeats_after : BTreeSet (List ℕ) → List AuthorizationData → Bool
repeats_after s es = list_any (has_key s) es || repeats_key es

-- no key is in the empty set
pub none_has : (s : BTreeSet (List ℕ)) (es : List AuthorizationData) → s.keys ≡ [] → list_any (has_key s) es ≡ false
none_has s [] empty = refl
none_has s (e ∷ es) empty = cc (empty, none_has s es empty)

swap : (a b c d : Bool) → (a || b) || (c || d) ≡ (a || c) || (b || d)
swap true b c d = refl
swap false true true d = refl
swap false true false d = refl
swap false false c d = refl

or_cond : (b x : Bool) → cond b true x ≡ x || b
or_cond true true = refl
or_cond true false = refl
or_cond false true = refl
or_cond false false = refl

or_assoc : (a b c : Bool) → (a || b) || c ≡ a || (b || c)
or_assoc true b c = refl
or_assoc false b c = refl

-- the set n is s with the key of e
module _ (s n : BTreeSet (List ℕ)) (e : AuthorizationData) (added : Updates (slice_cmp nat_cmp) s n (key_of e.id_tag) true) where
  one : (f : AuthorizationData) → has_key n f ≡ has_key s f || same_key e f
  one f =
      added.0 (key_of f.id_tag)
      ∙ or_cond _ (has_key s f)
      ∙ ap (λ b. has_key s f || b) (sym (texts_ties (key_of e.id_tag) (key_of f.id_tag)))

  any_one : (es : List AuthorizationData) → list_any (has_key n) es ≡ list_any (has_key s) es || list_any (same_key e) es
  any_one [] = refl
  any_one (f ∷ fs) =
      ap (λ b. b || list_any (has_key n) fs) (one f)
      ∙ ap (λ b. (has_key s f || same_key e f) || b) (any_one fs)
      ∙ swap (has_key s f) (same_key e f) (list_any (has_key s) fs) (list_any (same_key e) fs)

  -- what holds of the entries from e on holds of those after it
  pub repeats_more : (es : List AuthorizationData) → has_key s e ≡ false → repeats_after n es ≡ repeats_after s (e ∷ es)
  repeats_more es new =
      ap (λ b. b || repeats_key es) (any_one es)
      ∙ or_assoc (list_any (has_key s) es) (list_any (same_key e) es) (repeats_key es)
      ∙ ap (λ b. (b || list_any (has_key s) es) || (list_any (same_key e) es || repeats_key es)) (sym new)

-- a key that was new was not in the set
pub was_absent : (new has : Bool) → new ≡ not has → new ≡ true → has ≡ false
was_absent new true is one = sym one ∙ is
was_absent new false is one = refl
