-- Rows that are taken out of one group after the other.
use Rattle.std.specs.Prelude.{◌≡◌, ℕ, zero, suc, ◌+◌, ◌<◌, List, [], ◌∷◌, ◌++◌, length, take, Bool, true, false, not, cond, filter, Ok}
use Rattle.std.specs.List.{AllByRecursion}
use Rattle.std.proofs.Common.{get_or, refl, sym, ◌∙◌, ap, subst, arith, add-one}
use Rattle.std.proofs.Math.ListN.{set}
use Rattle.std.proofs.Math.Seq.{take-length}
use Rattle.std.proofs.lemmas.Cmp.{tied_itself}
use Rattle.hub_rows.specs.Keyed.{key_cmp, without}
use Rattle.hub_rows.specs.Places.{IsFoundAt}
use Rattle.hub_rows.proofs.ListLaws.{keys_total}
use Rattle.hub_rows.proofs.PlaceLaws.{placed}
use Rattle.store_mem.specs.declared.groups.Group.{Group}
use Rattle.store_mem.specs.Groups.{name_key, all_of, AreGroups}
use Rattle.store_mem.proofs.GroupLaws.{all_of-append, parts-found, set-without, without-mine}
use Rattle.hub_rows.proofs.FilterLaws.{all-append, filter-all}

pub all-passed : {R : Type 0} (t : R → Bool) (xs : List R) → AllByRecursion (λ r. t r ≡ true) (filter t xs)
all-passed t [] = tt
all-passed t (x ∷ xs) =
    elim (t x) as (λ b. t x ≡ b → AllByRecursion (λ r. t r ≡ true) (cond b (x ∷ filter t xs) (filter t xs))) [
      | true ↦ λ e. (e, all-passed t xs)
      | false ↦ λ e. all-passed t xs
    ] refl

get_or-any : {X : Type 0} (xs : List X) (i : ℕ) (d e : X) → i < length xs → get_or xs i d ≡ get_or xs i e
get_or-any [] i d e within = absurd (omega (arith, within))
get_or-any (x ∷ xs) zero d e within = refl
get_or-any (x ∷ xs) (suc i) d e within = get_or-any xs i d e (omega (arith, within))

take-set : {X : Type 0} (xs : List X) (i : ℕ) (y : X) → i < length xs → take (suc i) (set xs i y) ≡ take i xs ++ y ∷ []
take-set [] i y within = absurd (omega (arith, within))
take-set (x ∷ xs) zero y within = refl
take-set (x ∷ xs) (suc i) y within = ap (λ ys. x ∷ ys) (take-set xs i y (omega (arith, within)))

module _ {R : Type 0} (key : R → List (List ℕ)) (group : R → List ℕ) (rest : R → List (List ℕ)) (splits : (r : R) → key r ≡ group r ∷ rest r) (test : R → Bool) where
  abbrev stays : R → Bool
  stays r = not (test r)

  -- the first groups have only rows that stay, and all groups together lost no such row
  pub record AreDropped (old gs : List (Group R)) (i : ℕ) : Type 0 where
    pub good : AreGroups key group gs
    pub kept : filter stays (all_of gs) ≡ filter stays (all_of old)
    pub done : AllByRecursion (λ r. stays r ≡ true) (all_of (take i gs))

  stays-without : (b : List ℕ) (xs : List R) → filter stays (without group b test xs) ≡ filter stays xs
  stays-without b [] = refl
  stays-without b (x ∷ xs) = grind (arith, stays-without b xs)

  pub next-dropped : (old gs : List (Group R)) (i : ℕ) (b : List ℕ) (g : Group R) → AreDropped old gs i → (at : IsFoundAt name_key (b ∷ []) gs i) → g.name ≡ at.row.name → g.rows.items ≡ without group b test at.row.rows.items → AreDropped old (set gs i g) (suc i)
  next-dropped old gs i b g so_far at same_name are =
      let changed = set-without key group rest splits b gs i so_far.good at g same_name test are in
      let mine = (parts-found key group rest splits b gs i so_far.good at).of_group.mine in
      record {
        good = changed.0;
        kept = ap (filter stays) changed.1 ∙ stays-without b (all_of gs) ∙ so_far.kept;
        done = subst (λ hs. AllByRecursion (λ r. stays r ≡ true) (all_of hs)) (sym (take-set gs i g at.in_range))
            (subst (AllByRecursion (λ r. stays r ≡ true)) (sym (all_of-append (take i gs) (g ∷ [])))
            (all-append (λ r. stays r ≡ true) (all_of (take i gs)) (all_of (g ∷ [])) so_far.done
            (all-append (λ r. stays r ≡ true) g.rows.items [] (subst (AllByRecursion (λ r. stays r ≡ true)) (sym (are ∙ without-mine key group rest splits b test at.row.rows.items mine)) (all-passed stays at.row.rows.items)) tt)));
      }

  -- the same by the group that is read at the index
  pub next-item : (old gs : List (Group R)) (i : ℕ) (d g : Group R) → AreDropped old gs i → i < length gs → g.name ≡ (get_or gs i d).name → g.rows.items ≡ without group (get_or gs i d).name test (get_or gs i d).rows.items → AreDropped old (set gs i g) (i + 1)
  next-item old gs i d g so_far within same_name are =
      let b : List ℕ = (get_or gs i d).name in
      let at = placed name_key (b ∷ []) gs (Ok i) so_far.good.sorted within (λ e. ap (λ h. key_cmp (name_key h) (b ∷ [])) (get_or-any gs i e d within) ∙ tied_itself keys_total (b ∷ [])) in
      rw add-one (next-dropped old gs i b g so_far at (same_name ∙ ap (λ h. h.name) (at.here d)) (are ∙ ap (λ h. without group b test h.rows.items) (at.here d)))

  pub all-dropped : (old gs : List (Group R)) → AreDropped old gs (length gs) → all_of gs ≡ filter stays (all_of old)
  all-dropped old gs so_far = sym (filter-all stays (all_of gs) (subst (λ hs. AllByRecursion (λ r. stays r ≡ true) (all_of hs)) (take-length gs) so_far.done)) ∙ so_far.kept
