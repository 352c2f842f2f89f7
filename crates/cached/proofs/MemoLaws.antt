-- Answers that stay.
use Rattle.std.specs.Prelude.{◌≡◌, ◌≢◌, ℕ, Bool, cond, List, Some, None, Option, Result, Ok, Err, OnOk, OnErr, IfSome, Contains, option_map}
use Rattle.std.proofs.Common.{sym, ◌∙◌, ap, subst, nat_eq, inl, inr, true≢false}
use Rattle.std.specs.List.{IsDistinct}
use Rattle.std.specs.Map.{keys_of, lookup, remove_entry}
use Rattle.std.proofs.lemmas.Bool.{eqb-true, eq-eqb}
use Rattle.std.proofs.lemmas.Cmp.{nat_eq_equiv}
use Rattle.std.proofs.lemmas.Map.{lookup-remove_entry}
use Rattle.lru.specs.LruCache.{LruCache, lru_cache, promoted, put_entries}
use Rattle.lru.proofs.CallerLemmas.{Contains-lookup, Contains-put_entries, Contains-promoted, Contains-remove_entry}
use Rattle.lru.proofs.Matching.{none_found}
use Rattle.hub_rows.specs.declared.change.Edit.{Edit}
use Rattle.hub_rows.specs.Changes.{edit}
use Rattle.hub_rows.specs.Rows.{Rows}

module _ {A : Type 0} (P : ℕ × A → Type 0) where
  -- each answer has the property, with the number that it is kept under
  abbrev pub All : List (ℕ × A) → Type 0
  All entries = (e : ℕ × A) → Contains entries e → P e

  pub promote : (entries : List (ℕ × A)) (test : ℕ → Bool) → All entries → All (promoted test entries)
  promote entries test all e at = all e (Contains-promoted test entries e at)

  pub remove : (entries : List (ℕ × A)) (test : ℕ → Bool) → All entries → All (remove_entry test entries)
  remove entries test all e at = all e (Contains-remove_entry test entries e at)

module _ {A : Type 0} (number : A → ℕ) (P : A → Type 0) where
  -- each answer has the number that it is kept under, and the property
  abbrev AllUnder : List (ℕ × A) → Type 0
  AllUnder = All (λ e. (e.0 ≡ number e.1) × P e.1)

  -- one that is found has it
  found : (entries : List (ℕ × A)) (test : ℕ → Bool) (answer : A) → AllUnder entries → lookup test entries ≡ Some answer → P answer
  found entries test answer all is = let at = Contains-lookup test entries answer is in (all (at.0, answer) at.1).1

  -- the same, seen through a reference
  pub found_if : {X : Type 0} (now : X → A) (entries : List (ℕ × A)) (test : ℕ → Bool) (r : Option X) → AllUnder entries → option_map now r ≡ lookup test entries → IfSome r (λ x. P (now x))
  found_if now entries test None all is = tt
  found_if now entries test (Some x) all is = found entries test (now x) all (sym is)

  put : (c : LruCache ℕ A) (answer : A) → AllUnder c.entries → P answer → AllUnder (put_entries nat_eq c (number answer) answer)
  put c answer all here e at =
      elim (Contains-put_entries nat_eq c (number answer) answer e at) [
        | inl was ↦ all e was
        | inr is ↦ (
          elim is.1 [
            | inl new ↦ new ∙ ap number (sym is.0)
            | inr old ↦ sym (eqb-true (number answer) e.0 old.2) ∙ ap number (sym is.0)
          ],
          subst P (sym is.0) here,
        )
      ]

  -- one more, where there was memory for it, and else nothing changed
  pub kept : {X E : Type 0} (old new : LruCache ℕ A) (digest : ℕ) (answer : A) (r : Result X E) → digest ≡ number answer → OnOk r (new ≡ lru_cache (put_entries nat_eq old digest answer) old.cap) → OnErr r (new ≡ old) → AllUnder old.entries → P answer → AllUnder new.entries
  kept old new digest answer (Ok x) is ok err all here = subst (λ c. AllUnder c.entries) (sym (ok ∙ ap (λ d. lru_cache (put_entries nat_eq old d answer) old.cap) is)) (put old answer all here)
  kept old new digest answer (Err y) is ok err all here = subst (λ c. AllUnder c.entries) (sym err) all

-- an entry is removed, and none of its number stays
pub removed : {A : Type 0} (entries : List (ℕ × A)) (digest : ℕ) → IsDistinct nat_eq (keys_of entries) → All (λ e. e.0 ≢ digest) (remove_entry (nat_eq digest) entries)
removed entries digest distinct e at same =
    let none : lookup (nat_eq digest) (remove_entry (nat_eq digest) entries) ≡ None =
    lookup-remove_entry nat_eq_equiv (nat_eq digest) (λ x y is. ap (λ n. nat_eq n y) (eqb-true digest x is)) digest entries distinct
    ∙ ap (λ b. cond b None (lookup (nat_eq digest) entries)) (nat_eq_equiv.refl digest) in
    true≢false (sym (eq-eqb digest e.0 (sym same)) ∙ none_found (nat_eq digest) (remove_entry (nat_eq digest) entries) none e at)

-- answers that are right before a change and after it are right by the rows that a store is left with
pub applied : {A X E : Type 0} (is_right : Rows → ℕ × A → Type 0) (rows after : Rows) (b : List ℕ) (e : Edit) (entries : List (ℕ × A)) (r : Result X E) → All (is_right rows) entries → All (is_right (edit b e rows)) entries → OnOk r (after ≡ edit b e rows) → OnErr r (after ≡ rows) → All (is_right after) entries
applied is_right rows after b e entries (Ok x) before changed ok err = subst (λ rs. All (is_right rs) entries) (sym ok) changed
applied is_right rows after b e entries (Err y) before changed ok err = subst (λ rs. All (is_right rs) entries) (sym err) before
