-- Answers that are kept.
use Rattle.std.specs.Prelude.{◌≡◌, ◌≢◌, ℕ, List, Contains}
use Rattle.hub_rows.specs.declared.change.Edit.{Edit}
use Rattle.hub_rows.specs.Changes.{edit}
use Rattle.hub_rows.specs.Rows.{Rows}
use Rattle.cached.specs.declared.memo.Memo.{Memo}

-- how many answers of a kind a cache may keep at most
abbrev pub most_answers : ℕ
most_answers = 65536

module _ {A : Type 0} where
  -- each answer that is kept has the property, with the number that it is kept under
  abbrev pub Keeps : (ℕ × A → Type 0) → Memo A → Type 0
  Keeps P memo = (e : ℕ × A) → Contains memo.answers.entries e → P e

  -- the answer has the number that it is kept under, and is what the rows give
  abbrev pub IsRightUnder : (A → ℕ) → (Rows → A → Type 0) → Rows → ℕ × A → Type 0
  IsRightUnder digest is_right rows e = (e.0 ≡ digest e.1) × is_right rows e.1

  -- each answer that is kept is so
  abbrev pub AreRight : (A → ℕ) → (Rows → A → Type 0) → Rows → Memo A → Type 0
  AreRight digest is_right rows = Keeps (IsRightUnder digest is_right rows)

  -- no answer is kept under that number
  abbrev pub HasNone : ℕ → Memo A → Type 0
  HasNone digest = Keeps (λ e. e.0 ≢ digest)

  -- each answer that is kept and right stays right as operator b makes the edit
  abbrev pub AreUnchanged : (Rows → A → Type 0) → List ℕ → Edit → Memo A → Type 0
  AreUnchanged is_right b e = Keeps (λ x. (rows : Rows) → is_right rows x.1 → is_right (edit b e rows) x.1)
