-- What an event of another operator is to an operator.
use Rattle.std.specs.Prelude.{◌≡◌, ◌≢◌, ◌⊎◌, ℕ, List, [], ◌∷◌, ◌++◌, Bool, true, false, Option, Some, None}
use Rattle.std.specs.List.{AllByRecursion}
use Rattle.hub_rows.specs.declared.change.Edit.{Edit}
use Rattle.hub_rows.specs.declared.change.Edit.TheVariants.{Tags}
use Rattle.hub_rows.specs.declared.use_row.UseRow.{UseRow}
use Rattle.hub_rows.specs.Rows.{Rows}
use Rattle.hub_rows.specs.Uses.{uses_settled}
use Rattle.hub_events.specs.declared.event.Event.{Event}
use Rattle.hub_events.specs.declared.event.Event.TheVariants.{At, Tick}
use Rattle.hub_events.specs.declared.out.Out.{Out}
use Rattle.hub.specs.Effects.{edit_of}
use Rattle.hub.specs.Tells.{TellsOfTag, TellsOfUse}
use Rattle.hub.specs.View.{granted_to, seen, uses_of, view}
use Rattle.hub.specs.World.{Setting, World, outputs_of, plan_at}

-- an event of another operator than a; a tick is of all operators
abbrev pub IsOfAnother : List ℕ → Event → Type 0
IsOfAnother a (At b m what) = b ≢ a
IsOfAnother a (Tick m) = ⊥

-- the edit that an event makes of its operator's records, if it makes one
abbrev pub edit_by : Setting → World → Event → Option Edit
edit_by setting w (At b m what) = edit_of (plan_at setting w b m what).effect
edit_by setting w (Tick m) = None

-- an edit that puts or drops a tag or a grant
abbrev pub is_of_tags : Edit → Bool
is_of_tags (Tags e) = true
is_of_tags e = false

abbrev pub edits_tags : Option Edit → Bool
edits_tags None = false
edits_tags (Some e) = is_of_tags e

-- the uses of operator a that an edit of operator b settles, if b makes one
abbrev pub settled_by : List ℕ → List ℕ → Option Edit → Rows → List UseRow
settled_by a b None rows = []
settled_by a b (Some e) rows = uses_settled a b e rows

-- the uses of operator a that an event of another settles: one where it stops an open transaction that began
-- Accepted with a tag that a granted, unless a's uses have the last number
abbrev pub settled_at : List ℕ → Setting → World → Event → List UseRow
settled_at a setting w (At b m what) = settled_by a b (edit_by setting w (At b m what)) w.rows
settled_at a setting w (Tick m) = []

-- a use of operator a's tag that an event of another operator adds
abbrev pub TellsOf : List ℕ → Setting → World → Event → UseRow → Type 0
TellsOf a setting w (At b m what) u = TellsOfUse a b m w.rows (edit_by setting w (At b m what)) u
TellsOf a setting w (Tick m) u = ⊥

-- an event that leads from world w to world v adds this use to those of operator a
pub record AddsUse (a : List ℕ) (setting : Setting) (w : World) (e : Event) (v : World) (u : UseRow) : Type 0 where
  pub added : uses_of a v ≡ uses_of a w ++ u ∷ []
  pub tells : TellsOf a setting w e u

-- an event with these outputs, which leads from world w to world v, leaves operator a alone: it can change
-- nothing of a's but the list of tags that are granted to a, and the uses of a's tags, which it can add to
pub record LeavesAlone (a : List ℕ) (setting : Setting) (w : World) (e : Event) (outs : List Out) (v : World) : Type 0 where
  -- no output names a
  pub told : outputs_of a outs ≡ []
  -- all others of its records, and the connections and calls of its stations, are as before
  pub kept : view a v ≡ record (view a w) { rows = record (view a w).rows { uses = uses_of a v }; granted = granted_to a v }
  -- the tags that are granted to it are others only where a tag or a grant was put or dropped
  pub granted : edits_tags (edit_by setting w e) ≡ false → granted_to a v ≡ granted_to a w
  -- its uses are those before, and after them what the event settles
  pub uses : uses_of a v ≡ uses_of a w ++ settled_at a setting w e
  -- it adds none, or one, which tells of a stop
  pub adds : (uses_of a v ≡ uses_of a w) ⊎ ((u : UseRow) × AddsUse a setting w e v u)
  -- each tag that is granted to it tells of a grant and its owner's tag
  pub tags : AllByRecursion (TellsOfTag a v.rows.tags v.rows.grants) (granted_to a v)
  -- the event changes one of the two at most
  pub either : (granted_to a v ≡ granted_to a w) ⊎ (uses_of a v ≡ uses_of a w)
  -- where both are the same, a is shown nothing
  pub shown : granted_to a v ≡ granted_to a w → uses_of a v ≡ uses_of a w → seen setting a w (e ∷ []) ≡ []
