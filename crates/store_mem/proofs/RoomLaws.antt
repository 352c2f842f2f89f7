-- Which group there is room in.
use Rattle.std.specs.Prelude.{◌≡◌, ℕ, ◌+◌, ◌<◌, List, [], ◌∷◌, ◌++◌, take, drop, Bool, false, cond, find, Some, vec_len, vec_capacity}
use Rattle.std.specs.Ordering.{is_eq}
use Rattle.std.specs.Str.{bytes_eq}
use Rattle.std.specs.declared.cmp.Ordering.TheVariants.{Less}
use Rattle.std.proofs.Common.{sym, ◌∙◌, ap, subst}
use Rattle.std.proofs.Math.ListN.{set}
use Rattle.hub_rows.specs.Keyed.{key_cmp}
use Rattle.hub_rows.specs.Places.{AllBelow, IsFoundAt, IsGapAt}
use Rattle.hub_rows.proofs.ListLaws.{all-weaker, set_here, text_itself}
use Rattle.hub_rows.proofs.PlaceLaws.{find-passed, find-found, find-gap}
use Rattle.store_mem.specs.declared.groups.Group.{Group}
use Rattle.store_mem.specs.Groups.{name_key, IsRoomIn, HasRoom}
use Rattle.store_mem.proofs.GroupLaws.{one_name}

module _ {R : Type 0} (b : List ℕ) where
  abbrev named : Group R → Bool
  named g = bytes_eq g.name b

  -- a group is found behind those of lower names
  found-here : (front back : List (Group R)) (g : Group R) → AllBelow name_key (b ∷ []) front → g.name ≡ b → find named (front ++ g ∷ back) ≡ Some g
  found-here front back g below its_name =
      find-passed named front (g ∷ back) (all-weaker (λ h. key_cmp (name_key h) (b ∷ []) ≡ Less) (λ h. named h ≡ false) (λ h e. one_name h.name b ∙ ap is_eq e) front below)
      ∙ ap (λ t. cond t (Some g) (find named back)) (text_itself g.name b its_name)

  pub room-inserted : (gs : List (Group R)) (i : ℕ) (g : Group R) → IsGapAt name_key (b ∷ []) gs i → g.name ≡ b → vec_len g.rows < vec_capacity g.rows → HasRoom b (take i gs ++ g ∷ drop i gs)
  room-inserted gs i g gap its_name room = subst IsRoomIn (sym (found-here (take i gs) (drop i gs) g gap.before its_name)) room

  pub room-set : (gs : List (Group R)) (i : ℕ) (at : IsFoundAt name_key (b ∷ []) gs i) (g : Group R) → g.name ≡ b → vec_len g.rows < vec_capacity g.rows → HasRoom b (set gs i g)
  room-set gs i at g its_name room = subst (HasRoom b) (sym (set_here gs i g at.in_range)) (subst IsRoomIn (sym (found-here (take i gs) (drop (i + 1) gs) g at.before its_name)) room)

  pub room-found : (gs : List (Group R)) (i : ℕ) (at : IsFoundAt name_key (b ∷ []) gs i) → HasRoom b gs → vec_len at.row.rows < vec_capacity at.row.rows
  room-found gs i at room = subst IsRoomIn (find-found name_key (b ∷ []) named (λ g. one_name g.name b) gs i at) room

  pub no_room-gap : (gs : List (Group R)) (i : ℕ) → IsGapAt name_key (b ∷ []) gs i → HasRoom b gs → ⊥
  no_room-gap gs i gap room = subst IsRoomIn (find-gap name_key (b ∷ []) named (λ g. one_name g.name b) gs i gap) room
