-- A start that names no reservation ends none.
use Rattle.std.specs.Prelude.{◌≡◌, ℕ, List, [], ◌∷◌, true, false, cond, ◌&&◌, not, None}
use Rattle.std.proofs.Common.{refl, ap}
use Rattle.std.specs.Str.{bytes_eq}
use Rattle.hub_rows.specs.declared.reservation_row.ReservationRow.{ReservationRow}
use Rattle.hub_rows.specs.Reservations.{without_named}

pub none_named : (b st : List ℕ) (rows : List ReservationRow) → without_named b st None rows ≡ rows
none_named b st [] = refl
none_named b st (r ∷ rows) =
    elim (bytes_eq r.op b) as (λ t. cond (not (t && false)) (r ∷ without_named b st None rows) (without_named b st None rows) ≡ r ∷ rows) [
      | true ↦ ap (λ rs. r ∷ rs) (none_named b st rows)
      | false ↦ ap (λ rs. r ∷ rs) (none_named b st rows)
    ]
