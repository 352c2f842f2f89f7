-- How reservations are refused, and what the answers to them change.
use Rattle.std.specs.Prelude.{ℕ, nat_le, nat_lt, ℤ, pos, negsuc, int_le, List, codes, Bool, false, ◌&&◌, if◌then◌else◌, Option, Some, None, option_map, option_and_then}
use Rattle.ocpp_types.specs.declared.refusal.Refusal.{Refusal}
use Rattle.ocpp_types.specs.declared.refusal.Refusal.TheVariants.{BadField, NoSuchReservation}
use Rattle.hub_rows.specs.declared.change.Edit.{Edit}
use Rattle.hub_rows.specs.declared.change.Edit.TheVariants.{Holdings}
use Rattle.hub_rows.specs.declared.change.HoldingEdit.TheVariants.{ReservationPut, ReservationDropped}
use Rattle.hub_rows.specs.declared.reservation_row.Reservation.{Reservation}
use Rattle.hub_rows.specs.Lookups.{Lookups}
use Rattle.hub_rows.specs.Reservations.{shifted}
use Rattle.id_tags.specs.Refusal.{refuse_rule}
use Rattle.operator_cmds.specs.declared.reservations.CancelReservation.{CancelReservation}
use Rattle.operator_cmds.specs.declared.reservations.ReserveNow.{ReserveNow}

-- ---- numbers

-- a connector, 0 to 255
abbrev pub connector_of : ℤ → Option ℕ
connector_of (pos n) = if nat_le n 255 then Some n else None
connector_of (negsuc n) = None

-- an id, signed and of 32 bits
abbrev pub reservation_id : ℤ → Option ℕ
reservation_id id = if int_le (negsuc 2147483647) id && int_le id (pos 2147483647) then Some (shifted id) else None

-- ---- refusals

-- a reservation counts before its expiry
abbrev pub is_current : ℕ → ℕ → Bool
is_current m expiry = nat_lt m expiry

-- whether there is one, and it counts
abbrev pub has_current : ℕ → Option ℕ → Bool
has_current m None = false
has_current m (Some expiry) = is_current m expiry

-- it expires after the moment, and its tag is accepted
abbrev pub reserve_rule : ReserveNow → ℕ → Lookups → Option Refusal
reserve_rule c m l = if nat_le c.expiry_date m then Some (BadField (codes "expiryDate")) else refuse_rule m c.id_tag l

-- the reservation of that id counts
abbrev pub cancel_rule : List ℕ → CancelReservation → ℕ → Lookups → Option Refusal
cancel_rule station c m l = if has_current m (option_and_then (l.reserved_until station) (reservation_id c.reservation_id)) then None else Some NoSuchReservation

-- ---- what an accepted command edits

abbrev pub reservation_of : ReserveNow → ℕ → Reservation
reservation_of c connector = record { connector = connector; tag = c.id_tag; parent = c.parent_id_tag; expiry = c.expiry_date }

-- the reservation at its id; a command out of its ranges edits nothing
abbrev pub put_at : List ℕ → ReserveNow → ℕ → Option ℕ → Option Edit
put_at station c connector id = option_map (λ id. Holdings (ReservationPut station id (reservation_of c connector))) id

abbrev pub reserved : List ℕ → ReserveNow → Option Edit
reserved station c = option_and_then (λ connector. put_at station c connector (reservation_id c.reservation_id)) (connector_of c.connector_id)

abbrev pub cancelled : List ℕ → CancelReservation → Option Edit
cancelled station c = option_map (λ id. Holdings (ReservationDropped station id)) (reservation_id c.reservation_id)
