-- What a command that a station accepts changes on record.
use Rattle.std.specs.Prelude.{ℕ, List, Bool, true, false, if◌then◌else◌, Option, None, is_some}
use Rattle.hub_rows.specs.declared.change.Edit.{Edit}
use Rattle.hub_rows.specs.Lookups.{Lookups}
use Rattle.operator_cmds.specs.declared.command.Command.{Command}
use Rattle.operator_cmds.specs.declared.command.Command.TheVariants.{CancelReservation, ReserveNow, SendLocalList}
use Rattle.holdings.specs.LocalList.{list_set}
use Rattle.holdings.specs.Reservation.{cancelled, reserved}

-- a command about what a station holds
abbrev pub is_held : Command → Bool
is_held (CancelReservation c) = true
is_held (ReserveNow c) = true
is_held (SendLocalList c) = true
is_held c = false

-- the edit of a command that the station has accepted
abbrev pub accepted_edit : List ℕ → Command → Lookups → Option Edit
accepted_edit station (CancelReservation c) l = cancelled station c
accepted_edit station (ReserveNow c) l = reserved station c
accepted_edit station (SendLocalList c) l = list_set station (l.local_list station) c
accepted_edit station c l = None

-- its edit at a station that is on record
abbrev pub edit_when_accepted : List ℕ → Command → Lookups → Option Edit
edit_when_accepted station c l = if is_some (l.registration station) then accepted_edit station c l else None
