-- Transactions that the central system has a station start and stop.
use Rattle.std.specs.Prelude.{ℕ, ℤ, List, length, codes, nat_eq, nat_le, nat_lt, Bool, true, false, ◌&&◌, ◌||◌, if◌then◌else◌, Option, Some, None, is_some, option_and_then}
use Rattle.std.specs.Ordering.{int_eq}
use Rattle.serde_json.specs.Data.{Data}
use Rattle.serde_json.specs.Find.{get, as_str, as_number, as_u64}
use Rattle.ocpp_types.specs.Text.{characters}
use Rattle.station_sim.specs.Results.{transaction_of}
use Rattle.station_sim.specs.declared.session.Session.{Session}
use Rattle.station_sim.specs.declared.stage.Stage.{Stage}
use Rattle.station_sim.specs.declared.stage.Stage.TheVariants.{Charging, Idle}

-- whether a station waits for commands, and no session runs
abbrev pub is_idle : Stage → Bool
is_idle Idle = true
is_idle stage = false

-- a tag of at most 20 characters
abbrev pub fitting : List ℕ → Option (List ℕ)
fitting tag = if nat_le (characters tag) 20 then Some tag else None

-- the member `idTag`, where that is a tag
abbrev pub ordered_tag : Data → Option (List ℕ)
ordered_tag payload = option_and_then fitting (option_and_then as_str (get (codes "idTag") payload))

abbrev pub is_number : ℕ → Option ℕ → Bool
is_number n None = false
is_number n (Some m) = nat_eq m n

-- whether a command is for that connector: it names it, or none
abbrev pub names : ℕ → Option Data → Bool
names connector None = true
names connector (Some d) = is_number connector (option_and_then as_u64 (as_number d))

-- the tag of a RemoteStartTransaction that is accepted: no session runs, the command is for the station's connector, and its tag fits
abbrev pub start_of : Session → Data → Option (List ℕ)
start_of s payload = if is_idle s.stage && names s.script.connector (get (codes "connectorId") payload) then ordered_tag payload else None

-- whether a transaction is to go on: a command began it, or readings are left
abbrev pub goes_on : Session → ℕ → Bool
goes_on s sent = is_some s.ordered || nat_lt sent (length s.script.readings.items)

-- the transaction that a command can stop: the open one of a station that stays, unless its stop is due
abbrev pub open_at : Session → Stage → Option ℤ
open_at s (Charging transaction sent) = if s.script.stays && goes_on s sent then Some transaction else None
open_at s stage = None

abbrev pub same : ℤ → ℤ → Option ℤ
same asked transaction = if int_eq transaction asked then Some transaction else None

-- the transaction of a RemoteStopTransaction that is accepted: the command names the one that can be stopped
abbrev pub stop_of : Session → Data → Option ℤ
stop_of s payload = option_and_then (λ asked. option_and_then (same asked) (open_at s s.stage)) (transaction_of payload)
