-- What a session keeps.
use Rattle.std.proofs.Common.{◌≡◌, ◌≤◌, ◌<◌, ◌+◌, ℕ, ℤ, pos, negsuc, List, Result, Ok, Err, Option, Some, None, Bool, true, false, codes, length, refl, sym, subst, ap, arith, true≢false}
use Rattle.std.specs.Prelude.{◌+ℤ◌, min, IsNone, IfSome, nat_lt, nat_le, bytes_eq, OnOk, OnErr, option_and_then, unwrap_or, ◌&&◌, if◌then◌else◌}
use Rattle.std.specs.Ordering.{int_eq}
use Rattle.std.specs.Int.{w64, saturate_signed}
use Rattle.std.proofs.lemmas.Bool.{leb-false, le-leb}
use Rattle.std.proofs.Math.Nat.{min-le_right}
use Rattle.ocpp_types.specs.Text.{characters}
use Rattle.serde_json.specs.Data.{Data}
use Rattle.serde_json.specs.Find.{get, as_number, as_integer, as_str}
use Rattle.ocpp_frame.specs.declared.frame.Frame.{Frame}
use Rattle.ocpp_frame.specs.declared.frame.Frame.TheVariants.{Call, CallResult, CallError, Broken, Ignored}
use Rattle.ocpp_payload.specs.declared.action.Action.{Action}
use Rattle.station_sim.specs.Bounds.{bad_field, is_name, is_connector, is_int_64}
use Rattle.station_sim.specs.Remote.{start_of, stop_of, ordered_tag, fitting, names, is_idle, open_at, goes_on, same}
use Rattle.station_sim.specs.Replies.{version_of}
use Rattle.station_sim.specs.Results.{after_result, after_error, after_start, next_session, rest_of, interval_after, is_accepted, status_of, tag_status_of, transaction_of, is_int_32, within_32}
use Rattle.station_sim.specs.Kept.{IsSession, has_number}
use Rattle.station_sim.specs.Session.{call_by, wanted_call, due_call, is_spent, ends_session, metered, after_call, after_message, after_command, answered, moved, begun, stopped, is_id}
use Rattle.station_sim.specs.declared.script.BadScript.TheVariants.{Vendor, Model, Tag, Connector, Readings}
use Rattle.station_sim.specs.declared.script.Script.{Script}
use Rattle.station_sim.specs.declared.session.Session.{Session}
use Rattle.station_sim.specs.declared.stage.Stage.{Stage}
use Rattle.station_sim.specs.declared.stage.Stage.TheVariants.{Boot, Status, Authorize, Start, Charging, Stopping, Refused, Idle, Ended}

-- one more call may be made
pub may_call : (s : Session) → is_spent s ≡ false → s.calls + 1 ≤ 4000000000
may_call s more = let below : s.calls < 4000000000 = leb-false 4000000000 s.calls more in omega (arith, below)

-- ---- bounds

-- what a script within its bounds says
pub record Bounded (script : Script) : Type 0 where
  pub vendor : is_name script.vendor ≡ true
  pub model : is_name script.model ≡ true
  pub tag : nat_le (characters script.tag) 20 ≡ true
  pub connector : is_connector script.connector ≡ true
  pub readings : nat_le (length script.readings.items) 1000 ≡ true

passed : {X : Type 0} (b : Bool) (rest : Option X) (x : X) → IsNone (if b then rest else Some x) → (b ≡ true) × IsNone rest
passed true rest x none = (refl, none)
passed false rest x none = absurd (true≢false none)

pub bounded : (script : Script) → IsNone (bad_field script) → Bounded script
bounded script none =
    let vendor = passed (is_name script.vendor) _ Vendor none in
    let model = passed (is_name script.model) _ Model vendor.1 in
    let tag = passed (nat_le (characters script.tag) 20) _ Tag model.1 in
    let connector = passed (is_connector script.connector) _ Connector tag.1 in
    let readings = passed (nat_le (length script.readings.items) 1000) None Readings connector.1 in
    record { vendor = vendor.0; model = model.0; tag = tag.0; connector = connector.0; readings = readings.0 }

-- ---- the meter

pub saturated : (z : ℤ) → is_int_64 (saturate_signed w64 z) ≡ true
saturated (pos n) = le-leb (min n 9223372036854775807) 9223372036854775807 (min-le_right n 9223372036854775807)
saturated (negsuc n) = ap (λ b. b && true) (le-leb (min n 9223372036854775807) 9223372036854775807 (min-le_right n 9223372036854775807))

bounds_metered : (ends : Bool) (script : Script) → IsNone (bad_field script) → IsNone (bad_field (metered ends script))
bounds_metered true script none = none
bounds_metered false script none = none

meter_metered : (ends : Bool) (script : Script) → is_int_64 script.meter_start ≡ true → is_int_64 (metered ends script).meter_start ≡ true
meter_metered true script meter = saturated (script.meter_start +ℤ script.energy)
meter_metered false script meter = meter

-- ---- a call

keeps_due : (s : Session) (at : ℕ) (call : Option (Action × Data)) → IsSession s → IfSome call (λ _. s.calls + 1 ≤ 4000000000) → IsSession (after_call s at call)
keeps_due s at None good may = good
keeps_due s at (Some call) good may = record {
  bounds = bounds_metered (ends_session call.0) s.script good.bounds;
  start_meter = meter_metered (ends_session call.0) s.script good.start_meter;
  number = good.number;
  tag = good.tag;
  few = may;
}

if_some : {X : Type 0} {P : Type 0} (o : Option X) → P → IfSome o (λ _. P)
if_some None p = tt
if_some (Some x) p = p

may_unless : (s : Session) (at : ℕ) (b : Bool) → is_spent s ≡ b → IfSome (if b then None else call_by s.in_flight (wanted_call s at)) (λ _. s.calls + 1 ≤ 4000000000)
may_unless s at true e = tt
may_unless s at false e = if_some (call_by s.in_flight (wanted_call s at)) (may_call s e)

pub keeps_call : (s : Session) (at : ℕ) → IsSession s → IsSession (after_call s at (due_call s at))
keeps_call s at good = keeps_due s at (due_call s at) good (may_unless s at (is_spent s) refl)

-- ---- an answer

either : (b : Bool) (x y : Stage) → has_number x ≡ true → has_number y ≡ true → has_number (if b then x else y) ≡ true
either true x y one other = one
either false x y one other = other

next : (script : Script) (left : ℕ) → has_number (next_session script left) ≡ true
next script left = either (nat_lt 0 left) Authorize (rest_of script) refl (either script.stays Idle Ended refl refl)

starts : (script : Script) (left : ℕ) (status : Option (List ℕ)) (transaction : Option ℤ) → IfSome transaction (λ z. is_int_32 z ≡ true) → has_number (after_start script left status transaction) ≡ true
starts script left (Some status) (Some transaction) fits = either (is_accepted (Some status)) (Charging transaction 0) (Refused transaction) fits fits
starts script left (Some status) None fits = next script left
starts script left None transaction fits = next script left

fits_if : (b : Bool) (z : ℤ) → is_int_32 z ≡ b → IfSome (if b then Some z else None) (λ z. is_int_32 z ≡ true)
fits_if true z e = e
fits_if false z e = tt

fits : (o : Option ℤ) → IfSome (option_and_then within_32 o) (λ z. is_int_32 z ≡ true)
fits None = tt
fits (Some z) = fits_if (is_int_32 z) z refl

transaction_fits : (payload : Data) → IfSome (transaction_of payload) (λ z. is_int_32 z ≡ true)
transaction_fits payload = fits (option_and_then as_integer (option_and_then as_number (get (codes "transactionId") payload)))

follows : (script : Script) (left : ℕ) (stage : Stage) (payload : Data) → has_number stage ≡ true → has_number (after_result script left stage payload) ≡ true
follows script left Boot payload number = either (is_accepted (status_of payload)) Status Ended refl refl
follows script left Status payload number = next script left
follows script left Authorize payload number = either (is_accepted (tag_status_of payload)) Start (next_session script left) refl (next script left)
follows script left Start payload number = starts script left (tag_status_of payload) (transaction_of payload) (transaction_fits payload)
follows script left (Charging transaction n) payload number = either (nat_lt n (length script.readings.items)) (Charging transaction (n + 1)) (next_session script left) number (next script left)
follows script left (Stopping transaction) payload number = next script left
follows script left (Refused transaction) payload number = next script left
follows script left Idle payload number = refl
follows script left Ended payload number = refl

fails : (script : Script) (left : ℕ) (stage : Stage) → has_number (after_error script left stage) ≡ true
fails script left Boot = refl
fails script left Status = refl
fails script left Authorize = next script left
fails script left Start = next script left
fails script left (Charging transaction n) = next script left
fails script left (Stopping transaction) = next script left
fails script left (Refused transaction) = next script left
fails script left Idle = refl
fails script left Ended = refl

keeps_moved : (s : Session) (stage : Stage) (interval : ℕ) (b : Bool) → IsSession s → has_number stage ≡ true → IsSession (record (if b then moved stage interval s else s) { in_flight = None })
keeps_moved s stage interval true good number = record { bounds = good.bounds; start_meter = good.start_meter; number = number; tag = good.tag; few = good.few }
keeps_moved s stage interval false good number = record { bounds = good.bounds; start_meter = good.start_meter; number = good.number; tag = good.tag; few = good.few }

keeps_if : (s : Session) (stage : Stage) (interval : ℕ) (b : Bool) → IsSession s → has_number stage ≡ true → IsSession (if b then answered stage interval s else s)
keeps_if s stage interval true good number = keeps_moved s stage interval s.moves good number
keeps_if s stage interval false good number = good

-- ---- a command

tag_if : (b : Bool) (tag : List ℕ) → nat_le (characters tag) 20 ≡ b → IfSome (if b then Some tag else None) (λ tag. nat_le (characters tag) 20 ≡ true)
tag_if true tag e = e
tag_if false tag e = tt

tag_fits : (o : Option (List ℕ)) → IfSome (option_and_then fitting o) (λ tag. nat_le (characters tag) 20 ≡ true)
tag_fits None = tt
tag_fits (Some tag) = tag_if (nat_le (characters tag) 20) tag refl

start_fits : (b : Bool) (payload : Data) → IfSome (if b then ordered_tag payload else None) (λ tag. nat_le (characters tag) 20 ≡ true)
start_fits true payload = tag_fits (option_and_then as_str (get (codes "idTag") payload))
start_fits false payload = tt

keeps_begun : (s : Session) (o : Option (List ℕ)) → IsSession s → IfSome o (λ tag. nat_le (characters tag) 20 ≡ true) → IsSession (begun o s)
keeps_begun s None good tag = good
keeps_begun s (Some t) good tag = record { bounds = good.bounds; start_meter = good.start_meter; number = refl; tag = tag; few = good.few }

same_if : (b : Bool) (z : ℤ) → is_int_32 z ≡ true → IfSome (if b then Some z else None) (λ z. is_int_32 z ≡ true)
same_if true z e = e
same_if false z e = tt

same_fits : (asked : ℤ) (o : Option ℤ) → IfSome o (λ z. is_int_32 z ≡ true) → IfSome (option_and_then (same asked) o) (λ z. is_int_32 z ≡ true)
same_fits asked None e = tt
same_fits asked (Some z) e = same_if (int_eq z asked) z e

open_fits : (s : Session) (stage : Stage) → has_number stage ≡ true → IfSome (open_at s stage) (λ z. is_int_32 z ≡ true)
open_fits s Boot number = tt
open_fits s Status number = tt
open_fits s Authorize number = tt
open_fits s Start number = tt
open_fits s (Charging transaction sent) number = same_if (s.script.stays && goes_on s sent) transaction number
open_fits s (Stopping transaction) number = tt
open_fits s (Refused transaction) number = tt
open_fits s Idle number = tt
open_fits s Ended number = tt

stop_fits : (s : Session) (o : Option ℤ) → has_number s.stage ≡ true → IfSome (option_and_then (λ asked. option_and_then (same asked) (open_at s s.stage)) o) (λ z. is_int_32 z ≡ true)
stop_fits s None number = tt
stop_fits s (Some asked) number = same_fits asked (open_at s s.stage) (open_fits s s.stage number)

keeps_stopped : (s : Session) (o : Option ℤ) → IsSession s → IfSome o (λ z. is_int_32 z ≡ true) → IsSession (stopped o s)
keeps_stopped s None good fits = good
keeps_stopped s (Some z) good fits = record { bounds = good.bounds; start_meter = good.start_meter; number = fits; tag = good.tag; few = good.few }

one_of : (b : Bool) (x y : Session) → IsSession x → IsSession y → IsSession (if b then x else y)
one_of true x y one other = one
one_of false x y one other = other

keeps_command : (s : Session) (action : List ℕ) (payload : Data) → IsSession s → IsSession (after_command action payload s)
keeps_command s action payload good =
    one_of (bytes_eq action (codes "SendLocalList")) (record s { version = unwrap_or (version_of payload) s.version }) _
    (record { bounds = good.bounds; start_meter = good.start_meter; number = good.number; tag = good.tag; few = good.few })
    (one_of (bytes_eq action (codes "RemoteStartTransaction")) (begun (start_of s payload) s) _
    (keeps_begun s (start_of s payload) good (start_fits (is_idle s.stage && names s.script.connector (get (codes "connectorId") payload)) payload))
    (one_of (bytes_eq action (codes "RemoteStopTransaction")) (stopped (stop_of s payload) s) s
    (keeps_stopped s (stop_of s payload) good (stop_fits s (transaction_of payload) good.number))
    good))

-- ---- a message

pub keeps_message : (f : Frame) (s : Session) → IsSession s → IsSession (after_message f s)
keeps_message (Call id action payload) s good = keeps_command s action payload good
keeps_message (CallResult id payload) s good =
    keeps_if s (after_result s.script s.left s.stage payload) (interval_after s.stage payload s.interval) (is_id id s.in_flight) good (follows s.script s.left s.stage payload good.number)
keeps_message (CallError id code description) s good =
    keeps_if s (after_error s.script s.left s.stage) s.interval (is_id id s.in_flight) good (fails s.script s.left s.stage)
keeps_message (Broken id) s good = good
keeps_message Ignored s good = good

-- after a step, whatever it gave
pub after_either : {X E : Type 0} (old new : Session) (at : ℕ) (r : Result X E) → IsSession old → OnOk r (new ≡ after_call old at (due_call old at)) → OnErr r (new ≡ old) → IsSession new
after_either old new at (Ok x) good ok err = subst IsSession (sym ok) (keeps_call old at good)
after_either old new at (Err e) good ok err = subst IsSession (sym err) good

-- after a message, whatever it gave
pub heard : {X E : Type 0} (old new : Session) (f : Frame) (r : Result X E) → IsSession old → OnOk r (new ≡ after_message f old) → OnErr r (new ≡ old) → IsSession new
heard old new f (Ok x) good ok err = subst IsSession (sym ok) (keeps_message f old good)
heard old new f (Err e) good ok err = subst IsSession (sym err) good
