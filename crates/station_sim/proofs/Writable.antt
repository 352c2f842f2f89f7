-- The payloads that the station writes are written as compact text and read again.
use Rattle.std.proofs.Common.{◌≡◌, ℕ, ℤ, List, Option, Some, None, Bool, true, false, ◌||◌, ap, refl, sym, subst, arith, codes}
use Rattle.std.specs.Prelude.{◌-◌, slice_get, option_and_then, unwrap_or, is_some, nat_le, not, ◌&&◌, if◌then◌else◌}
use Rattle.std.specs.Option.{option_or}
use Rattle.serde_json.specs.Data.{Data, string, object, Items, no_items, item, no_members, member, items_depth, depth}
use Rattle.serde_json.specs.Find.{as_str, as_array, get}
use Rattle.serde_json.specs.Written.{has_float, items_have_float}
use Rattle.ocpp_payload.specs.Plain.{integer_plain}
use Rattle.station_sim.specs.Calls.{meter_after, call_of, charging_call, last_call, tag_of, heartbeat, start_payload, reading_payload, stop_payload, refused_payload}
use Rattle.station_sim.specs.Remote.{start_of, stop_of}
use Rattle.station_sim.specs.Replies.{accepted_if, answer_payload, version_data, texts, text_before}
use Rattle.station_sim.specs.Session.{call_by, due_call, wanted_call, heartbeat_at, is_spent, is_end}
use Rattle.station_sim.specs.declared.session.Session.{Session}
use Rattle.ocpp_payload.specs.declared.action.Action.{Action}
use Rattle.ocpp_types.specs.TimeText.{time_text}
use Rattle.station_sim.specs.Written.{IsWritable, AreWritable}
use Rattle.station_sim.specs.declared.command.Answer.{Answer}
use Rattle.station_sim.specs.declared.command.Answer.TheVariants.{Accepted, RemoteStart, RemoteStop, Unlocked, NotImplemented, UnknownVendorId, Version, Keys}
use Rattle.station_sim.specs.declared.script.Script.{Script}
use Rattle.station_sim.specs.declared.stage.Stage.{Stage}
use Rattle.station_sim.specs.declared.stage.Stage.TheVariants.{Boot, Status, Authorize, Start, Charging, Stopping, Refused, Idle, Ended}
use Rattle.station_sim.specs.declared.version.ListVersion.{ListVersion}
use Rattle.station_sim.specs.declared.version.ListVersion.TheVariants.{Unsigned, Signed}

-- ---- answers

version_plain : (version : ListVersion) → has_float (version_data version) ≡ false
version_plain (Unsigned n) = refl
version_plain (Signed z) = integer_plain z

version_flat : (version : ListVersion) → depth (version_data version) ≡ 0
version_flat (Unsigned n) = refl
version_flat (Signed z) = refl

before_plain : (o : Option (List ℕ)) (ds : Items) → items_have_float ds ≡ false → items_have_float (text_before o ds) ≡ false
before_plain None ds e = e
before_plain (Some text) ds e = e

texts_plain : (ds : Items) → items_have_float (texts ds) ≡ false
texts_plain no_items = refl
texts_plain (item d ds) = before_plain (as_str d) (texts ds) (texts_plain ds)

before_flat : (o : Option (List ℕ)) (ds : Items) → items_depth ds ≡ 0 → items_depth (text_before o ds) ≡ 0
before_flat None ds e = e
before_flat (Some text) ds e = omega (arith, e)

texts_flat : (ds : Items) → items_depth (texts ds) ≡ 0
texts_flat no_items = refl
texts_flat (item d ds) = before_flat (as_str d) (texts ds) (texts_flat ds)

status_writable : (text : List ℕ) → IsWritable (object (member (codes "status") (string text) no_members))
status_writable text = record { plain = refl; payload = record { object = refl; depth = omega arith } }

if_writable : (b : Bool) → IsWritable (accepted_if b)
if_writable true = status_writable (codes "Accepted")
if_writable false = status_writable (codes "Rejected")

answer_writable : (s : Session) (payload : Data) (answer : Answer) → IsWritable (answer_payload s payload answer)
answer_writable s payload Accepted = status_writable (codes "Accepted")
answer_writable s payload RemoteStart = if_writable (is_some (start_of s payload))
answer_writable s payload RemoteStop = if_writable (is_some (stop_of s payload))
answer_writable s payload Unlocked = status_writable (codes "Unlocked")
answer_writable s payload NotImplemented = status_writable (codes "NotImplemented")
answer_writable s payload UnknownVendorId = status_writable (codes "UnknownVendorId")
answer_writable s payload Version =
    let flat = version_flat s.version in
    record { plain = ap (λ b. b || false) (version_plain s.version); payload = record { object = refl; depth = omega (arith, flat) } }
answer_writable s payload Keys =
    let found = unwrap_or (option_and_then as_array (get (codes "key") payload)) no_items in
    let flat = texts_flat found in
    record { plain = ap (λ b. b || false) (texts_plain found); payload = record { object = refl; depth = omega (arith, flat) } }

pub writable_answer : (s : Session) (payload : Data) (answer : Answer) (d : Data) → d ≡ answer_payload s payload answer → IsWritable d
writable_answer s payload answer d is = subst IsWritable (sym is) (answer_writable s payload answer)

-- ---- calls

start_writable : (s : Script) (tag time : List ℕ) → IsWritable (start_payload s tag time)
start_writable s tag time = record { plain = ap (λ b. b || false) (integer_plain s.meter_start); payload = record { object = refl; depth = omega arith } }

reading_writable : (s : Script) (transaction reading : ℤ) (time : List ℕ) → IsWritable (reading_payload s transaction reading time)
reading_writable s transaction reading time = record { plain = ap (λ b. b || false) (integer_plain transaction); payload = record { object = refl; depth = omega arith } }

stop_writable : (s : Script) (tag reason : List ℕ) (transaction : ℤ) (time : List ℕ) → IsWritable (stop_payload s tag reason transaction time)
stop_writable s tag reason transaction time =
    record { plain = rw (integer_plain (meter_after s s.energy)) (ap (λ b. b || false) (integer_plain transaction)); payload = record { object = refl; depth = omega arith } }

refused_writable : (s : Script) (transaction : ℤ) (time : List ℕ) → IsWritable (refused_payload s transaction time)
refused_writable s transaction time =
    record { plain = rw (integer_plain s.meter_start) (ap (λ b. b || false) (integer_plain transaction)); payload = record { object = refl; depth = omega arith } }

last_writable : (s : Script) (ordered : Option (List ℕ)) (transaction : ℤ) (time : List ℕ) → AreWritable (last_call s ordered transaction time)
last_writable s None transaction time = stop_writable s s.tag (codes "Local") transaction time
last_writable s (Some tag) transaction time = tt

charging_writable : (s : Script) (ordered : Option (List ℕ)) (transaction : ℤ) (reading : Option ℤ) (time : List ℕ) → AreWritable (charging_call s ordered transaction reading time)
charging_writable s ordered transaction (Some reading) time = reading_writable s transaction reading time
charging_writable s ordered transaction None time = last_writable s ordered transaction time

pub call_writable : (s : Script) (ordered : Option (List ℕ)) (stage : Stage) (time : List ℕ) → AreWritable (call_of s ordered stage time)
call_writable s ordered Boot time = record { plain = refl; payload = record { object = refl; depth = omega arith } }
call_writable s ordered Status time = record { plain = refl; payload = record { object = refl; depth = omega arith } }
call_writable s ordered Authorize time = record { plain = refl; payload = record { object = refl; depth = omega arith } }
call_writable s ordered Start time = start_writable s (tag_of s ordered) time
call_writable s ordered (Charging transaction sent) time = charging_writable s ordered transaction (slice_get s.readings.items sent) time
call_writable s ordered (Stopping transaction) time = stop_writable s (tag_of s ordered) (codes "Remote") transaction time
call_writable s ordered (Refused transaction) time = refused_writable s transaction time
call_writable s ordered Idle time = tt
call_writable s ordered Ended time = tt

beat_writable : (b : Bool) → AreWritable (if b then Some heartbeat else None)
beat_writable true = record { plain = refl; payload = record { object = refl; depth = omega arith } }
beat_writable false = tt

or_writable : (call other : Option (Action × Data)) → AreWritable call → AreWritable other → AreWritable (option_or call other)
or_writable None other one two = two
or_writable (Some call) other one two = one

by_writable : (o : Option (List ℕ)) (call : Option (Action × Data)) → AreWritable call → AreWritable (call_by o call)
by_writable None call w = w
by_writable (Some id) call w = tt

unless_writable : (b : Bool) (call : Option (Action × Data)) → AreWritable call → AreWritable (if b then None else call)
unless_writable true call w = tt
unless_writable false call w = w

-- the call that is due
pub due_writable : (s : Session) (at : ℕ) → AreWritable (due_call s at)
due_writable s at =
    unless_writable (is_spent s) (call_by s.in_flight (wanted_call s at)) (by_writable s.in_flight (wanted_call s at)
    (or_writable (call_of s.script s.ordered s.stage (time_text at)) (heartbeat_at s at)
    (call_writable s.script s.ordered s.stage (time_text at))
    (beat_writable (not (is_end s.stage) && nat_le s.interval (at - s.called)))))
