-- The central system reads what the station calls.
use Rattle.std.proofs.Common.{◌≡◌, ℕ, ℤ, pos, negsuc, List, [], ◌∷◌, Result, Ok, Err, Option, Some, None, Bool, true, false, codes, refl, sym, subst, ap, ◌∙◌, true≢false, arith}
use Rattle.std.proofs.lemmas.Bool.{le-leb}
use Rattle.std.specs.Prelude.{◌-◌, ◌+ℤ◌, IsOk, IfOk, nat_le, int_le, not, ◌&&◌, slice_get, if◌then◌else◌, unsigned_abs}
use Rattle.std.specs.Option.{option_or}
use Rattle.serde_json.specs.Data.{Data, number, unsigned, string}
use Rattle.serde_json.specs.Find.{of_integer, as_integer}
use Rattle.ocpp_types.specs.Text.{characters}
use Rattle.ocpp_types.specs.Time.{time_of}
use Rattle.ocpp_types.specs.TimeText.{time_text}
use Rattle.ocpp_payload.specs.Fields.{required, optional}
use Rattle.ocpp_payload.specs.Kind.{◌>>=◌, text, typed, integer, int_32, int_64, connector_from, time}
use Rattle.ocpp_payload.specs.Kind as kind
use Rattle.ocpp_payload.specs.Lists.{object_of, some_of}
use Rattle.ocpp_payload.specs.Readings as readings
use Rattle.ocpp_payload.specs.Request as request
use Rattle.ocpp_payload.specs.declared.action.Action.{Action}
use Rattle.ocpp_payload.specs.declared.fault.FieldFault.{FieldFault}
use Rattle.station_sim.specs.Bounds.{is_int_64, is_name, is_connector}
use Rattle.station_sim.specs.Calls.{meter_after, call_of, charging_call, last_call, tag_of, heartbeat, boot_payload, authorize_payload, start_payload, meter_value, reading_payload, stop_payload, refused_payload}
use Rattle.station_sim.specs.Results.{is_int_32}
use Rattle.station_sim.specs.Kept.{IsSession, has_number, has_short_tag}
use Rattle.station_sim.specs.Session.{IsRead, call_by, due_call, wanted_call, heartbeat_at, is_spent, is_end}
use Rattle.station_sim.specs.declared.script.Script.{Script}
use Rattle.station_sim.specs.declared.session.Session.{Session}
use Rattle.station_sim.specs.declared.stage.Stage.{Stage}
use Rattle.station_sim.specs.declared.stage.Stage.TheVariants.{Boot, Status, Authorize, Start, Charging, Stopping, Refused, Idle, Ended}
use Rattle.station_sim.proofs.Keeps.{Bounded, bounded, saturated}

-- ---- one member after another

in_turn : {A B : Type 0} (r : Result A FieldFault) (x : A) (rest : A → Result B FieldFault) → r ≡ Ok x → IsOk (rest x) → IsOk (r >>= rest)
in_turn r x rest e h = subst (λ r. IsOk (r >>= rest)) (sym e) h

made : {A B : Type 0} (r : Result A FieldFault) (make : A → B) → IsOk r → IsOk (r >>= (λ x. Ok (make x)))
made (Ok x) make h = refl
made (Err e) make h = absurd (true≢false (sym h))

value_of : {A : Type 0} (r : Result A FieldFault) → IsOk r → (x : A) × (r ≡ Ok x)
value_of (Ok x) h = (x, refl)
value_of (Err e) h = absurd (true≢false (sym h))

-- ---- the kinds

text_read : (limit : ℕ) (name s : List ℕ) → nat_le (characters s) limit ≡ true → text limit name (string s) ≡ Ok s
text_read limit name s e = ap (λ b. kind.bounded name (if b then Some s else None)) e

integer_is : (z : ℤ) → as_integer (of_integer z) ≡ Some z
integer_is (pos n) = refl
integer_is (negsuc n) = refl

integer_read : (low high z : ℤ) (name : List ℕ) → (int_le low z && int_le z high) ≡ true → integer low high name (number (of_integer z)) ≡ Ok z
integer_read low high z name e =
    ap (λ o. typed name o >>= (λ z. kind.bounded name (if int_le low z && int_le z high then Some z else None))) (integer_is z)
    ∙ ap (λ b. kind.bounded name (if b then Some z else None)) e

int_64_read : (z : ℤ) (name : List ℕ) → is_int_64 z ≡ true → int_64 name (number (of_integer z)) ≡ Ok z
int_64_read z name e = integer_read (negsuc 9223372036854775807) (pos 9223372036854775807) z name e

int_32_read : (z : ℤ) (name : List ℕ) → is_int_32 z ≡ true → int_32 name (number (of_integer z)) ≡ Ok z
int_32_read z name e = integer_read (negsuc 2147483647) (pos 2147483647) z name e

time_read : (name t : List ℕ) (ms : ℤ) → time_of t ≡ Some ms → time name (string t) ≡ Ok ms
time_read name t ms e = ap (typed name) e

both : (a b : Bool) → (a && b) ≡ true → (a ≡ true) × (b ≡ true)
both true b e = (refl, e)
both false b e = absurd (true≢false (sym e))

name_short : (s : List ℕ) → is_name s ≡ true → nat_le (characters s) 20 ≡ true
name_short s e = (both (nat_le 1 (characters s)) (nat_le (characters s) 20) e).1

up_to_255 : (n : ℕ) → is_connector n ≡ true → (int_le (pos 0) (pos n) && int_le (pos n) (pos 255)) ≡ true
up_to_255 n e = ap (λ b. b && nat_le n 255) (le-leb 0 n (omega arith)) ∙ (both (nat_le 1 n) (nat_le n 255) e).1

-- ---- the payloads

boot_read : (s : Script) → Bounded s → IsOk (request.boot_notification (boot_payload s))
boot_read s b =
    in_turn (required (text 20) (codes "chargePointModel") (boot_payload s)) s.model _ (text_read 20 _ s.model (name_short s.model b.model))
    (in_turn (required (text 20) (codes "chargePointVendor") (boot_payload s)) s.vendor _ (text_read 20 _ s.vendor (name_short s.vendor b.vendor)) refl)

authorize_read : (s : Script) → Bounded s → IsOk (request.authorize (authorize_payload s))
authorize_read s b = in_turn (required (text 20) (codes "idTag") (authorize_payload s)) s.tag _ (text_read 20 _ s.tag b.tag) refl

connector_read : (low c : ℕ) (name : List ℕ) → (int_le (pos low) (pos c) && int_le (pos c) (pos 255)) ≡ true → connector_from low name (number (unsigned c)) ≡ Ok c
connector_read low c name e = ap (λ b. kind.bounded name (if b then Some (pos c) else None) >>= (λ z. Ok (unsigned_abs z))) e

start_read : (s : Script) (tag t : List ℕ) (ms : ℤ) → Bounded s → nat_le (characters tag) 20 ≡ true → is_int_64 s.meter_start ≡ true → time_of t ≡ Some ms → IsOk (request.start_transaction (start_payload s tag t))
start_read s tag t ms b short meter e =
    let d = start_payload s tag t in
    in_turn (required (connector_from 1) (codes "connectorId") d) s.connector _ (connector_read 1 s.connector _ b.connector)
    (in_turn (required (text 20) (codes "idTag") d) tag _ (text_read 20 _ tag short)
    (in_turn (required int_64 (codes "meterStart") d) s.meter_start _ (int_64_read s.meter_start _ meter)
    (in_turn (required time (codes "timestamp") d) ms _ (time_read _ t ms e) refl)))

meter_read : (reading : ℤ) (t : List ℕ) (ms : ℤ) → time_of t ≡ Some ms → IsOk (readings.meter_value (meter_value reading t))
meter_read reading t ms e =
    let d = meter_value reading t in
    in_turn (required time (codes "timestamp") d) ms _ (time_read _ t ms e) refl

reading_read : (s : Script) (transaction reading : ℤ) (t : List ℕ) (ms : ℤ) → Bounded s → is_int_32 transaction ≡ true → time_of t ≡ Some ms
    → IsOk (request.meter_values (reading_payload s transaction reading t))
reading_read s transaction reading t ms b fits e =
    let d = reading_payload s transaction reading t in
    let value = value_of (readings.meter_value (meter_value (meter_after s reading) t)) (meter_read (meter_after s reading) t ms e) in
    in_turn (required (connector_from 0) (codes "connectorId") d) s.connector _ (connector_read 0 s.connector _ (up_to_255 s.connector b.connector))
    (in_turn (optional int_32 (codes "transactionId") d) (Some transaction) _ (ap (λ r. r >>= (λ x. Ok (Some x))) (int_32_read transaction _ fits))
    (in_turn (required (some_of (object_of readings.meter_value)) (codes "meterValue") d) (value.0 ∷ []) _ (ap (λ r. r >>= (λ x. Ok [] >>= (λ xs. Ok (x ∷ xs)))) value.1) refl))

local_read : (s : Script) (tag : List ℕ) (transaction : ℤ) (t : List ℕ) (ms : ℤ) → nat_le (characters tag) 20 ≡ true → is_int_32 transaction ≡ true → time_of t ≡ Some ms
    → IsOk (request.stop_transaction (stop_payload s tag (codes "Local") transaction t))
local_read s tag transaction t ms short fits e =
    let d = stop_payload s tag (codes "Local") transaction t in
    in_turn (optional (text 20) (codes "idTag") d) (Some tag) _ (ap (λ r. r >>= (λ x. Ok (Some x))) (text_read 20 _ tag short))
    (in_turn (required int_64 (codes "meterStop") d) (meter_after s s.energy) _ (int_64_read (meter_after s s.energy) _ (saturated (s.meter_start +ℤ s.energy)))
    (in_turn (required time (codes "timestamp") d) ms _ (time_read _ t ms e)
    (in_turn (required int_32 (codes "transactionId") d) transaction _ (int_32_read transaction _ fits) refl)))

remote_read : (s : Script) (tag : List ℕ) (transaction : ℤ) (t : List ℕ) (ms : ℤ) → nat_le (characters tag) 20 ≡ true → is_int_32 transaction ≡ true → time_of t ≡ Some ms
    → IsOk (request.stop_transaction (stop_payload s tag (codes "Remote") transaction t))
remote_read s tag transaction t ms short fits e =
    let d = stop_payload s tag (codes "Remote") transaction t in
    in_turn (optional (text 20) (codes "idTag") d) (Some tag) _ (ap (λ r. r >>= (λ x. Ok (Some x))) (text_read 20 _ tag short))
    (in_turn (required int_64 (codes "meterStop") d) (meter_after s s.energy) _ (int_64_read (meter_after s s.energy) _ (saturated (s.meter_start +ℤ s.energy)))
    (in_turn (required time (codes "timestamp") d) ms _ (time_read _ t ms e)
    (in_turn (required int_32 (codes "transactionId") d) transaction _ (int_32_read transaction _ fits) refl)))

refused_read : (s : Script) (transaction : ℤ) (t : List ℕ) (ms : ℤ) → is_int_64 s.meter_start ≡ true → is_int_32 transaction ≡ true → time_of t ≡ Some ms
    → IsOk (request.stop_transaction (refused_payload s transaction t))
refused_read s transaction t ms meter fits e =
    let d = refused_payload s transaction t in
    in_turn (required int_64 (codes "meterStop") d) s.meter_start _ (int_64_read s.meter_start _ meter)
    (in_turn (required time (codes "timestamp") d) ms _ (time_read _ t ms e)
    (in_turn (required int_32 (codes "transactionId") d) transaction _ (int_32_read transaction _ fits) refl))

-- ---- the call that is due

tag_short : (s : Script) (ordered : Option (List ℕ)) → Bounded s → has_short_tag ordered ≡ true → nat_le (characters (tag_of s ordered)) 20 ≡ true
tag_short s None b short = b.tag
tag_short s (Some tag) b short = short

last_read : (s : Script) (ordered : Option (List ℕ)) (transaction : ℤ) (t : List ℕ) (ms : ℤ) → Bounded s → is_int_32 transaction ≡ true → time_of t ≡ Some ms
    → IsRead (last_call s ordered transaction t)
last_read s None transaction t ms b fits e = made (request.stop_transaction (stop_payload s s.tag (codes "Local") transaction t)) _ (local_read s s.tag transaction t ms b.tag fits e)
last_read s (Some tag) transaction t ms b fits e = tt

charging_read : (s : Script) (ordered : Option (List ℕ)) (transaction : ℤ) (reading : Option ℤ) (t : List ℕ) (ms : ℤ) → Bounded s → is_int_32 transaction ≡ true → time_of t ≡ Some ms
    → IsRead (charging_call s ordered transaction reading t)
charging_read s ordered transaction (Some reading) t ms b fits e = made (request.meter_values (reading_payload s transaction reading t)) _ (reading_read s transaction reading t ms b fits e)
charging_read s ordered transaction None t ms b fits e = last_read s ordered transaction t ms b fits e

call_read : (s : Script) (ordered : Option (List ℕ)) (stage : Stage) (t : List ℕ) (ms : ℤ) → Bounded s → has_short_tag ordered ≡ true → is_int_64 s.meter_start ≡ true
    → has_number stage ≡ true → time_of t ≡ Some ms → IsRead (call_of s ordered stage t)
call_read s ordered Boot t ms b short first fits e = made (request.boot_notification (boot_payload s)) _ (boot_read s b)
call_read s ordered Status t ms b short first fits e = refl
call_read s ordered Authorize t ms b short first fits e = made (request.authorize (authorize_payload s)) _ (authorize_read s b)
call_read s ordered Start t ms b short first fits e =
    made (request.start_transaction (start_payload s (tag_of s ordered) t)) _ (start_read s (tag_of s ordered) t ms b (tag_short s ordered b short) first e)
call_read s ordered (Charging transaction sent) t ms b short first fits e = charging_read s ordered transaction (slice_get s.readings.items sent) t ms b fits e
call_read s ordered (Stopping transaction) t ms b short first fits e =
    made (request.stop_transaction (stop_payload s (tag_of s ordered) (codes "Remote") transaction t)) _ (remote_read s (tag_of s ordered) transaction t ms (tag_short s ordered b short) fits e)
call_read s ordered (Refused transaction) t ms b short first fits e = made (request.stop_transaction (refused_payload s transaction t)) _ (refused_read s transaction t ms first fits e)
call_read s ordered Idle t ms b short first fits e = tt
call_read s ordered Ended t ms b short first fits e = tt

beat_read : (b : Bool) → IsRead (if b then Some heartbeat else None)
beat_read true = refl
beat_read false = tt

or_read : (call other : Option (Action × Data)) → IsRead call → IsRead other → IsRead (option_or call other)
or_read None other one two = two
or_read (Some call) other one two = one

by_read : (o : Option (List ℕ)) (call : Option (Action × Data)) → IsRead call → IsRead (call_by o call)
by_read None call r = r
by_read (Some id) call r = tt

unless_read : (b : Bool) (call : Option (Action × Data)) → IsRead call → IsRead (if b then None else call)
unless_read true call r = tt
unless_read false call r = r

pub due_read : (s : Session) (at : ℕ) (ms : ℤ) → IsSession s → time_of (time_text at) ≡ Some ms → IsRead (due_call s at)
due_read s at ms good e =
    unless_read (is_spent s) (call_by s.in_flight (wanted_call s at)) (by_read s.in_flight (wanted_call s at)
    (or_read (call_of s.script s.ordered s.stage (time_text at)) (heartbeat_at s at)
    (call_read s.script s.ordered s.stage (time_text at) ms (bounded s.script good.bounds) good.tag good.start_meter good.number e)
    (beat_read (not (is_end s.stage) && nat_le s.interval (at - s.called)))))

pub whatever : {X E P : Type 0} (r : Result X E) → P → IfOk r (λ _. P)
whatever (Ok x) p = p
whatever (Err e) p = tt
