-- What the forms of an operator's lines say.
use Rattle.std.specs.Prelude.{option_and_then, ℕ, List, [], ◌∷◌, codes, Bool, true, false, if◌then◌else◌, Option, Some, None}
use Rattle.hub_events.specs.declared.event.HistoryEnds.{HistoryEnds}
use Rattle.hub_events.specs.declared.event.What.{What}
use Rattle.hub_events.specs.declared.event.What.TheVariants as what
use Rattle.hub_events.specs.declared.event.Admin.TheVariants as admin
use Rattle.hub_events.specs.declared.listing.Listing.TheVariants as listing
use Rattle.hub_rows.specs.Readers.{readers}
use Rattle.ocpp_types.specs.Named.{named}
use Rattle.operator_cmds.specs.Command.{command}
use Rattle.ocpp_types.specs.Policy.{policies}
use Rattle.ocpp_types.specs.declared.policy.Policy.{Policy}
use Rattle.serde_json.specs.Data.{Data}
use Rattle.serde_json.specs.Find.{as_str}
use Rattle.serde_json.specs.Read.{read}
use Rattle.lines.specs.Words.{first_word, only_word, number_of, transaction_number, end_number, meter_of, moment_at, parent_of, is_expiry, expiry_of, ◌>>=◌}

-- `connect ST`
abbrev pub connect_form : List ℕ → Option What
connect_form rest = do
  station ← only_word rest
  Some (what.Connect station)

-- `disconnect ST`
abbrev pub disconnect_form : List ℕ → Option What
disconnect_form rest = do
  station ← only_word rest
  Some (what.Disconnect station)

-- `frame ST TEXT`
abbrev pub frame_form : List ℕ → Option What
frame_form rest = do
  station ← first_word rest
  Some (what.Frame station.0 station.1)

-- a JSON string
abbrev pub string_of : Option Data → Option (List ℕ)
string_of = option_and_then as_str

-- `quoted ST STRING`: a frame, whose text is a JSON string
abbrev pub quoted_form : List ℕ → Option What
quoted_form rest = do
  station ← first_word rest
  text ← string_of (read station.1)
  Some (what.Frame station.0 text)

-- `call ST ACTION JSON`
abbrev pub call_form : List ℕ → Option What
call_form rest = do
  station ← first_word rest
  action ← first_word station.1
  payload ← read action.1
  c ← command action.0 payload
  Some (what.Do station.0 c)

-- `ST POLICY INTERVAL`
abbrev pub policy_words : List ℕ → Option (List ℕ × (Policy × ℕ))
policy_words rest = do
  station ← first_word rest
  policy_word ← first_word station.1
  policy ← named policies policy_word.0
  interval ← number_of policy_word.1
  Some (station.0, (policy, interval))

-- `station add ST POLICY INTERVAL`
abbrev pub station_add_form : List ℕ → Option What
station_add_form rest = do
  words ← policy_words rest
  Some (what.Admin (admin.StationAdd words.0 words.1.0 words.1.1))

-- `station policy ST POLICY INTERVAL`
abbrev pub station_policy_form : List ℕ → Option What
station_policy_form rest = do
  words ← policy_words rest
  Some (what.Admin (admin.StationPolicy words.0 words.1.0 words.1.1))

-- `station reader ST strict|tolerant`
abbrev pub station_reader_form : List ℕ → Option What
station_reader_form rest = do
  station ← first_word rest
  reader ← named readers station.1
  Some (what.Admin (admin.StationReader station.0 reader))

-- `station drop ST`
abbrev pub station_drop_form : List ℕ → Option What
station_drop_form rest = do
  station ← only_word rest
  Some (what.DropStation station)

-- `0` or `1`, whether a tag is blocked
abbrev pub mark_of : List ℕ → Option Bool
mark_of = named ((codes "0", false) ∷ (codes "1", true) ∷ [])

-- `tag put TAG PARENT|- 0|1 EXPIRY|-`
abbrev pub tag_put_form : List ℕ → Option What
tag_put_form rest = do
  tag ← first_word rest
  parent ← first_word tag.1
  mark ← first_word parent.1
  blocked ← mark_of mark.0
  if is_expiry mark.1 then Some (what.Admin (admin.TagPut (record { text = tag.0; parent = parent_of parent.0; blocked = blocked; expiry = expiry_of mark.1 }))) else None

-- `tag drop TAG`
abbrev pub tag_drop_form : List ℕ → Option What
tag_drop_form rest = do
  tag ← only_word rest
  Some (what.Admin (admin.TagDrop tag))

-- `READING TRANSACTION`
abbrev pub history_ends : List ℕ → Option HistoryEnds
history_ends rest = do
  reading_word ← first_word rest
  reading ← end_number reading_word.0
  transaction ← end_number reading_word.1
  Some (record { reading = reading; transaction = transaction })

-- `UNTIL READING TRANSACTION`
abbrev pub ended_forget_form : List ℕ → List ℕ → Option What
ended_forget_form station rest = do
  until_word ← first_word rest
  until ← moment_at until_word.0
  ends ← history_ends until_word.1
  Some (what.Forget station until (Some ends))

-- `UNTIL`, or with ends
abbrev pub forget_by_words : List ℕ → Option ℕ → List ℕ → Option What
forget_by_words station (Some until) rest = Some (what.Forget station until None)
forget_by_words station None rest = ended_forget_form station rest

-- `forget ST UNTIL`, or `forget ST UNTIL READING TRANSACTION`
abbrev pub forget_form : List ℕ → Option What
forget_form rest = do
  station ← first_word rest
  forget_by_words station.0 (moment_at station.1) station.1

-- `grant TAG OP2 UNTIL|-`
abbrev pub grant_form : List ℕ → Option What
grant_form rest = do
  tag ← first_word rest
  to ← first_word tag.1
  if is_expiry to.1 then Some (what.Admin (admin.Grant (record { tag = tag.0; to = to.0; until = expiry_of to.1 }))) else None

-- `revoke TAG OP2`
abbrev pub revoke_form : List ℕ → Option What
revoke_form rest = do
  tag ← first_word rest
  to ← only_word tag.1
  Some (what.Admin (admin.Revoke tag.0 to))

-- `transaction close ST N METERSTOP|-`
abbrev pub transaction_close_form : List ℕ → Option What
transaction_close_form rest = do
  station ← first_word rest
  number ← first_word station.1
  n ← transaction_number number.0
  meter ← meter_of number.1
  Some (what.Admin (admin.TransactionClose station.0 n meter))

-- what the form of the first word reads after that word
abbrev pub by_word : List (List ℕ × (List ℕ → Option What)) → List ℕ → Option What
by_word forms text = do
  word ← first_word text
  form ← named forms word.0
  form word.1

-- the forms after `station`
abbrev pub station_form : List ℕ → Option What
station_form = by_word ((codes "add", station_add_form) ∷ (codes "policy", station_policy_form) ∷ (codes "reader", station_reader_form) ∷ (codes "drop", station_drop_form) ∷ [])

-- the forms after `tag`
abbrev pub tag_form : List ℕ → Option What
tag_form = by_word ((codes "put", tag_put_form) ∷ (codes "drop", tag_drop_form) ∷ [])

-- the forms after `transaction`
abbrev pub transaction_form : List ℕ → Option What
transaction_form = by_word ((codes "close", transaction_close_form) ∷ [])

-- `connectors ST`
abbrev pub connectors_form : List ℕ → Option What
connectors_form rest = do
  station ← only_word rest
  Some (what.List (listing.Connectors station))

-- `transactions ST FROM`
abbrev pub later_transactions_form : List ℕ → Option What
later_transactions_form rest = do
  station ← first_word rest
  first ← transaction_number station.1
  Some (what.List (listing.Transactions station.0 first))

-- `transactions ST`, which is from 0 on, or with a number
abbrev pub transactions_by_words : Option (List ℕ) → List ℕ → Option What
transactions_by_words (Some station) rest = Some (what.List (listing.Transactions station 0))
transactions_by_words None rest = later_transactions_form rest

abbrev pub transactions_form : List ℕ → Option What
transactions_form rest = transactions_by_words (only_word rest) rest

-- `readings ST N`
abbrev pub numbered_readings_form : List ℕ → Option What
numbered_readings_form rest = do
  station ← first_word rest
  n ← number_of station.1
  Some (what.List (listing.Readings station.0 (Some n)))

-- `readings ST`, or with a number
abbrev pub readings_by_words : Option (List ℕ) → List ℕ → Option What
readings_by_words (Some station) rest = Some (what.List (listing.Readings station None))
readings_by_words None rest = numbered_readings_form rest

abbrev pub readings_form : List ℕ → Option What
readings_form rest = readings_by_words (only_word rest) rest

-- `reservations ST`
abbrev pub reservations_form : List ℕ → Option What
reservations_form rest = do
  station ← only_word rest
  Some (what.List (listing.Reservations station))

-- `locallist ST`
abbrev pub local_list_form : List ℕ → Option What
local_list_form rest = do
  station ← only_word rest
  Some (what.List (listing.LocalList station))

-- `reports ST`
abbrev pub reports_form : List ℕ → Option What
reports_form rest = do
  station ← only_word rest
  Some (what.List (listing.Reports station))

-- `forgettable ST UNTIL`
abbrev pub forgettable_form : List ℕ → Option What
forgettable_form rest = do
  station ← first_word rest
  until ← moment_at station.1
  Some (what.List (listing.Forgettable station.0 until))

-- the listings of a station
abbrev pub station_list_form : List ℕ → Option What
station_list_form = by_word ((codes "connectors", connectors_form) ∷ (codes "transactions", transactions_form) ∷ (codes "readings", readings_form) ∷ (codes "reservations", reservations_form) ∷ (codes "locallist", local_list_form) ∷ (codes "reports", reports_form) ∷ (codes "forgettable", forgettable_form) ∷ [])

-- the listings of an operator
abbrev pub plain_list : List ℕ → Option What
plain_list = named ((codes "stations", what.List listing.Stations) ∷ (codes "connections", what.Connections) ∷ (codes "tags", what.List listing.Tags) ∷ (codes "grants", what.List listing.Grants) ∷ (codes "granted", what.List listing.Granted) ∷ (codes "uses", what.List listing.Uses) ∷ (codes "open", what.List listing.OpenTransactions) ∷ (codes "readers", what.List listing.Readers) ∷ [])

-- the forms after `list`
abbrev pub list_by_word : Option What → List ℕ → Option What
list_by_word (Some w) rest = Some w
list_by_word None rest = station_list_form rest

abbrev pub list_form : List ℕ → Option What
list_form rest = list_by_word (plain_list rest) rest

-- the forms after `MOMENT OP`
unfoldable pub what_of : List ℕ → Option What
what_of = by_word ((codes "connect", connect_form) ∷ (codes "disconnect", disconnect_form) ∷ (codes "frame", frame_form) ∷ (codes "quoted", quoted_form) ∷ (codes "call", call_form) ∷ (codes "station", station_form) ∷ (codes "tag", tag_form) ∷ (codes "transaction", transaction_form) ∷ (codes "forget", forget_form) ∷ (codes "grant", grant_form) ∷ (codes "revoke", revoke_form) ∷ (codes "list", list_form) ∷ [])
