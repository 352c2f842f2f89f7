-- Each number of a repaired value is a number of JSON, as those of the value are.
use Rattle.std.proofs.Common.{◌≡◌, refl, ℕ, List, [], ◌∷◌, codes, map, Bool, true, false, cond, Option, Some, None, nat_eq}
use Rattle.std.specs.Prelude.{⊤}
use Rattle.std.specs.Cmp.Lexicographic.{pointwise}
use Rattle.json.specs.Json.{Json, null, boolean, number, string, array, object, Items, no_items, item, Members, no_members, member}
use Rattle.json.specs.Print.{print, IsNumber}
use Rattle.json.specs.Tree.{json_tokens, HasNumbers, ItemsHaveNumbers, MembersHaveNumbers}
use Rattle.json.specs.Word.{after_number}
use Rattle.serde_json.specs.Read.{read}
use Rattle.ocpp_types.specs.ChargePointErrorCode.{charge_point_error_codes}
use Rattle.ocpp_types.specs.ChargePointStatus.{charge_point_statuses}
use Rattle.ocpp_types.specs.DiagnosticsStatus.{diagnostics_statuses}
use Rattle.ocpp_types.specs.FirmwareStatus.{firmware_statuses}
use Rattle.ocpp_types.specs.Reason.{reasons}
use Rattle.ocpp_payload.specs.declared.action.Action.{Action}
use Rattle.ocpp_payload.specs.declared.action.Action.TheVariants as action
use Rattle.repairs.specs.Integers.{nothing_left, is_number, number_or, is_digits, integer}
use Rattle.repairs.specs.Names.{names, named, named_or, is_blank, named_if_any}
use Rattle.repairs.specs.Readings.{named_members, sampled_value_table, has_unnamed, sampled_value, sampled_values, meter_value_table, is_meter_value, if_read, meter_value, meter_values}
use Rattle.repairs.specs.Requests.{repairs}
use Rattle.repairs.specs.Tables.{Repair, Table, repair_at, some_member, repaired_members, by_table, some_item, repaired_items}
use Rattle.repairs.specs.Texts.{whole, without_zeros, of_text, value_text, time}

-- the value has numbers, if there is one
abbrev pub IfFound : Option Json → Type 0
IfFound None = ⊤
IfFound (Some j) = HasNumbers j

-- ---- values

all_read : (o : Option (List ℕ)) → nothing_left o ≡ true → o ≡ Some []
all_read None e = absurd (cc)
all_read (Some []) e = refl
all_read (Some (c ∷ cs)) e = absurd (cc)

pub is_number-IsNumber : (text : List ℕ) → is_number text ≡ true → IsNumber text
is_number-IsNumber text e = all_read (after_number text) e

number_or-by : (text : List ℕ) (other : Json) (b : Bool) → is_number text ≡ b → HasNumbers other → HasNumbers (cond b (number text) other)
number_or-by text other true e h = is_number-IsNumber text e
number_or-by text other false e h = h

number_or-numbers : (text : List ℕ) (other : Json) → HasNumbers other → HasNumbers (number_or text other)
number_or-numbers text other h = number_or-by text other (is_number text) refl h

digits-by : (s : List ℕ) (b : Bool) → HasNumbers (cond b (number_or (without_zeros s) (string s)) (string s))
digits-by s true = number_or-numbers (without_zeros s) (string s) tt
digits-by s false = tt

integer_numbers : (j : Json) → HasNumbers j → HasNumbers (integer j)
integer_numbers null h = h
integer_numbers (boolean b) h = h
integer_numbers (number s) h = number_or-numbers (whole s) (number s) h
integer_numbers (string s) h = digits-by s (is_digits s)
integer_numbers (array js) h = h
integer_numbers (object ms) h = h

of_text_numbers : (change : List ℕ → List ℕ) (j : Json) → HasNumbers j → HasNumbers (of_text change j)
of_text_numbers change null h = h
of_text_numbers change (boolean b) h = h
of_text_numbers change (number s) h = h
of_text_numbers change (string s) h = h
of_text_numbers change (array js) h = h
of_text_numbers change (object ms) h = h

value_text_numbers : (j : Json) → HasNumbers j → HasNumbers (value_text j)
value_text_numbers null h = h
value_text_numbers (boolean b) h = h
value_text_numbers (number s) h = tt
value_text_numbers (string s) h = h
value_text_numbers (array js) h = h
value_text_numbers (object ms) h = h

time_numbers : (now : List ℕ) (j : Json) → HasNumbers j → HasNumbers (time now j)
time_numbers now null h = tt
time_numbers now (boolean b) h = tt
time_numbers now (number s) h = tt
time_numbers now (string s) h = tt
time_numbers now (array js) h = tt
time_numbers now (object ms) h = tt

named_numbers : (names : List (List ℕ)) (j : Json) → HasNumbers j → HasNumbers (named names j)
named_numbers names null h = h
named_numbers names (boolean b) h = h
named_numbers names (number s) h = h
named_numbers names (string s) h = h
named_numbers names (array js) h = h
named_numbers names (object ms) h = h

named_or_numbers : (default : List ℕ) (names : List (List ℕ)) (j : Json) → HasNumbers j → HasNumbers (named_or default names j)
named_or_numbers default names null h = tt
named_or_numbers default names (boolean b) h = tt
named_or_numbers default names (number s) h = tt
named_or_numbers default names (string s) h = tt
named_or_numbers default names (array js) h = tt
named_or_numbers default names (object ms) h = tt

unless-text : (b : Bool) (s : List ℕ) → IfFound (cond b None (Some (string s)))
unless-text true s = tt
unless-text false s = tt

named_if_any_numbers : (names : List (List ℕ)) (j : Json) → HasNumbers j → IfFound (named_if_any names j)
named_if_any_numbers names null h = h
named_if_any_numbers names (boolean b) h = h
named_if_any_numbers names (number s) h = h
named_if_any_numbers names (string s) h = unless-text (is_blank s) _
named_if_any_numbers names (array js) h = h
named_if_any_numbers names (object ms) h = h

-- ---- tables

-- each row keeps the numbers
abbrev RowsKeep : Table → Type 0
RowsKeep [] = ⊤
RowsKeep (row ∷ rows) = ((j : Json) → HasNumbers j → IfFound (row.1 j)) × RowsKeep rows

found-by : (b : Bool) (o p : Option Json) → IfFound o → IfFound p → IfFound (cond b o p)
found-by true o p h k = h
found-by false o p h k = k

repair_at_numbers : (table : Table) → RowsKeep table → (name : List ℕ) (j : Json) → HasNumbers j → IfFound (repair_at table name j)
repair_at_numbers [] rows name j h = h
repair_at_numbers (row ∷ table) rows name j h = found-by (pointwise nat_eq name row.0) (row.1 j) (repair_at table name j) (rows.0 j h) (repair_at_numbers table rows.1 name j h)

some_member_numbers : (name : List ℕ) (o : Option Json) (ms : Members) → IfFound o → MembersHaveNumbers ms → MembersHaveNumbers (some_member name o ms)
some_member_numbers name None ms h k = k
some_member_numbers name (Some j) ms h k = (h, k)

repaired_members_numbers : (table : Table) → RowsKeep table → (ms : Members) → MembersHaveNumbers ms → MembersHaveNumbers (repaired_members table ms)
repaired_members_numbers table rows no_members h = tt
repaired_members_numbers table rows (member name j ms) h =
    some_member_numbers name (repair_at table name j) (repaired_members table ms) (repair_at_numbers table rows name j h.0) (repaired_members_numbers table rows ms h.1)

by_table_numbers : (table : Table) → RowsKeep table → (j : Json) → HasNumbers j → HasNumbers (by_table table j)
by_table_numbers table rows null h = h
by_table_numbers table rows (boolean b) h = h
by_table_numbers table rows (number s) h = h
by_table_numbers table rows (string s) h = h
by_table_numbers table rows (array js) h = h
by_table_numbers table rows (object ms) h = repaired_members_numbers table rows ms h

some_item_numbers : (o : Option Json) (js : Items) → IfFound o → ItemsHaveNumbers js → ItemsHaveNumbers (some_item o js)
some_item_numbers None js h k = k
some_item_numbers (Some j) js h k = (h, k)

repaired_items_numbers : (repair : Repair) → ((j : Json) → HasNumbers j → IfFound (repair j)) → (js : Items) → ItemsHaveNumbers js → ItemsHaveNumbers (repaired_items repair js)
repaired_items_numbers repair keeps no_items h = tt
repaired_items_numbers repair keeps (item j js) h = some_item_numbers (repair j) (repaired_items repair js) (keeps j h.0) (repaired_items_numbers repair keeps js h.1)

-- ---- readings of a meter

named_rows : (rows : List (List ℕ × List (List ℕ))) → RowsKeep (map (λ row. (row.0, named_if_any row.1)) rows)
named_rows [] = tt
named_rows (row ∷ rows) = (named_if_any_numbers row.1, named_rows rows)

sampled_value_rows : RowsKeep sampled_value_table
sampled_value_rows = (value_text_numbers, named_rows named_members)

unless-found : (b : Bool) (o : Option Json) → IfFound o → IfFound (cond b None o)
unless-found true o h = tt
unless-found false o h = h

sampled_value_numbers : (j : Json) → HasNumbers j → IfFound (sampled_value j)
sampled_value_numbers null h = h
sampled_value_numbers (boolean b) h = h
sampled_value_numbers (number s) h = h
sampled_value_numbers (string s) h = h
sampled_value_numbers (array js) h = h
sampled_value_numbers (object ms) h = unless-found (has_unnamed ms) (Some (object (repaired_members sampled_value_table ms))) (repaired_members_numbers sampled_value_table sampled_value_rows ms h)

sampled_values_numbers : (j : Json) → HasNumbers j → HasNumbers (sampled_values j)
sampled_values_numbers null h = h
sampled_values_numbers (boolean b) h = h
sampled_values_numbers (number s) h = h
sampled_values_numbers (string s) h = h
sampled_values_numbers (array js) h = repaired_items_numbers sampled_value sampled_value_numbers js h
sampled_values_numbers (object ms) h = h

meter_value_rows : (now : List ℕ) → RowsKeep (meter_value_table now)
meter_value_rows now = (time_numbers now, (sampled_values_numbers, tt))

pub meter_value_table_numbers : (now : List ℕ) (j : Json) → HasNumbers j → HasNumbers (by_table (meter_value_table now) j)
meter_value_table_numbers now = by_table_numbers (meter_value_table now) (meter_value_rows now)

if_read_numbers : (j : Json) → HasNumbers j → IfFound (if_read j)
if_read_numbers j h = found-by (is_meter_value (read (print (json_tokens j)))) (Some j) None h tt

meter_value_numbers : (now : List ℕ) (j : Json) → HasNumbers j → IfFound (meter_value now j)
meter_value_numbers now j h = if_read_numbers (by_table (meter_value_table now) j) (meter_value_table_numbers now j h)

meter_values_numbers : (now : List ℕ) (j : Json) → HasNumbers j → IfFound (meter_values now j)
meter_values_numbers now null h = h
meter_values_numbers now (boolean b) h = tt
meter_values_numbers now (number s) h = tt
meter_values_numbers now (string s) h = tt
meter_values_numbers now (array js) h = repaired_items_numbers (meter_value now) (meter_value_numbers now) js h
meter_values_numbers now (object ms) h = tt

-- ---- requests

repairs_rows : (a : Action) (now : List ℕ) → RowsKeep (repairs a now)
repairs_rows action.Authorize now = tt
repairs_rows action.BootNotification now = (of_text_numbers _, (of_text_numbers _, (of_text_numbers _, (of_text_numbers _, (of_text_numbers _, (of_text_numbers _, (of_text_numbers _, (of_text_numbers _, (of_text_numbers _, tt)))))))))
repairs_rows action.DataTransfer now = tt
repairs_rows action.DiagnosticsStatusNotification now = (named_numbers (names diagnostics_statuses), tt)
repairs_rows action.FirmwareStatusNotification now = (named_numbers (names firmware_statuses), tt)
repairs_rows action.Heartbeat now = tt
repairs_rows action.MeterValues now = (integer_numbers, (integer_numbers, (meter_values_numbers now, tt)))
repairs_rows action.StartTransaction now = (integer_numbers, (integer_numbers, (integer_numbers, (time_numbers now, tt))))
repairs_rows action.StatusNotification now = (integer_numbers, (named_or_numbers (codes "OtherError") (names charge_point_error_codes), (of_text_numbers _, (named_or_numbers (codes "Unavailable") (names charge_point_statuses), (time_numbers now, (of_text_numbers _, tt))))))
repairs_rows action.StopTransaction now = (integer_numbers, (integer_numbers, (time_numbers now, (named_numbers (names reasons), (meter_values_numbers now, tt)))))

pub repairs_numbers : (a : Action) (now : List ℕ) (j : Json) → HasNumbers j → HasNumbers (by_table (repairs a now) j)
repairs_numbers a now = by_table_numbers (repairs a now) (repairs_rows a now)
