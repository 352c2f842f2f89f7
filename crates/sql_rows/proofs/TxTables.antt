-- Transactions, the owners of their tags, readings and uses: their typed tables, and what the texts that write and show them
-- mean.
use Rattle.std.proofs.Common.{◌&&◌, ◌++◌, ◌∷◌, ◌≡◌, ◌∙◌, ℕ, nat_le, nat_lt, pos, codes, List, [], Bool, Option, Some, None, option_map, unwrap_or, length, refl, inl, inr, true}
use Rattle.std.proofs.lemmas.Bool.{and_parts}
use Rattle.sqlite_value.specs.Order.{Row}
use Rattle.sqlite_value.specs.Keys.{joined}
use Rattle.sqlite_schema.specs.declared.schema.Keys.TheVariants.{Enforced}
use Rattle.sqlite_schema.specs.Names.{same_name}
use Rattle.sqlite_rules.specs.Action.{works}
use Rattle.sql_tables.specs.Tables.{hub_schema, hub_tx, names_of, hub_reading, hub_tx_owner, hub_use, hub_meter_value}
use Rattle.sql_tables.specs.Forms.{cols, from_is, last_query, page_query, where_is, range_is, by_column}
use Rattle.sql_tables.specs.Meanings.{IsRead}
use Rattle.sql_tables.specs.declared.pages.TheConstants.{PAGE_ROWS}
use Rattle.sql_rows.specs.TypedTables.{hub_good, txs, tx_owners, readings, meter_values, first_and_count_cells, uses, stop_tag, rows_of}
use Rattle.sql_rows.proofs.TableLemmas.{cast_int}
use Rattle.sql_rows.proofs.ValueLaws.{text_cast, number_cast, count_cast, flag_cast, text_back, number_back}
use Rattle.sql_rows.proofs.TypedTableLemmas.{IsTypedTable}
use Rattle.sql_rows.proofs.PutLemmas.{IsPutForm}
use Rattle.sql_rows.proofs.ReadLaws.{IsTest, IsWhole}
use Rattle.hub_rows.specs.declared.tx_row.TxRow.{TxRow}
use Rattle.hub_rows.specs.declared.tx_row.TxOwnerRow.{TxOwnerRow}
use Rattle.hub_rows.specs.declared.tx_row.Stop.{Stop}
use Rattle.hub_rows.specs.MeterValues.{is_meter_value, is_sent_with}
use Rattle.hub_rows.specs.Transactions.{is_open, counts, is_tx, is_started}
use Rattle.sqlite_rules.specs.Cast.{cast_all}
use Rattle.ocpp_types.specs.Phase.{phase_name}
use Rattle.ocpp_types.specs.Reason.{reason_name}
use Rattle.ocpp_types.specs.UnitOfMeasure.{unit_of_measure_name}
use Rattle.sql_rows.proofs.NameLaws.{judged_back, reason_back, context_back, format_back, location_back, measurand_back, phase_back, unit_back}
use Rattle.std.specs.Ordering.{nat_cmp}
use Rattle.std.specs.Str.{bytes_eq}
use Rattle.sqlite_sql.specs.Term.{Term}
use Rattle.sqlite_value.specs.declared.value.Value.TheVariants.{Int, Text, Blob}
use Rattle.sqlite_trees.specs.Tree.{Trees}
use Rattle.hub_rows.specs.declared.use_row.UseRow.{UseRow}
use Rattle.hub_rows.specs.Keyed.{by_key, key_cmp, numbered_key, put, without}
use Rattle.hub_rows.proofs.ListLaws.{same_text}
use Rattle.hub_rows.proofs.NumberLaws.{number_order, same_station}
use Rattle.hub_rows.specs.Rows.{tx_key, tx_owner_key, use_key}
use Rattle.hub_rows.specs.Uses.{is_owner_of}
use Rattle.sql_tables.specs.declared.meter_values.TheConstants as sql_meter_values
use Rattle.sql_tables.specs.declared.readings.TheConstants as sql_readings
use Rattle.sql_tables.specs.declared.tx_owners.TheConstants as sql_tx_owners
use Rattle.sql_tables.specs.declared.txs.TheConstants as sql_txs
use Rattle.sql_tables.specs.declared.uses.TheConstants as sql_uses
use Rattle.sql_tables.proofs.Texts as texts
use Rattle.sql_rows.specs.TypedTable.{rows_in, Spares}
use Rattle.sql_rows.specs.Kept.{IsDropped, IsMade, IsPutIn, is_between}
use Rattle.hub_rows.specs.declared.meter_value_row.MeterValueRow.{MeterValueRow}
use Rattle.meter_values.proofs.ReadAgain.{read_again}
use Rattle.sql_rows.proofs.StoreLemmas.{IfDone, Means, MeansBy, if_done, means_as, means_by}
use Rattle.sql_rows.proofs.Writes.{adds, puts, updates, drops}
use Rattle.hub_rows.specs.declared.tx_row.StartKey.{StartKey}
use Rattle.sql_rows.proofs.Selects.{ReadsAny, ReadsRows, ReadsLast, ReadsPage}
use Rattle.sql_rows.proofs.Tests as tests
use Rattle.sql_rows.proofs.HubTables.{all_plain, rest_is, spared}

-- ---- transactions

tx_round : (s : TxRow) → txs.read (txs.row s) ≡ s
tx_round s = go s.stop
  where
    go : (o : Option Stop) → txs.read (txs.row (record s { stop = o })) ≡ record s { stop = o }
    go None = rw (number_back s.start.reservation, judged_back s.start.status) refl
    go (Some p) = rw (number_back s.start.reservation, judged_back s.start.status, reason_back p.reason, text_back p.tag) refl

tx_casts : (s : TxRow) → cast_all hub_tx.columns (txs.row s) ≡ txs.row s
tx_casts s = rw (
  cast_int (pos s.number),
  cast_int (pos s.start.id.connector),
  cast_int s.start.id.meter_start,
  cast_int s.start.id.at,
  number_cast s.start.reservation,
  cast_int (pos s.start.begun),
  flag_cast (is_open s),
  flag_cast (counts s),
  number_cast (option_map (λ s. s.meter_stop) s.stop),
  number_cast (option_map (λ s. s.at) s.stop),
  text_cast (option_map (λ s. reason_name s.reason) s.stop),
  text_cast (stop_tag s.stop),
  count_cast (option_map (λ s. s.moment) s.stop),
) refl

pub on_txs : IsTypedTable hub_schema hub_good 5 txs
on_txs = record {
  key_row = λ s. refl;
  row_key = λ s. refl;
  long = λ s. refl;
  round = λ s. tx_round s;
  casts = λ s. tx_casts s;
  good_is = refl;
  here = refl;
  listed = inr (inr (inr (inr (inr (inl refl)))));
  index = _;
  guarded = inr (inr (inr (inr (inr (inl refl)))));
  guards_it = refl;
  columns = refl;
  order = refl;
  orders = all_plain;
  base = λ db. refl;
  counted = refl;
  still = λ olds news some. rw some refl;
}

pub put_txs : IsPutForm txs 15
put_txs = record { source = λ s. refl; filter = λ s v i r. refl; project = λ s u v i j. refl }

pub whole_txs : IsWhole txs (cols 1 1 18)
whole_txs s v params = refl

pub transactions_made : (old new : Trees) (made : List TxRow) → rows_in txs new ≡ made → Spares hub_schema 10 old new → rows_of new ≡ record (rows_of old) { transactions = made }
transactions_made old new made rows frame = λ i. record (rows_of (rest_is (10 ∷ []) old new (spared 10 old new frame) i)) { transactions = rows i }

pub puts_tx : (r : TxRow) → Means sql_txs.PUT.now (txs.row r) (IsMade (λ rows. record rows { transactions = put (by_key tx_key) r rows.transactions }))
puts_tx r = means_as (puts 5 txs on_txs sql_txs.PUT.now (λ e. cc) 15 put_txs texts.put_tx_is r) (λ old new h. transactions_made old new _ h.rows h.frame)

pub updates_tx : (r : TxRow) → MeansBy sql_txs.UPDATE.now (txs.row r) (λ n. IfDone (IsMade (λ rows. record rows { transactions = put (by_key tx_key) r rows.transactions })) (nat_lt 0 n))
updates_tx r = means_by (updates 5 txs on_txs sql_txs.UPDATE.now (λ e. cc) 15 (λ s u j. refl) texts.update_tx_is r) (λ n old new h. if_done (IsPutIn txs r) _ (nat_lt 0 n) old new (λ it. transactions_made old new _ it.rows it.frame) h)

pub adds_tx : (r : TxRow) → Means sql_txs.ADD.now (txs.row r) (IsMade (λ rows. record rows { transactions = put (by_key tx_key) r rows.transactions }))
adds_tx r = means_as (adds 5 txs on_txs sql_txs.ADD.now (λ e. cc) 15 put_txs texts.add_tx_is r) (λ old new h. transactions_made old new _ h.rows h.frame)

-- a delete in this table sets off nothing
frees_txs : (olds : List Row) → works hub_schema Enforced 0 10 olds [] ≡ []
unfolding same_name joined
frees_txs olds = refl

pub drops_txs : (op station : List ℕ) (low high : ℕ) → Means sql_txs.DROP.now (Text op ∷ Text station ∷ Int (pos low) ∷ Int (pos high) ∷ []) (IsMade (λ rows. record rows { transactions = without (λ r. r.op) op (λ r. bytes_eq r.station station && (nat_le low r.number && nat_le r.number high)) rows.transactions }))
drops_txs op station low high =
    means_as (drops 5 txs on_txs sql_txs.DROP.now (λ e. cc) (where_is 0 (1 ∷ 2 ∷ []) ++ range_is 2 3) (Text op ∷ Text station ∷ Int (pos low) ∷ Int (pos high) ∷ []) (λ r. bytes_eq r.op op && (bytes_eq r.station station && (nat_le low r.number && nat_le r.number high))) (tests.txs_between op station low high) frees_txs texts.drop_txs_is)
    (λ old new h. transactions_made old new _ h.rows h.frame)

pub reads_tx : (op station : List ℕ) (n : ℕ) → ReadsRows sql_txs.FIND.now (Text op ∷ Text station ∷ Int (pos n) ∷ Int (pos n) ∷ []) txs (λ r. bytes_eq r.op op && is_tx station n r)
reads_tx op station n = record { at = 5; is = on_txs; wanted = where_is 0 (1 ∷ 2 ∷ []) ++ range_is 2 3; project = cols 1 1 18; whole = whole_txs; order = by_column 3 ∷ []; names = names_of hub_tx; text = texts.find_txs_is; test = tests.one_tx op station n }

pub reads_txs : (op station : List ℕ) (n : ℕ) → ReadsRows sql_txs.FIND.now (Text op ∷ Text station ∷ Int (pos n) ∷ Blob [] ∷ []) txs (λ r. bytes_eq r.op op && (bytes_eq r.station station && nat_le n r.number))
reads_txs op station n = record { at = 5; is = on_txs; wanted = where_is 0 (1 ∷ 2 ∷ []) ++ range_is 2 3; project = cols 1 1 18; whole = whole_txs; order = by_column 3 ∷ []; names = names_of hub_tx; text = texts.find_txs_is; test = tests.txs_from op station n }

-- its number alone
abbrev tx_number : TxRow → Row
tx_number t = Int (pos t.number) ∷ []

pub reads_last_tx_number : (op station : List ℕ) → ReadsLast sql_txs.LAST_NUMBER.now (Text op ∷ Text station ∷ []) txs tx_number (λ r. r.number) (λ r. bytes_eq r.op op && bytes_eq r.station station)
reads_last_tx_number op station = record { at = 5; is = on_txs; wanted = where_is 0 (1 ∷ 2 ∷ []); project = cols 1 3 1; shown = λ t v params. refl; place = 3; numbered = λ id r. refl; names = codes "number" ∷ []; text = texts.last_tx_number_is; test = tests.of_txs op station }

-- rows of one station are in the order of their numbers
pub in_order : {R : Type 0} (op station : R → List ℕ) (number : R → ℕ) (b st : List ℕ) (within : R → Bool) → (x y : R)
    → bytes_eq (op x) b && (bytes_eq (station x) st && within x) ≡ true → bytes_eq (op y) b && (bytes_eq (station y) st && within y) ≡ true → by_key (numbered_key op station number) x y ≡ nat_cmp (number x) (number y)
in_order op station number b st within x y p q =
    let px = and_parts (bytes_eq (op x) b) _ p in
    let py = and_parts (bytes_eq (op y) b) _ q in
    let sx = and_parts (bytes_eq (station x) st) (within x) px.1 in
    let sy = and_parts (bytes_eq (station y) st) (within y) py.1 in
    (λ i. key_cmp (same_text (op x) b px.0 i ∷ same_text (station x) st sx.0 i ∷ (number x ∷ []) ∷ []) (same_text (op y) b py.0 i ∷ same_text (station y) st sy.0 i ∷ (number y ∷ []) ∷ []))
    ∙ same_station b st ((number x ∷ []) ∷ []) ((number y ∷ []) ∷ []) ∙ number_order (number x) (number y)

pub pages_of_txs : (op station : List ℕ) (n : ℕ) → ReadsPage PAGE_ROWS sql_txs.PAGE.now (Text op ∷ Text station ∷ Int (pos n) ∷ []) txs (λ r. bytes_eq r.op op && (bytes_eq r.station station && nat_le n r.number))
pages_of_txs op station n = record {
  at = 5;
  is = on_txs;
  wanted = where_is 0 (1 ∷ 2 ∷ []) ++ from_is 2 3;
  project = cols 1 1 18;
  whole = whole_txs;
  place = 3;
  number = λ r. r.number;
  numbered = λ id r. refl;
  ordered = in_order (λ r. r.op) (λ r. r.station) (λ r. r.number) op station (λ r. nat_le n r.number);
  names = names_of hub_tx;
  text = texts.page_of_txs_is;
  test = tests.txs_on op station n;
}

pub reads_txs_in_use : (op key : List ℕ) → ReadsRows sql_txs.LIST_IN_USE.now (Text op ∷ Text key ∷ Int (pos 1) ∷ []) txs (λ r. bytes_eq r.op op && (bytes_eq r.start.id.key key && counts r))
reads_txs_in_use op key = record { at = 5; is = on_txs; wanted = where_is 0 (1 ∷ 5 ∷ 13 ∷ []); project = cols 1 1 18; whole = whole_txs; order = []; names = names_of hub_tx; text = texts.list_txs_in_use_is; test = tests.used_txs op key }

pub reads_open_txs : (op station : List ℕ) → ReadsRows sql_txs.LIST_OPEN.now (Text op ∷ Text station ∷ Int (pos 1) ∷ []) txs (λ r. bytes_eq r.op op && (bytes_eq r.station station && is_open r))
reads_open_txs op station = record { at = 5; is = on_txs; wanted = where_is 0 (1 ∷ 2 ∷ 12 ∷ []); project = cols 1 1 18; whole = whole_txs; order = []; names = names_of hub_tx; text = texts.list_open_txs_is; test = tests.open_txs op station }

pub reads_all_open_txs : (op : List ℕ) → ReadsRows sql_txs.LIST_ALL_OPEN.now (Text op ∷ Int (pos 1) ∷ []) txs (λ r. bytes_eq r.op op && is_open r)
reads_all_open_txs op = record { at = 5; is = on_txs; wanted = where_is 0 (1 ∷ 12 ∷ []); project = cols 1 1 18; whole = whole_txs; order = by_column 2 ∷ by_column 3 ∷ []; names = names_of hub_tx; text = texts.list_all_open_txs_is; test = tests.all_open_txs op }

pub reads_same_starts : (op station : List ℕ) (k : StartKey) → ReadsRows sql_txs.LIST_SAME_STARTS.now (Text op ∷ Text station ∷ Int (pos k.connector) ∷ Text k.key ∷ Int k.meter_start ∷ Int k.at ∷ []) txs (λ r. bytes_eq r.op op && is_started station k r)
reads_same_starts op station k = record { at = 5; is = on_txs; wanted = where_is 0 (1 ∷ 2 ∷ 4 ∷ 5 ∷ 6 ∷ 7 ∷ []); project = cols 1 1 18; whole = whole_txs; order = by_column 3 ∷ []; names = names_of hub_tx; text = texts.list_same_starts_is; test = tests.same_starts op station k }

-- ---- the owners of their tags

pub on_tx_owners : IsTypedTable hub_schema hub_good 11 tx_owners
on_tx_owners = record {
  key_row = λ s. refl;
  row_key = λ s. refl;
  long = λ s. refl;
  round = λ s. refl;
  casts = λ s. rw (cast_int (pos s.number)) refl;
  good_is = refl;
  here = refl;
  listed = inr (inr (inr (inr (inr (inr (inr (inr (inr (inr (inr (inl refl)))))))))));
  index = _;
  guarded = inr (inr (inr (inr (inr (inr (inr (inr (inr (inr (inr (inl refl)))))))))));
  guards_it = refl;
  columns = refl;
  order = refl;
  orders = all_plain;
  base = λ db. refl;
  counted = refl;
  still = λ olds news some. rw some refl;
}

pub put_tx_owners : IsPutForm tx_owners 1
put_tx_owners = record { source = λ s. refl; filter = λ s v i r. refl; project = λ s u v i j. refl }

pub whole_tx_owners : IsWhole tx_owners (cols 1 1 4)
whole_tx_owners s v params = refl

pub tx_owners_made : (old new : Trees) (made : List TxOwnerRow) → rows_in tx_owners new ≡ made → Spares hub_schema 22 old new → rows_of new ≡ record (rows_of old) { tx_owners = made }
tx_owners_made old new made rows frame = λ i. record (rows_of (rest_is (22 ∷ []) old new (spared 22 old new frame) i)) { tx_owners = rows i }

pub adds_tx_owner : (r : TxOwnerRow) → Means sql_tx_owners.ADD.now (tx_owners.row r) (IsMade (λ rows. record rows { tx_owners = put (by_key tx_owner_key) r rows.tx_owners }))
adds_tx_owner r = means_as (adds 11 tx_owners on_tx_owners sql_tx_owners.ADD.now (λ e. cc) 1 put_tx_owners texts.add_tx_owner_is r) (λ old new h. tx_owners_made old new _ h.rows h.frame)

-- a delete in this table sets off nothing
frees_tx_owners : (olds : List Row) → works hub_schema Enforced 0 22 olds [] ≡ []
unfolding same_name joined
frees_tx_owners olds = refl

pub drops_tx_owners : (op station : List ℕ) (low high : ℕ) → Means sql_tx_owners.DROP.now (Text op ∷ Text station ∷ Int (pos low) ∷ Int (pos high) ∷ []) (IsMade (λ rows. record rows { tx_owners = without (λ r. r.op) op (λ r. bytes_eq r.station station && (nat_le low r.number && nat_le r.number high)) rows.tx_owners }))
drops_tx_owners op station low high =
    means_as (drops 11 tx_owners on_tx_owners sql_tx_owners.DROP.now (λ e. cc) (where_is 0 (1 ∷ 2 ∷ []) ++ range_is 2 3) (Text op ∷ Text station ∷ Int (pos low) ∷ Int (pos high) ∷ []) (λ r. bytes_eq r.op op && (bytes_eq r.station station && (nat_le low r.number && nat_le r.number high))) (tests.tx_owners_between op station low high) frees_tx_owners texts.drop_tx_owners_is)
    (λ old new h. tx_owners_made old new _ h.rows h.frame)

pub reads_tx_owner : (op station : List ℕ) (n : ℕ) → ReadsRows sql_tx_owners.FIND.now (Text op ∷ Text station ∷ Int (pos n) ∷ []) tx_owners (λ r. bytes_eq r.op op && is_owner_of station n r)
reads_tx_owner op station n = record { at = 11; is = on_tx_owners; wanted = where_is 0 (1 ∷ 2 ∷ 3 ∷ []); project = cols 1 1 4; whole = whole_tx_owners; order = []; names = names_of hub_tx_owner; text = texts.find_tx_owner_is; test = tests.of_tx_owner op station n }

-- ---- readings

pub on_readings : IsTypedTable hub_schema hub_good 6 readings
on_readings = record {
  key_row = λ s. refl;
  row_key = λ s. refl;
  long = λ s. refl;
  round = λ s. rw (number_back s.transaction, context_back s.sampled.context, format_back s.sampled.format, measurand_back s.sampled.measurand, phase_back s.sampled.phase, location_back s.sampled.location, unit_back s.sampled.unit) refl;
  casts = λ s. rw (cast_int (pos s.number), cast_int (pos s.connector), number_cast s.transaction, cast_int s.at, text_cast (option_map phase_name s.sampled.phase), text_cast (option_map unit_of_measure_name s.sampled.unit)) refl;
  good_is = refl;
  here = refl;
  listed = inr (inr (inr (inr (inr (inr (inl refl))))));
  index = _;
  guarded = inr (inr (inr (inr (inr (inr (inl refl))))));
  guards_it = refl;
  columns = refl;
  order = refl;
  orders = all_plain;
  base = λ db. refl;
  counted = refl;
  still = λ olds news some. rw some refl;
}

pub whole_readings : IsWhole readings (cols 1 1 13)
whole_readings s v params = refl

-- a delete in this table sets off nothing
frees_readings : (olds : List Row) → works hub_schema Enforced 0 12 olds [] ≡ []
unfolding same_name joined
frees_readings olds = refl

-- one of all readings
pub any_reading : ReadsAny sql_readings.ANY.now readings
any_reading = record { at = 6; is = on_readings; project = cols 1 1 13; whole = whole_readings; names = names_of hub_reading; text = texts.any_reading_is }

pub drops_readings : (op station : List ℕ) (low high : ℕ) → Means sql_readings.DROP.now (Text op ∷ Text station ∷ Int (pos low) ∷ Int (pos high) ∷ []) (IsDropped readings (is_between (λ r. r.op) (λ r. r.station) (λ r. r.number) op station low high))
drops_readings op station low high = drops 6 readings on_readings sql_readings.DROP.now (λ e. cc) (where_is 0 (1 ∷ 2 ∷ []) ++ range_is 2 3) (Text op ∷ Text station ∷ Int (pos low) ∷ Int (pos high) ∷ []) (is_between (λ r. r.op) (λ r. r.station) (λ r. r.number) op station low high) (tests.readings_between op station low high) frees_readings texts.drop_readings_is

-- ---- meter values

meter_value_round : (s : MeterValueRow) → meter_values.read (meter_values.row s) ≡ s
meter_value_round s = λ i. record s { value = record s.value { transaction = number_back s.value.transaction i; sampled = unwrap_or (read_again s.value.sampled i) [] } }

pub on_meter_values : IsTypedTable hub_schema hub_good 13 meter_values
on_meter_values = record {
  key_row = λ s. refl;
  row_key = λ s. refl;
  long = λ s. refl;
  round = λ s. meter_value_round s;
  casts = λ s. rw (cast_int (pos s.first), cast_int (pos s.value.connector), number_cast s.value.transaction, cast_int s.value.at, cast_int (pos (length s.value.sampled))) refl;
  good_is = refl;
  here = refl;
  listed = inr (inr (inr (inr (inr (inr (inr (inr (inr (inr (inr (inr (inr (inl refl)))))))))))));
  index = _;
  guarded = inr (inr (inr (inr (inr (inr (inr (inr (inr (inr (inr (inr (inr (inl refl)))))))))))));
  guards_it = refl;
  columns = refl;
  order = refl;
  orders = all_plain;
  base = λ db. refl;
  counted = refl;
  still = λ olds news some. rw some refl;
}

pub put_meter_values : IsPutForm meter_values 5
put_meter_values = record { source = λ s. refl; filter = λ s v i r. refl; project = λ s u v i j. refl }

pub whole_meter_values : IsWhole meter_values (cols 1 1 8)
whole_meter_values s v params = refl

pub meter_values_made : (old new : Trees) (made : List MeterValueRow) → rows_in meter_values new ≡ made → Spares hub_schema 26 old new → rows_of new ≡ record (rows_of old) { meter_values = made }
meter_values_made old new made rows frame = λ i. record (rows_of (rest_is (26 ∷ []) old new (spared 26 old new frame) i)) { meter_values = rows i }

pub adds_meter_value : (m : MeterValueRow) → Means sql_meter_values.ADD.now (meter_values.row m) (IsPutIn meter_values m)
adds_meter_value m = adds 13 meter_values on_meter_values sql_meter_values.ADD.now (λ e. cc) 5 put_meter_values texts.add_meter_value_is m

-- the first number and the count of the last one
last_numbers : (sql : List ℕ) (wanted : List Term) (params : Row) (p : MeterValueRow → Bool) → IsRead sql (last_query 26 wanted (cols 1 3 1 ++ cols 1 7 1) 3) (codes "first" ∷ codes "count" ∷ []) → IsTest meter_values wanted params p
    → ReadsLast sql params meter_values first_and_count_cells (λ m. m.first) p
last_numbers sql wanted params p text test = record { at = 13; is = on_meter_values; wanted = wanted; project = cols 1 3 1 ++ cols 1 7 1; shown = λ m v params. refl; place = 3; numbered = λ id m. refl; names = codes "first" ∷ codes "count" ∷ []; text = text; test = test }

pub reads_last_numbers : (op station : List ℕ) → ReadsLast sql_meter_values.LAST_NUMBERS.now (Text op ∷ Text station ∷ []) meter_values first_and_count_cells (λ m. m.first) (λ m. bytes_eq m.op op && is_meter_value station None m)
reads_last_numbers op station = last_numbers _ (where_is 0 (1 ∷ 2 ∷ [])) _ _ texts.last_meter_value_numbers_is (tests.of_meter_values op station)

pub reads_last_numbers_of_tx : (op station : List ℕ) (n : ℕ) → ReadsLast sql_meter_values.LAST_NUMBERS_OF_TX.now (Text op ∷ Text station ∷ Int (pos n) ∷ []) meter_values first_and_count_cells (λ m. m.first) (λ m. bytes_eq m.op op && is_meter_value station (Some n) m)
reads_last_numbers_of_tx op station n = last_numbers _ (where_is 0 (1 ∷ 2 ∷ 5 ∷ [])) _ _ texts.last_tx_meter_value_numbers_is (tests.tx_meter_values op station n)

-- a page of those of a station that pass
page_of_values : (size : ℕ) (op station : List ℕ) (sql : List ℕ) (wanted : List Term) (params : Row) (within : MeterValueRow → Bool) → IsRead sql (page_query 26 wanted (cols 1 1 8) 3 size) (names_of hub_meter_value)
    → IsTest meter_values wanted params (λ m. bytes_eq m.op op && (bytes_eq m.station station && within m)) → ReadsPage size sql params meter_values (λ m. bytes_eq m.op op && (bytes_eq m.station station && within m))
page_of_values size op station sql wanted params within text test = record {
  at = 13;
  is = on_meter_values;
  wanted = wanted;
  project = cols 1 1 8;
  whole = whole_meter_values;
  place = 3;
  number = λ m. m.first;
  numbered = λ id m. refl;
  ordered = in_order (λ m. m.op) (λ m. m.station) (λ m. m.first) op station within;
  names = names_of hub_meter_value;
  text = text;
  test = test;
}

pub pages_of_meter_values : (op station : List ℕ) (n : ℕ) → ReadsPage PAGE_ROWS sql_meter_values.PAGE.now (Text op ∷ Text station ∷ Int (pos n) ∷ []) meter_values (λ m. bytes_eq m.op op && (bytes_eq m.station station && nat_le n m.first))
pages_of_meter_values op station n = page_of_values PAGE_ROWS op station _ (where_is 0 (1 ∷ 2 ∷ []) ++ from_is 2 3) _ (λ m. nat_le n m.first) texts.page_of_meter_values_is (tests.meter_values_on op station n)

-- the first of them from a number on
pub next_of_meter_values : (op station : List ℕ) (n : ℕ) → ReadsPage 1 sql_meter_values.NEXT.now (Text op ∷ Text station ∷ Int (pos n) ∷ []) meter_values (λ m. bytes_eq m.op op && (bytes_eq m.station station && nat_le n m.first))
next_of_meter_values op station n = page_of_values 1 op station _ (where_is 0 (1 ∷ 2 ∷ []) ++ from_is 2 3) _ (λ m. nat_le n m.first) texts.next_meter_value_is (tests.meter_values_on op station n)

pub pages_of_tx_meter_values : (op station : List ℕ) (n first : ℕ) → ReadsPage PAGE_ROWS sql_meter_values.PAGE_OF_TX.now (Text op ∷ Text station ∷ Int (pos n) ∷ Int (pos first) ∷ []) meter_values (λ m. bytes_eq m.op op && (bytes_eq m.station station && (is_sent_with (Some n) m.value.transaction && nat_le first m.first)))
pages_of_tx_meter_values op station n first = page_of_values PAGE_ROWS op station _ (where_is 0 (1 ∷ 2 ∷ 5 ∷ []) ++ from_is 3 3) _ (λ m. is_sent_with (Some n) m.value.transaction && nat_le first m.first) texts.page_of_tx_meter_values_is (tests.tx_meter_values_on op station n first)

-- a delete in this table sets off nothing
frees_meter_values : (olds : List Row) → works hub_schema Enforced 0 26 olds [] ≡ []
unfolding same_name joined
frees_meter_values olds = refl

pub drops_meter_values : (op station : List ℕ) (low high : ℕ) → Means sql_meter_values.DROP.now (Text op ∷ Text station ∷ Int (pos low) ∷ Int (pos high) ∷ []) (IsMade (λ rows. record rows { meter_values = without (λ m. m.op) op (λ m. bytes_eq m.station station && (nat_le low m.first && nat_le m.first high)) rows.meter_values }))
drops_meter_values op station low high =
    means_as (drops 13 meter_values on_meter_values sql_meter_values.DROP.now (λ e. cc) (where_is 0 (1 ∷ 2 ∷ []) ++ range_is 2 3) (Text op ∷ Text station ∷ Int (pos low) ∷ Int (pos high) ∷ []) (is_between (λ m. m.op) (λ m. m.station) (λ m. m.first) op station low high) (tests.meter_values_between op station low high) frees_meter_values texts.drop_meter_values_is)
    (λ old new h. meter_values_made old new _ h.rows h.frame)

-- ---- uses

pub on_uses : IsTypedTable hub_schema hub_good 12 uses
on_uses = record {
  key_row = λ s. refl;
  row_key = λ s. refl;
  long = λ s. refl;
  round = λ s. refl;
  casts = λ s. rw (cast_int (pos s.number), cast_int (pos s.moment), cast_int s.wh) refl;
  good_is = refl;
  here = refl;
  listed = inr (inr (inr (inr (inr (inr (inr (inr (inr (inr (inr (inr (inl refl))))))))))));
  index = _;
  guarded = inr (inr (inr (inr (inr (inr (inr (inr (inr (inr (inr (inr (inl refl))))))))))));
  guards_it = refl;
  columns = refl;
  order = refl;
  orders = all_plain;
  base = λ db. refl;
  counted = refl;
  still = λ olds news some. rw some refl;
}

pub put_uses : IsPutForm uses 4
put_uses = record { source = λ s. refl; filter = λ s v i r. refl; project = λ s u v i j. refl }

pub whole_uses : IsWhole uses (cols 1 1 6)
whole_uses s v params = refl

pub uses_made : (old new : Trees) (made : List UseRow) → rows_in uses new ≡ made → Spares hub_schema 24 old new → rows_of new ≡ record (rows_of old) { uses = made }
uses_made old new made rows frame = λ i. record (rows_of (rest_is (24 ∷ []) old new (spared 24 old new frame) i)) { uses = rows i }

pub adds_use : (r : UseRow) → Means sql_uses.ADD.now (uses.row r) (IsMade (λ rows. record rows { uses = put (by_key use_key) r rows.uses }))
adds_use r = means_as (adds 12 uses on_uses sql_uses.ADD.now (λ e. cc) 4 put_uses texts.add_use_is r) (λ old new h. uses_made old new _ h.rows h.frame)

pub reads_uses : (op : List ℕ) → ReadsRows sql_uses.LIST.now (Text op ∷ []) uses (λ r. bytes_eq r.op op && true)
reads_uses op = record { at = 12; is = on_uses; wanted = where_is 0 (1 ∷ []); project = cols 1 1 6; whole = whole_uses; order = by_column 2 ∷ []; names = names_of hub_use; text = texts.list_uses_is; test = tests.of_uses op }

pub reads_last_use : (op : List ℕ) → ReadsLast sql_uses.FIND_LAST.now (Text op ∷ []) uses uses.row (λ r. r.number) (λ r. bytes_eq r.op op && true)
reads_last_use op = record { at = 12; is = on_uses; wanted = where_is 0 (1 ∷ []); project = cols 1 1 6; shown = whole_uses; place = 2; numbered = λ id r. refl; names = names_of hub_use; text = texts.find_last_use_is; test = tests.of_uses op }
