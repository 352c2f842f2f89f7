-- Reservations, local lists and their entries: their typed tables, and what the texts that write and show them mean,
-- but the one that drops a list.
use Rattle.std.proofs.Common.{◌&&◌, ◌++◌, ◌∷◌, ◌≡◌, ℕ, pos, List, [], refl, ap, inl, inr, filter, not, negsuc}
use Rattle.sqlite_value.specs.Order.{Row}
use Rattle.sqlite_schema.specs.declared.schema.Keys.TheVariants.{Enforced}
use Rattle.sqlite_schema.specs.Names.{same_name}
use Rattle.sqlite_value.specs.Keys.{joined}
use Rattle.sqlite_rules.specs.Action.{works}
use Rattle.sql_tables.specs.Tables.{hub_schema, names_of, hub_list, hub_list_entry, hub_reservation}
use Rattle.sql_tables.specs.Forms.{cols, where_is, range_is, by_column}
use Rattle.sql_rows.specs.TypedTables.{hub_good, reservations, lists, entries, rows_of}
use Rattle.sql_rows.proofs.TableLemmas.{cast_int}
use Rattle.sql_rows.proofs.ValueLaws.{text_cast, count_cast, text_back, count_back, shifted_back}
use Rattle.sql_rows.proofs.TypedTableLemmas.{IsTypedTable}
use Rattle.sql_rows.proofs.PutLemmas.{IsPutForm}
use Rattle.sql_rows.proofs.ReadLaws.{IsWhole}
use Rattle.sql_rows.proofs.NameLaws.{judged_back}
use Rattle.hub_rows.specs.Reservations.{unshifted, is_reservation}
use Rattle.hub_rows.specs.declared.reservation_row.ReservationRow.{ReservationRow}
use Rattle.std.specs.Str.{bytes_eq}
use Rattle.sqlite_value.specs.declared.value.Value.TheVariants.{Int, Text, Blob}
use Rattle.sqlite_trees.specs.Tree.{Trees}
use Rattle.hub_rows.specs.Keyed.{by_key, put, without}
use Rattle.hub_rows.specs.Rows.{reservation_key}
use Rattle.sql_tables.specs.declared.list_entries.TheConstants as sql_list_entries
use Rattle.sql_tables.specs.declared.lists.TheConstants as sql_lists
use Rattle.sql_tables.specs.declared.reservations.TheConstants as sql_reservations
use Rattle.sql_tables.proofs.Texts as texts
use Rattle.sql_rows.specs.TypedTable.{rows_in, Spares}
use Rattle.sql_rows.specs.declared.list_rows.ListHead.{ListHead}
use Rattle.sql_rows.specs.declared.list_rows.EntryRow.{EntryRow}
use Rattle.sql_rows.specs.Kept.{IsPutIn, IsDropped, IsMade}
use Rattle.sql_rows.proofs.StoreLemmas.{Means, means_as}
use Rattle.sql_rows.proofs.Writes.{adds, puts, drops}
use Rattle.sql_rows.proofs.Selects.{ReadsRows}
use Rattle.sql_rows.proofs.Tests as tests
use Rattle.sql_rows.proofs.HubTables.{all_plain, rest_is, spared}

-- ---- reservations

reservation_round : (s : ReservationRow) → reservations.read (reservations.row s) ≡ s
reservation_round s = λ i. record s { id = shifted_back s.id i; reservation = record s.reservation { parent = text_back s.reservation.parent i } }

pub on_reservations : IsTypedTable hub_schema hub_good 7 reservations
on_reservations = record {
  key_row = λ s. refl;
  row_key = λ s. ap (λ n. s.op ∷ s.station ∷ (n ∷ []) ∷ []) (shifted_back s.id);
  long = λ s. refl;
  round = λ s. reservation_round s;
  casts = λ s. rw (cast_int (unshifted s.id), cast_int (pos s.reservation.connector), text_cast s.reservation.parent, cast_int (pos s.reservation.expiry)) refl;
  good_is = refl;
  here = refl;
  listed = inr (inr (inr (inr (inr (inr (inr (inl refl)))))));
  index = _;
  guarded = inr (inr (inr (inr (inr (inr (inr (inl refl)))))));
  guards_it = refl;
  columns = refl;
  order = refl;
  orders = all_plain;
  base = λ db. refl;
  counted = refl;
  still = λ olds news some. rw some refl;
}

pub put_reservations : IsPutForm reservations 4
put_reservations = record { source = λ s. refl; filter = λ s v i r. refl; project = λ s u v i j. refl }

pub whole_reservations : IsWhole reservations (cols 1 1 7)
whole_reservations s v params = refl

-- a delete in this table sets off nothing
pub frees_reservations : (olds : List Row) → works hub_schema Enforced 0 14 olds [] ≡ []
unfolding same_name joined
frees_reservations olds = refl

pub reservations_made : (old new : Trees) (made : List ReservationRow) → rows_in reservations new ≡ made → Spares hub_schema 14 old new → rows_of new ≡ record (rows_of old) { reservations = made }
reservations_made old new made rows frame = λ i. record (rows_of (rest_is (14 ∷ []) old new (spared 14 old new frame) i)) { reservations = rows i }

pub puts_reservation : (r : ReservationRow) → Means sql_reservations.PUT.now (reservations.row r) (IsMade (λ rows. record rows { reservations = put (by_key reservation_key) r rows.reservations }))
puts_reservation r = means_as (puts 7 reservations on_reservations sql_reservations.PUT.now (λ e. cc) 4 put_reservations texts.put_reservation_is r) (λ old new h. reservations_made old new _ h.rows h.frame)

pub drops_reservation : (op station : List ℕ) (n : ℕ) → Means sql_reservations.DROP.now (Text op ∷ Text station ∷ Int (unshifted n) ∷ []) (IsMade (λ rows. record rows { reservations = filter (λ r. not (bytes_eq r.op op && is_reservation station n r)) rows.reservations }))
drops_reservation op station n =
    means_as (drops 7 reservations on_reservations sql_reservations.DROP.now (λ e. cc) (where_is 0 (1 ∷ 2 ∷ 3 ∷ [])) (Text op ∷ Text station ∷ Int (unshifted n) ∷ []) (λ r. bytes_eq r.op op && is_reservation station n r) (tests.of_reservation op station n) frees_reservations texts.drop_reservation_is)
    (λ old new h. reservations_made old new _ h.rows h.frame)

pub drops_reservations : (op station : List ℕ) → Means sql_reservations.DROP_ALL.now (Text op ∷ Text station ∷ []) (IsMade (λ rows. record rows { reservations = without (λ r. r.op) op (λ r. bytes_eq r.station station) rows.reservations }))
drops_reservations op station =
    means_as (drops 7 reservations on_reservations sql_reservations.DROP_ALL.now (λ e. cc) (where_is 0 (1 ∷ 2 ∷ [])) (Text op ∷ Text station ∷ []) (λ r. bytes_eq r.op op && bytes_eq r.station station) (tests.of_reservations op station) frees_reservations texts.drop_reservations_is)
    (λ old new h. reservations_made old new _ h.rows h.frame)

pub reads_reservation : (op station : List ℕ) (n : ℕ) → ReadsRows sql_reservations.FIND.now (Text op ∷ Text station ∷ Int (unshifted n) ∷ Int (unshifted n) ∷ []) reservations (λ r. bytes_eq r.op op && is_reservation station n r)
reads_reservation op station n = record { at = 7; is = on_reservations; wanted = where_is 0 (1 ∷ 2 ∷ []) ++ range_is 2 3; project = cols 1 1 7; whole = whole_reservations; order = by_column 3 ∷ []; names = names_of hub_reservation; text = texts.find_reservations_is; test = tests.one_reservation op station n }

pub reads_reservations : (op station : List ℕ) → ReadsRows sql_reservations.FIND.now (Text op ∷ Text station ∷ Int (negsuc 2147483647) ∷ Blob [] ∷ []) reservations (λ r. bytes_eq r.op op && bytes_eq r.station station)
reads_reservations op station = record { at = 7; is = on_reservations; wanted = where_is 0 (1 ∷ 2 ∷ []) ++ range_is 2 3; project = cols 1 1 7; whole = whole_reservations; order = by_column 3 ∷ []; names = names_of hub_reservation; text = texts.find_reservations_is; test = tests.all_reservations op station }

-- ---- local lists

pub on_lists : IsTypedTable hub_schema hub_good 8 lists
on_lists = record {
  key_row = λ s. refl;
  row_key = λ s. refl;
  long = λ s. refl;
  round = λ s. refl;
  casts = λ s. rw (cast_int (pos s.version)) refl;
  good_is = refl;
  here = refl;
  listed = inr (inr (inr (inr (inr (inr (inr (inr (inl refl))))))));
  index = _;
  guarded = inr (inr (inr (inr (inr (inr (inr (inr (inl refl))))))));
  guards_it = refl;
  columns = refl;
  order = refl;
  orders = all_plain;
  base = λ db. refl;
  counted = refl;
  still = λ olds news some. rw some refl;
}

pub put_lists : IsPutForm lists 1
put_lists = record { source = λ s. refl; filter = λ s v i r. refl; project = λ s u v i j. refl }

pub whole_lists : IsWhole lists (cols 1 1 3)
whole_lists s v params = refl

pub puts_list : (l : ListHead) → Means sql_lists.PUT.now (lists.row l) (IsPutIn lists l)
puts_list l = puts 8 lists on_lists sql_lists.PUT.now (λ e. cc) 1 put_lists texts.put_list_is l

pub reads_list : (op station : List ℕ) → ReadsRows sql_lists.FIND.now (Text op ∷ Text station ∷ []) lists (λ l. bytes_eq l.op op && bytes_eq l.station station)
reads_list op station = record { at = 8; is = on_lists; wanted = where_is 0 (1 ∷ 2 ∷ []); project = cols 1 1 3; whole = whole_lists; order = []; names = names_of hub_list; text = texts.find_list_is; test = tests.of_lists op station }

-- ---- entries of local lists

pub on_entries : IsTypedTable hub_schema hub_good 9 entries
on_entries = record {
  key_row = λ s. refl;
  row_key = λ s. refl;
  long = λ s. refl;
  round = λ s. rw (count_back s.entry.info.expiry_date, text_back s.entry.info.parent_id_tag, judged_back s.entry.info.status) refl;
  casts = λ s. rw (count_cast s.entry.info.expiry_date, text_cast s.entry.info.parent_id_tag) refl;
  good_is = refl;
  here = refl;
  listed = inr (inr (inr (inr (inr (inr (inr (inr (inr (inl refl)))))))));
  index = _;
  guarded = inr (inr (inr (inr (inr (inr (inr (inr (inr (inl refl)))))))));
  guards_it = refl;
  columns = refl;
  order = refl;
  orders = all_plain;
  base = λ db. refl;
  counted = refl;
  still = λ olds news some. rw some refl;
}

pub put_entries : IsPutForm entries 4
put_entries = record { source = λ s. refl; filter = λ s v i r. refl; project = λ s u v i j. refl }

pub whole_entries : IsWhole entries (cols 1 1 7)
whole_entries s v params = refl

-- a delete in this table sets off nothing
pub frees_entries : (olds : List Row) → works hub_schema Enforced 0 18 olds [] ≡ []
unfolding same_name joined
frees_entries olds = refl

pub adds_entry : (e : EntryRow) → Means sql_list_entries.ADD.now (entries.row e) (IsPutIn entries e)
adds_entry e = adds 9 entries on_entries sql_list_entries.ADD.now (λ e. cc) 4 put_entries texts.add_list_entry_is e

pub drops_entries : (op station : List ℕ) → Means sql_list_entries.DROP.now (Text op ∷ Text station ∷ []) (IsDropped entries (λ e. bytes_eq e.op op && bytes_eq e.station station))
drops_entries op station = drops 9 entries on_entries sql_list_entries.DROP.now (λ e. cc) (where_is 0 (1 ∷ 2 ∷ [])) (Text op ∷ Text station ∷ []) (λ e. bytes_eq e.op op && bytes_eq e.station station) (tests.of_entries op station) frees_entries texts.drop_entries_is

pub reads_entries : (op station : List ℕ) → ReadsRows sql_list_entries.LIST.now (Text op ∷ Text station ∷ []) entries (λ e. bytes_eq e.op op && bytes_eq e.station station)
reads_entries op station = record { at = 9; is = on_entries; wanted = where_is 0 (1 ∷ 2 ∷ []); project = cols 1 1 7; whole = whole_entries; order = by_column 3 ∷ []; names = names_of hub_list_entry; text = texts.list_entries_is; test = tests.of_entries op station }
