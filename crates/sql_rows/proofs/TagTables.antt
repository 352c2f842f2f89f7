-- Tags and grants: their typed tables, and what the texts that write and show them mean, but the one that drops a tag.
use Rattle.std.proofs.Common.{◌&&◌, ◌++◌, ◌∷◌, ◌≡◌, ℕ, List, [], option_map, refl, inl, inr, filter, not, true}
use Rattle.sqlite_value.specs.Order.{Row}
use Rattle.sqlite_schema.specs.declared.schema.Keys.TheVariants.{Enforced}
use Rattle.sqlite_schema.specs.Names.{same_name}
use Rattle.sqlite_value.specs.Keys.{joined}
use Rattle.sqlite_rules.specs.Action.{works}
use Rattle.sql_tables.specs.Tables.{hub_schema, names_of, hub_grant, hub_tag}
use Rattle.sql_tables.specs.Forms.{cols, where_is, range_is, by_column}
use Rattle.sql_rows.specs.TypedTables.{hub_good, tags, grants, rows_of}
use Rattle.sql_rows.proofs.ValueLaws.{text_cast, count_cast, flag_cast, text_back, count_back, flag_back}
use Rattle.sql_rows.proofs.TypedTableLemmas.{IsTypedTable}
use Rattle.sql_rows.proofs.PutLemmas.{IsPutForm}
use Rattle.sql_rows.proofs.ReadLaws.{IsWhole}
use Rattle.std.specs.Str.{bytes_eq}
use Rattle.sqlite_value.specs.declared.value.Value.TheVariants.{Text, Blob}
use Rattle.sqlite_trees.specs.Tree.{Trees}
use Rattle.hub_rows.specs.declared.tag_row.TagRow.{TagRow}
use Rattle.hub_rows.specs.declared.grant_row.GrantRow.{GrantRow}
use Rattle.hub_rows.specs.Grants.{is_grant}
use Rattle.hub_rows.specs.Keyed.{by_key, put}
use Rattle.hub_rows.specs.Rows.{tag_key, grant_key}
use Rattle.sql_tables.specs.declared.grants.TheConstants as sql_grants
use Rattle.sql_tables.specs.declared.tags.TheConstants as sql_tags
use Rattle.sql_tables.proofs.Texts as texts
use Rattle.sql_rows.specs.TypedTable.{rows_in, Spares}
use Rattle.sql_rows.specs.Kept.{IsMade}
use Rattle.sql_rows.proofs.StoreLemmas.{Means, means_as}
use Rattle.sql_rows.proofs.Writes.{adds, puts, drops}
use Rattle.sql_rows.proofs.Selects.{ReadsRows}
use Rattle.sql_rows.proofs.Tests as tests
use Rattle.sql_rows.proofs.HubTables.{all_plain, rest_is, spared}

-- ---- tags

pub on_tags : IsTypedTable hub_schema hub_good 3 tags
on_tags = record {
  key_row = λ t. refl;
  row_key = λ t. refl;
  long = λ t. refl;
  round = λ t. rw (text_back t.tag.parent, flag_back t.tag.blocked, count_back t.tag.expiry) refl;
  casts = λ t. rw (text_cast t.tag.parent, text_cast (option_map Rattle.ocpp_types.specs.TagKey.key_of t.tag.parent), flag_cast t.tag.blocked, count_cast t.tag.expiry) refl;
  good_is = refl;
  here = refl;
  listed = inr (inr (inr (inl refl)));
  index = _;
  guarded = inr (inr (inr (inl refl)));
  guards_it = refl;
  columns = refl;
  order = refl;
  orders = all_plain;
  base = λ db. refl;
  counted = refl;
  still = λ olds news some. rw some refl;
}

pub put_tags : IsPutForm tags 5
put_tags = record { source = λ t. refl; filter = λ t v i r. refl; project = λ t u v i j. refl }

pub whole_tags : IsWhole tags (cols 1 1 7)
whole_tags t v params = refl

pub tags_made : (old new : Trees) (made : List TagRow) → rows_in tags new ≡ made → Spares hub_schema 6 old new → rows_of new ≡ record (rows_of old) { tags = made }
tags_made old new made rows frame = λ i. record (rows_of (rest_is (6 ∷ []) old new (spared 6 old new frame) i)) { tags = rows i }

pub puts_tag : (r : TagRow) → Means sql_tags.PUT.now (tags.row r) (IsMade (λ rows. record rows { tags = put (by_key tag_key) r rows.tags }))
puts_tag r = means_as (puts 3 tags on_tags sql_tags.PUT.now (λ e. cc) 5 put_tags texts.put_tag_is r) (λ old new h. tags_made old new _ h.rows h.frame)

pub adds_tag : (r : TagRow) → Means sql_tags.ADD.now (tags.row r) (IsMade (λ rows. record rows { tags = put (by_key tag_key) r rows.tags }))
adds_tag r = means_as (adds 3 tags on_tags sql_tags.ADD.now (λ e. cc) 5 put_tags texts.add_tag_is r) (λ old new h. tags_made old new _ h.rows h.frame)

pub reads_tag : (op key : List ℕ) → ReadsRows sql_tags.FIND.now (Text op ∷ Text key ∷ Text key ∷ []) tags (λ r. bytes_eq r.op op && bytes_eq r.key key)
reads_tag op key = record { at = 3; is = on_tags; wanted = where_is 0 (1 ∷ []) ++ range_is 1 2; project = cols 1 1 7; whole = whole_tags; order = by_column 2 ∷ []; names = names_of hub_tag; text = texts.find_tags_is; test = tests.one_tag op key }

pub reads_tags : (op : List ℕ) → ReadsRows sql_tags.FIND.now (Text op ∷ Text [] ∷ Blob [] ∷ []) tags (λ r. bytes_eq r.op op && true)
reads_tags op = record { at = 3; is = on_tags; wanted = where_is 0 (1 ∷ []) ++ range_is 1 2; project = cols 1 1 7; whole = whole_tags; order = by_column 2 ∷ []; names = names_of hub_tag; text = texts.find_tags_is; test = tests.all_tags op }

-- ---- grants

pub on_grants : IsTypedTable hub_schema hub_good 4 grants
on_grants = record {
  key_row = λ g. refl;
  row_key = λ g. refl;
  long = λ g. refl;
  round = λ g. rw (count_back g.until) refl;
  casts = λ g. rw (count_cast g.until) refl;
  good_is = refl;
  here = refl;
  listed = inr (inr (inr (inr (inl refl))));
  index = _;
  guarded = inr (inr (inr (inr (inl refl))));
  guards_it = refl;
  columns = refl;
  order = refl;
  orders = all_plain;
  base = λ db. refl;
  counted = refl;
  still = λ olds news some. rw some refl;
}

pub put_grants : IsPutForm grants 1
put_grants = record { source = λ g. refl; filter = λ g v i r. refl; project = λ g u v i j. refl }

pub whole_grants : IsWhole grants (cols 1 1 4)
whole_grants g v params = refl

-- a delete in this table sets off nothing
pub frees_grants : (olds : List Row) → works hub_schema Enforced 0 8 olds [] ≡ []
unfolding same_name joined
frees_grants olds = refl

pub grants_made : (old new : Trees) (made : List GrantRow) → rows_in grants new ≡ made → Spares hub_schema 8 old new → rows_of new ≡ record (rows_of old) { grants = made }
grants_made old new made rows frame = λ i. record (rows_of (rest_is (8 ∷ []) old new (spared 8 old new frame) i)) { grants = rows i }

pub puts_grant : (r : GrantRow) → Means sql_grants.PUT.now (grants.row r) (IsMade (λ rows. record rows { grants = put (by_key grant_key) r rows.grants }))
puts_grant r = means_as (puts 4 grants on_grants sql_grants.PUT.now (λ e. cc) 1 put_grants texts.put_grant_is r) (λ old new h. grants_made old new _ h.rows h.frame)

pub drops_grant : (op key to : List ℕ) → Means sql_grants.DROP.now (Text op ∷ Text key ∷ Text to ∷ []) (IsMade (λ rows. record rows { grants = filter (λ r. not (bytes_eq r.op op && is_grant key to r)) rows.grants }))
drops_grant op key to =
    means_as (drops 4 grants on_grants sql_grants.DROP.now (λ e. cc) (where_is 0 (1 ∷ 2 ∷ 3 ∷ [])) (Text op ∷ Text key ∷ Text to ∷ []) (λ r. bytes_eq r.op op && is_grant key to r) (tests.of_grant op key to) frees_grants texts.drop_grant_is)
    (λ old new h. grants_made old new _ h.rows h.frame)

pub reads_grant : (op key to : List ℕ) → ReadsRows sql_grants.FIND.now (Text op ∷ Text key ∷ Text to ∷ []) grants (λ r. bytes_eq r.op op && is_grant key to r)
reads_grant op key to = record { at = 4; is = on_grants; wanted = where_is 0 (1 ∷ 2 ∷ 3 ∷ []); project = cols 1 1 4; whole = whole_grants; order = []; names = names_of hub_grant; text = texts.find_grant_is; test = tests.of_grant op key to }

pub reads_grants : (op : List ℕ) → ReadsRows sql_grants.LIST.now (Text op ∷ []) grants (λ r. bytes_eq r.op op && true)
reads_grants op = record { at = 4; is = on_grants; wanted = where_is 0 (1 ∷ []); project = cols 1 1 4; whole = whole_grants; order = by_column 2 ∷ by_column 3 ∷ []; names = names_of hub_grant; text = texts.list_grants_is; test = tests.all_grants op }

pub reads_received : (to key : List ℕ) → ReadsRows sql_grants.FIND_RECEIVED.now (Text to ∷ Text key ∷ Text key ∷ []) grants (λ r. bytes_eq r.to to && bytes_eq r.key key)
reads_received to key = record { at = 4; is = on_grants; wanted = where_is 0 (3 ∷ []) ++ range_is 1 2; project = cols 1 1 4; whole = whole_grants; order = by_column 2 ∷ by_column 1 ∷ []; names = names_of hub_grant; text = texts.find_received_is; test = tests.received to key }

pub reads_all_received : (to : List ℕ) → ReadsRows sql_grants.FIND_RECEIVED.now (Text to ∷ Text [] ∷ Blob [] ∷ []) grants (λ r. bytes_eq r.to to)
reads_all_received to = record { at = 4; is = on_grants; wanted = where_is 0 (3 ∷ []) ++ range_is 1 2; project = cols 1 1 4; whole = whole_grants; order = by_column 2 ∷ by_column 1 ∷ []; names = names_of hub_grant; text = texts.find_received_is; test = tests.all_received to }
