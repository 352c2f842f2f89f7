-- The list of tags that a station keeps (OCPP 1.6, SendLocalList).
use Rattle.std.specs.Prelude.{ℕ, ℤ, pos, List, [], ◌∷◌, codes, Bool, false, ◌||◌, if◌then◌else◌, Option, Some, None, option_and_then, nat_eq, unwrap_or}
use Rattle.std.specs.Cmp.Lexicographic.{pointwise}
use Rattle.std.specs.List.{list_any}
use Rattle.std.specs.Option.{option_or}
use Rattle.ocpp_types.specs.TagKey.{key_of}
use Rattle.ocpp_types.specs.declared.id_tag_info.IdTagInfo.{IdTagInfo}
use Rattle.ocpp_payload.specs.Holds.{Holds, first_bad, never, holds_integer_within, holds_list, holds_name}
use Rattle.ocpp_payload.specs.Table.{Form, end, must, may, also, bad_member, holds_object}
use Rattle.ocpp_payload.specs.TagInfo.{id_tag_info}
use Rattle.operator_cmds.specs.Choices.{update_type_name, update_types}
use Rattle.operator_cmds.specs.Forms.{holds_id_tag}
use Rattle.operator_cmds.specs.declared.choices.UpdateType.{UpdateType}
use Rattle.operator_cmds.specs.declared.choices.UpdateType.TheVariants.{Differential, Full}
use Rattle.operator_cmds.specs.declared.local_list.AuthorizationData.{AuthorizationData}

-- ---- an entry

-- the type AuthorizationData
abbrev pub authorization_data : Form AuthorizationData
authorization_data = record {
  table =
      must (codes "idTag") holds_id_tag (λ e. e.id_tag)
      (may (codes "idTagInfo") (holds_object id_tag_info) (λ e. e.id_tag_info)
      end);
  make = λ tag info. record { id_tag = tag; id_tag_info = info };
}

-- an entry of a full list has to say something of its tag; one of a differential list may take the tag out
abbrev pub missing_info : UpdateType → Option IdTagInfo → Option (List ℕ)
missing_info Full None = Some (codes "idTagInfo")
missing_info Full (Some info) = None
missing_info Differential info = None

-- the first bad member of an entry; where its idTagInfo is missing, none of that can be bad
abbrev pub bad_entry : UpdateType → AuthorizationData → Option (List ℕ)
bad_entry update e = option_or (bad_member authorization_data e) (missing_info update e.id_tag_info)

-- ---- all entries

-- two entries whose tags have the same key
abbrev pub same_key : AuthorizationData → AuthorizationData → Bool
same_key e f = pointwise nat_eq (key_of e.id_tag) (key_of f.id_tag)

-- an entry has the key of a later one
abbrev pub repeats_key : List AuthorizationData → Bool
repeats_key [] = false
repeats_key (e ∷ es) = list_any (same_key e) es || repeats_key es

-- the list of entries is never bad as a whole; what is bad of it comes after the type of the update
abbrev holds_entries : Holds (List AuthorizationData)
holds_entries =
    let entries = holds_list (holds_object authorization_data) in
    record { reads = entries.reads; bad = never; json = entries.json; plain = entries.plain }

-- ---- the command

-- the version that the list has then, its entries if it isn't left out, and whether it is set anew or changed
pub record ListUpdate : Type 0 where
  pub list_version : ℤ
  pub entries : Option (List AuthorizationData)
  pub update_type : UpdateType

-- the first bad member of the entries
abbrev pub bad_of_entries : ListUpdate → Option (List ℕ)
bad_of_entries c = option_and_then (first_bad (bad_entry c.update_type)) c.entries

-- the list, where a key is repeated
abbrev pub bad_of_keys : ListUpdate → Option (List ℕ)
bad_of_keys c = if repeats_key (unwrap_or c.entries []) then Some (codes "localAuthorizationList") else None

-- SendLocalList.req
abbrev pub send_local_list : Form ListUpdate
send_local_list = record {
  table =
      must (codes "listVersion") (holds_integer_within (pos 1) (pos 2147483647)) (λ c. c.list_version)
      (may (codes "localAuthorizationList") holds_entries (λ c. c.entries)
      (must (codes "updateType") (holds_name update_types update_type_name) (λ c. c.update_type)
      (also bad_of_entries
      (also bad_of_keys
      end))));
  make = λ version entries update. record { list_version = version; entries = entries; update_type = update };
}
