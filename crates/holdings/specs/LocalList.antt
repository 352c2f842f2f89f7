-- What a station's list is after the station has accepted a command (OCPP 1.6, section 5.15).
use Rattle.std.specs.Prelude.{ℕ, nat_le, ℤ, pos, negsuc, List, [], ◌++◌, Bool, not, ◌&&◌, if◌then◌else◌, Option, Some, None, option_map, unwrap_or, filter}
use Rattle.std.specs.List.{filter_map, list_any}
use Rattle.std.specs.Str.{bytes_eq}
use Rattle.ocpp_types.specs.TagKey.{key_of}
use Rattle.hub_rows.specs.declared.change.Edit.{Edit}
use Rattle.hub_rows.specs.declared.change.Edit.TheVariants.{Holdings}
use Rattle.hub_rows.specs.declared.change.HoldingEdit.TheVariants.{ListSet}
use Rattle.hub_rows.specs.declared.list_row.LocalList.{LocalList}
use Rattle.hub_rows.specs.declared.list_row.LocalTag.{LocalTag}
use Rattle.hub_rows.specs.Keyed.{by_key, put_all}
use Rattle.hub_rows.specs.LocalLists.{entry_key}
use Rattle.operator_cmds.specs.LocalList.{ListUpdate}
use Rattle.operator_cmds.specs.declared.choices.UpdateType.{UpdateType}
use Rattle.operator_cmds.specs.declared.choices.UpdateType.TheVariants.{Differential, Full}
use Rattle.operator_cmds.specs.declared.local_list.AuthorizationData.{AuthorizationData}

-- entries in the order of their keys
abbrev pub in_key_order : List LocalTag → List LocalTag
in_key_order entries = put_all (by_key entry_key) entries []

-- whether an entry of a command is of that key
abbrev pub names : List AuthorizationData → List ℕ → Bool
names sent key = list_any (λ e. bytes_eq (key_of e.id_tag) key) sent

-- the kept entries whose keys a command doesn't name
abbrev pub not_named : List AuthorizationData → List LocalTag → List LocalTag
not_named sent kept = filter (λ e. not (names sent (key_of e.tag))) kept

-- an entry of a command, if it has idTagInfo
abbrev pub local_tag : AuthorizationData → Option LocalTag
local_tag e = option_map (λ info. record { tag = e.id_tag; info = info }) e.id_tag_info

-- those of a command
abbrev pub with_info : List AuthorizationData → List LocalTag
with_info sent = filter_map local_tag sent

-- the entries that a command builds on
abbrev pub kept_for : UpdateType → Option LocalList → List LocalTag
kept_for Full kept = []
kept_for Differential None = []
kept_for Differential (Some list) = list.entries

-- the entries after a command
abbrev pub entries_after : List LocalTag → List AuthorizationData → List LocalTag
entries_after kept sent = in_key_order (not_named sent kept ++ with_info sent)

-- a version, 1 to 2147483647
abbrev pub version_of : ℤ → Option ℕ
version_of (pos n) = if nat_le 1 n && nat_le n 2147483647 then Some n else None
version_of (negsuc n) = None

-- the list of a station that has accepted a command; a command with a version out of its range edits nothing
abbrev pub list_set : List ℕ → Option LocalList → ListUpdate → Option Edit
list_set station kept c = option_map (λ version. Holdings (ListSet station (record { version = version; entries = entries_after (kept_for c.update_type kept) (unwrap_or c.entries []) }))) (version_of c.list_version)
