-- The rule of each request of an operator that edits records.
use Rattle.std.specs.Prelude.{ℕ, List, Bool, Result}
use Rattle.ocpp_types.specs.declared.refusal.Refusal.{Refusal}
use Rattle.hub_rows.specs.declared.change.Edit.{Edit}
use Rattle.hub_rows.specs.Lookups.{Lookups}
use Rattle.charging.specs.Close.{close_rule}
use Rattle.id_tags.specs.Plan.{put_rule, drop_rule, grant_rule, revoke_rule}
use Rattle.registry.specs.PolicySet.{policy_rule}
use Rattle.registry.specs.ReaderSet.{reader_rule}
use Rattle.registry.specs.StationAdded.{add_rule}
use Rattle.hub_events.specs.declared.event.Admin.{Admin}
use Rattle.hub_events.specs.declared.event.Admin.TheVariants as admin

-- the rule of each edit
abbrev pub admin_rule : (List ℕ → Bool) → Admin → ℕ → Lookups → Result Edit Refusal
admin_rule is_hosted (admin.StationAdd station policy interval) m l = add_rule station policy interval l
admin_rule is_hosted (admin.StationPolicy station policy interval) m l = policy_rule station policy interval l
admin_rule is_hosted (admin.StationReader station reader) m l = reader_rule station reader l
admin_rule is_hosted (admin.TagPut tag) m l = put_rule tag
admin_rule is_hosted (admin.TagDrop tag) m l = drop_rule tag l
admin_rule is_hosted (admin.Grant grant) m l = grant_rule is_hosted grant l
admin_rule is_hosted (admin.Revoke tag to) m l = revoke_rule tag to l
admin_rule is_hosted (admin.TransactionClose station number meter_stop) m l = close_rule station number meter_stop m l
