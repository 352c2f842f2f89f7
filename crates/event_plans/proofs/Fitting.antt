-- What the table changes fits the records.
use Rattle.std.specs.Prelude.{◌≡◌, ◌≢◌, ◌⊎◌, ℕ, ◌+◌, nat_le, List, [], ◌∷◌, ◌++◌, filter, map, codes, cond, Option, None, Some, option_map, option_and_then, unwrap_or, Bool, true, false, Result, Ok, Err, is_some, IsSome, IfSome}
use Rattle.std.specs.Option.{ForSome}
use Rattle.std.proofs.lemmas.Bool.{leb-true, leb-false, true≢false}
use Rattle.std.specs.Str.{bytes_eq}
use Rattle.std.proofs.Common.{refl, sym, ◌∙◌, ap, subst, arith, inl, inr, not}
use Rattle.serde_json.specs.Data.{Data}
use Rattle.ocpp_types.specs.declared.error_code.ErrorCode.TheVariants as code
use Rattle.ocpp_types.specs.declared.policy.Policy.{Policy}
use Rattle.ocpp_types.specs.declared.refusal.Refusal.{Refusal}
use Rattle.ocpp_types.specs.declared.refusal.Refusal.TheVariants.{BadField, HasOpenTransactions, NoSuchOperator, NoSuchStation, NoSuchTransaction, NotAllowedNow, SelfGrant, NoSuchGrant}
use Rattle.ocpp_frame.specs.declared.frame.Frame.{Frame}
use Rattle.ocpp_frame.specs.declared.frame.Frame.TheVariants.{Call, CallResult, CallError, Broken, Ignored}
use Rattle.ocpp_frame.specs.Frame.{frame}
use Rattle.ocpp_payload.specs.declared.action.Action.{Action}
use Rattle.ocpp_payload.specs.declared.class_of_action.ActionClass.{ActionClass}
use Rattle.ocpp_payload.specs.declared.class_of_action.ActionClass.TheVariants.{Known, NotSupported, NotImplemented}
use Rattle.ocpp_payload.specs.declared.fault.FieldFault.{FieldFault}
use Rattle.ocpp_payload.specs.declared.request.Request.{Request}
use Rattle.ocpp_payload.specs.declared.request.Request.TheVariants.{Authorize, BootNotification, DataTransfer, DiagnosticsStatusNotification, FirmwareStatusNotification, Heartbeat, MeterValues, StartTransaction, StatusNotification, StopTransaction}
use Rattle.ocpp_payload.specs.ActionClass.{action_class}
use Rattle.hub_rows.specs.declared.change.Edit.{Edit}
use Rattle.hub_rows.specs.declared.change.Edit.TheVariants.{Stations, Tags, Transactions, Holdings}
use Rattle.hub_rows.specs.declared.change.StationEdit.TheVariants.{StationAdded, BootSeen, PolicySet, ReaderSet, StationDropped, ConnectorSeen, ReportSeen}
use Rattle.hub_rows.specs.declared.change.TagEdit.TheVariants.{TagPut, TagDropped, GrantPut, GrantDropped}
use Rattle.hub_rows.specs.declared.change.TransactionEdit.TheVariants.{TxStarted, TxStopped, MeterValuesAdded, Forgotten}
use Rattle.hub_rows.specs.declared.change.HoldingEdit.TheVariants.{ReservationPut, ReservationDropped, ListSet}
use Rattle.hub_rows.specs.declared.change.StationEdit.TheVariants as station_edit
use Rattle.hub_rows.specs.declared.change.TagEdit.TheVariants as tag_edit
use Rattle.hub_rows.specs.declared.meter_value_row.MeterValue.{MeterValue}
use Rattle.hub_rows.specs.declared.meter_value_row.MeterValueRow.{MeterValueRow}
use Rattle.hub_rows.specs.declared.station_row.Registration.{Registration}
use Rattle.hub_rows.specs.declared.tx_row.TxState.{TxState}
use Rattle.hub_rows.specs.Lookups.{Lookups, forgettable_in, lookups_at}
use Rattle.ocpp_types.specs.declared.authorization_status.AuthorizationStatus.{AuthorizationStatus}
use Rattle.ocpp_types.specs.declared.authorization_status.AuthorizationStatus.TheVariants.{Accepted, Blocked, Expired, Invalid, ConcurrentTx}
use Rattle.std.specs.List.{AllByRecursion}
use Rattle.hub_rows.proofs.ForgetLaws.{forgettable-stopped}
use Rattle.hub_rows.specs.declared.forgettable.Forgettable.{Forgettable}
use Rattle.hub_rows.specs.Forgetting.{has_no_rows, numbers_of}
use Rattle.hub_rows.specs.MeterValues.{all_taken}
use Rattle.hub_rows.specs.Changes.{EditFits, IsAnother, IsOpen, IsStopped}
use Rattle.hub_rows.specs.Grants.{granted_tag_in}
use Rattle.hub_rows.specs.Tags.{own_tag_in}
use Rattle.hub_rows.specs.WellFormed.{WellFormedRows}
use Rattle.hub_rows.specs.declared.info.Info.{Info}
use Rattle.hub_rows.proofs.GrantLaws.{granted_tag-owner, own_tag-owner}
use Rattle.hub_rows.specs.Transactions.{AreNext, last_of_all, tx_in}
use Rattle.hub_rows.specs.declared.tx_row.StartKey.{StartKey}
use Rattle.ocpp_payload.specs.declared.conf.Conf.TheVariants as conf
use Rattle.ocpp_payload.specs.declared.request.StartTransaction.{StartTransaction as StartRequest}
use Rattle.ocpp_payload.specs.declared.request.StopTransaction.{StopTransaction as StopRequest}
use Rattle.ocpp_payload.specs.declared.request.MeterValues.{MeterValues as MeterValuesRequest}
use Rattle.registry.specs.declared.decision.Reply.TheVariants.{Conf}
use Rattle.id_tags.specs.Judge.{found_tag, judge_rule, judge_with_owner, kept_owner, own_or_granted, owner_of}
use Rattle.id_tags.specs.declared.judgement.Purpose.TheVariants as purpose
use Rattle.registry.specs.InternalError.{internal_error}
use Rattle.registry.specs.declared.station_added.TheConstants.{MAX_INTERVAL}
use Rattle.charging.specs.Close.{close_edit, close_rule, closed_at, is_meter, meter_at_close}
use Rattle.charging.specs.Forget.{forget_rule}
use Rattle.charging.specs.Numbers.{has_room}
use Rattle.charging.specs.MeterValues.{kept_values, meter_values_rule}
use Rattle.charging.specs.Start.{start_rule, start_key, start_by_number, begin_judged}
use Rattle.charging.specs.Stop.{stop_rule, stop_of, number_of_id, edit_by_number, edit_by_state, end_edit}
use Rattle.hub_rows.specs.Rows.{Rows}
use Rattle.hub_rows.proofs.ListLaws.{text_itself}
use Rattle.registry.specs.Allowed.{is_allowed}
use Rattle.ocpp_types.specs.TagKey.{key_of}
use Rattle.hub_rows.specs.declared.tag_row.Tag.{Tag}
use Rattle.id_tags.specs.Plan.{put_rule, drop_rule, grant_rule, grant_edit, revoke_rule, is_tag, is_parent, drop_edit}
use Rattle.id_tags.specs.declared.plan.Grant.{Grant}
use Rattle.registry.specs.PolicySet.{policy_rule, policy_edit, is_kept_from}
use Rattle.registry.specs.ReaderSet.{reader_rule, reader_edit}
use Rattle.registry.specs.StationDropped.{station_drop_rule, dropped_edit, is_needed}
use Rattle.registry.specs.StationAdded.{add_rule, new_station_edit, is_station_name}
use Rattle.hub_events.specs.declared.event.HistoryEnds.{HistoryEnds}
use Rattle.hub_events.specs.declared.event.What.{What}
use Rattle.hub_events.specs.declared.event.What.TheVariants as what
use Rattle.hub_events.specs.declared.event.Admin.{Admin}
use Rattle.hub_events.specs.declared.event.Admin.TheVariants as admin
use Rattle.station_calls.specs.Decided.{decision}
use Rattle.station_calls.specs.Vendors.{Answers}
use Rattle.hub_rows.specs.declared.reader_row.Reader.{Reader}
use Rattle.repairs.specs.declared.reading.Reading.{Reading as Taken}
use Rattle.repairs.specs.declared.reading.Reading.TheVariants.{AsSent, Repaired, Refused}
use Rattle.operator_cmds.specs.Answer.{is_accepted, known_members}
use Rattle.operator_cmds.specs.LocalList.{ListUpdate}
use Rattle.operator_cmds.specs.declared.command.Command.{Command}
use Rattle.operator_cmds.specs.declared.command.Command.TheVariants as command
use Rattle.operator_cmds.specs.declared.local_list.AuthorizationData.{AuthorizationData}
use Rattle.operator_cmds.specs.declared.reservations.CancelReservation.{CancelReservation}
use Rattle.operator_cmds.specs.declared.reservations.ReserveNow.{ReserveNow}
use Rattle.holdings.specs.LocalList.{entries_after, kept_for, list_set, not_named, version_of, with_info}
use Rattle.holdings.specs.Reservation.{cancelled, connector_of, put_at, reservation_id, reserved}
use Rattle.holdings.specs.Accepted.{accepted_edit, edit_when_accepted}
use Rattle.holdings.proofs.EntryLaws.{sorted-entries}
use Rattle.hub_rows.specs.LocalLists.{AreEntries}
use Rattle.hub_rows.specs.declared.list_row.LocalTag.{LocalTag}
use Rattle.hub_events.specs.declared.out.Outcome.{Outcome}
use Rattle.hub_events.specs.declared.out.Outcome.TheVariants as outcome
use Rattle.plans.specs.declared.plan.Effect.{Effect}
use Rattle.plans.specs.declared.plan.Effect.TheVariants as effect
use Rattle.plans.specs.declared.plan.Plan.{Plan}
use Rattle.pending_calls.specs.Slot.{answered_command}
use Rattle.operator_plans.specs.Commands.{command_plan, command_rule}
use Rattle.frame_plans.specs.Answers.{edit_by, end_plan, result_edit, result_outcome}
use Rattle.plans.specs.Effects.{edit_effect}
use Rattle.plans.specs.Plans.{connect_plan, error_plan, edit_plan, forget_plan, list_plan, turned_plan, up_to_ends}
use Rattle.plans.specs.Facts.{Facts}
use Rattle.event_plans.specs.Table.{plan}
use Rattle.frame_plans.specs.Frames.{frame_plan, call_plan, as_read, state_plan, payload_plan}
use Rattle.operator_plans.specs.Requests.{admin_rule}
use Rattle.listing_plans.specs.Listing.{rows_rule}

-- the tag of a key, as it is looked up, has that owner
abbrev pub IsOwner : Lookups → List ℕ → List ℕ → Type 0
IsOwner l key a = (owner_of (l.own_tag key) ≡ Some a) ⊎ (owner_of (l.granted_tag key) ≡ Some a)

-- whether a station is connected
abbrev pub connected_in : Facts → List ℕ → Bool
connected_in f station = (f.slot station).is_connected

-- an edit that an operator's look-ups allow at moment m, by which of its stations are connected
abbrev pub FitsLookups : (List ℕ → Bool) → ℕ → Lookups → Edit → Type 0
FitsLookups k m l (Stations (StationAdded station policy interval)) = l.registration station ≡ None
FitsLookups k m l (Stations (BootSeen station boot state)) = IsSome (l.registration station)
FitsLookups k m l (Stations (PolicySet station policy interval)) = IsSome (l.registration station)
FitsLookups k m l (Stations (ReaderSet station reader)) = IsSome (l.registration station)
FitsLookups k m l (Stations (StationDropped station)) = (l.has_open station ≡ false) × (k station ≡ false)
FitsLookups k m l (Stations (ConnectorSeen station connector report)) = IsSome (l.registration station)
FitsLookups k m l (Tags (TagPut key tag)) = key ≡ key_of tag.text
FitsLookups k m l (Tags (TagDropped key)) = Unit {0}
FitsLookups k m l (Tags (GrantPut key to until)) = IsSome (l.own_tag key) × (to ≢ l.op)
FitsLookups k m l (Tags (GrantDropped key to)) = Unit {0}
FitsLookups k m l (Transactions (TxStarted station number start owner)) = IsSome (l.registration station) × AreNext (l.last_tx station) number 1 × (start.id.key ≡ key_of start.tag) × IfSome owner (IsOwner l start.id.key) × IfSome owner (λ a. start.status ≡ Accepted)
FitsLookups k m l (Transactions (TxStopped station number stop first values)) = IsOpen (l.tx station number) × AreNext (l.last_reading station) first (all_taken values) × (stop.moment ≡ m)
FitsLookups k m l (Transactions (MeterValuesAdded station first values)) = IsSome (l.registration station) × AreNext (l.last_reading station) first (all_taken values)
FitsLookups k m l (Transactions (Forgotten station gone)) = (until : ℕ) × (ends : Option HistoryEnds) × (gone ≡ numbers_of (up_to_ends ends (l.forgettable station until)))
FitsLookups k m l (Holdings (ReservationPut station id reservation)) = IsSome (l.registration station)
FitsLookups k m l (Holdings (ReservationDropped station id)) = Unit {0}
FitsLookups k m l (Holdings (ListSet station list)) = IsSome (l.registration station) × AreEntries list.entries
FitsLookups k m l (Stations (ReportSeen station status moment)) = IsSome (l.registration station)

-- an effect that an operator's facts allow at moment m
abbrev pub EffectFits : ℕ → Facts → Effect → Type 0
EffectFits m f effect.Nothing = Unit {0}
EffectFits m f (effect.Edit e) = FitsLookups (connected_in f) m f.lookups e
EffectFits m f (effect.Connect station) = IsSome (f.lookups.registration station)
EffectFits m f (effect.Disconnect station) = Unit {0}
EffectFits m f (effect.Submit station command text) = Unit {0}
EffectFits m f (effect.Answer station id outcome edit) = IfSome edit (FitsLookups (connected_in f) m f.lookups)

abbrev pub PlanFits : ℕ → Facts → Plan → Type 0
PlanFits m f p = EffectFits m f p.effect

edit_fits_as : (m : ℕ) (f : Facts) (o : Option Edit) → IfSome o (FitsLookups (connected_in f) m f.lookups) → EffectFits m f (edit_effect o)
edit_fits_as m f None fits = tt
edit_fits_as m f (Some e) fits = fits

-- numbers that are left
room_fits : (last count : ℕ) → has_room last count ≡ true → AreNext last (last + 1) count
room_fits last count room = inr (record { next = inr refl; from_one = omega arith; to_the_end = omega (arith, leb-true (last + count) last_of_all room) })

-- the owner that is kept is that of the tag
owner_fits : (l : Lookups) (key : List ℕ) (status : AuthorizationStatus) → IfSome (kept_owner status (owner_of (found_tag key l))) (IsOwner l key)
owner_fits l key Accepted = own (l.own_tag key) refl
  where
    some : (o : Option (List ℕ)) (P : List ℕ → Type 0) → ((a : List ℕ) → o ≡ Some a → P a) → IfSome o P
    some None P all = tt
    some (Some a) P all = all a refl

    own : (o : Option Info) → l.own_tag key ≡ o → IfSome (owner_of (own_or_granted o (l.granted_tag key))) (IsOwner l key)
    own (Some info) is = some info.owner (IsOwner l key) (λ a has. inl (ap owner_of is ∙ has))
    own None is = some (owner_of (l.granted_tag key)) (IsOwner l key) (λ a has. inr has)
owner_fits l key Blocked = tt
owner_fits l key Expired = tt
owner_fits l key Invalid = tt
owner_fits l key ConcurrentTx = tt

-- an owner is kept for a start that is Accepted alone
kept_accepted : (status : AuthorizationStatus) (o : Option (List ℕ)) → IfSome (kept_owner status o) (λ a. status ≡ Accepted)
kept_accepted Accepted None = tt
kept_accepted Accepted (Some a) = refl
kept_accepted Blocked o = tt
kept_accepted Expired o = tt
kept_accepted Invalid o = tt
kept_accepted ConcurrentTx o = tt

start_fits : (k : List ℕ → Bool) → (station : List ℕ) (r : StartRequest) (m : ℕ) (l : Lookups) → IsSome (l.registration station) → IfSome (start_rule station r m l).edit (FitsLookups k m l)
start_fits k station r m l here =
    let id : StartKey = start_key r in
    elim (l.same_start station id) as (λ o. IfSome (start_by_number station r id m l o).edit (FitsLookups k m l)) [
      | None ↦ let last = (l.last_tx station) in
          elim (nat_le last_of_all last) as (λ b. nat_le last_of_all last ≡ b → IfSome (cond b internal_error (begin_judged station r id m (last + 1) (judge_with_owner m id.key (purpose.Start None) l))).edit (FitsLookups k m l)) [
            | true ↦ λ full. tt
            | false ↦ λ room. (here, inr (record { next = inr refl; from_one = omega arith; to_the_end = omega (arith, leb-false last_of_all last room) }), refl, owner_fits l id.key (judge_rule m id.key (purpose.Start None) l).status, kept_accepted (judge_rule m id.key (purpose.Start None) l).status (owner_of (found_tag id.key l)))
          ] refl
      | Some n ↦ tt
    ]

meter_values_fit : (k : List ℕ → Bool) → (m : ℕ) (station : List ℕ) (r : MeterValuesRequest) (l : Lookups) → IsSome (l.registration station) → IfSome (meter_values_rule station r l).edit (FitsLookups k m l)
meter_values_fit k m station r l here =
    let values : List MeterValue = kept_values r.connector_id r.transaction_id r.meter_value in
    let last = (l.last_reading station) in
    elim (has_room last (all_taken values)) as (λ b. has_room last (all_taken values) ≡ b → IfSome (cond b (record { reply = Conf conf.Empty; edit = Some (Transactions (MeterValuesAdded station (last + 1) values)) }) internal_error).edit (FitsLookups k m l)) [
      | true ↦ λ room. (here, room_fits last (all_taken values) room)
      | false ↦ λ full. tt
    ] refl

stop_fits : (k : List ℕ → Bool) → (station : List ℕ) (r : StopRequest) (m : ℕ) (l : Lookups) → IfSome (stop_rule station r m l).edit (FitsLookups k m l)
stop_fits k station r m l =
    let last = (l.last_reading station) in
    elim (number_of_id r.transaction_id) as (λ o. IfSome (edit_by_number station r m l o) (FitsLookups k m l)) [
      | None ↦ tt
      | Some n ↦ elim (l.tx station n) as (λ o. l.tx station n ≡ o → IfSome (edit_by_state station r m l n o) (FitsLookups k m l)) [
        | None ↦ λ e. tt
        | Some t ↦ λ e.
            let values : List MeterValue = kept_values t.connector (Some r.transaction_id) r.transaction_data in
            elim t.is_open as (λ b. t.is_open ≡ b → IfSome (cond b (Some (end_edit station r m n t.connector last)) None) (FitsLookups k m l)) [
              | true ↦ λ open_now.
                  let fits : IsOpen (l.tx station n) = subst IsOpen (sym e) open_now in
                  elim (has_room last (all_taken values)) as (λ b. has_room last (all_taken values) ≡ b → FitsLookups k m l (cond b (Transactions (TxStopped station n (stop_of r m) (last + 1) values)) (Transactions (TxStopped station n (stop_of r m) 0 [])))) [
                    | true ↦ λ room. (fits, room_fits last (all_taken values) room, refl)
                    | false ↦ λ full. (fits, inl refl, refl)
                  ] refl
              | false ↦ λ closed. tt
            ] refl
      ] refl
    ]

-- the station is registered so
decided_fits : (answers : Answers) (station : List ℕ) (g : Registration) (r : Request) (m : ℕ) (f : Facts) → IsSome (f.lookups.registration station) → EffectFits m f (edit_effect (decision answers station g r m f.lookups).edit)
decided_fits answers station g (Authorize r) m f here = tt
decided_fits answers station g (BootNotification texts) m f here = here
decided_fits answers station g (DataTransfer r) m f here = tt
decided_fits answers station g (DiagnosticsStatusNotification r) m f here = here
decided_fits answers station g (FirmwareStatusNotification r) m f here = here
decided_fits answers station g Heartbeat m f here = tt
decided_fits answers station g (MeterValues r) m f here = edit_fits_as m f (meter_values_rule station r f.lookups).edit (meter_values_fit (connected_in f) m station r f.lookups here)
decided_fits answers station g (StartTransaction r) m f here = edit_fits_as m f (start_rule station r m f.lookups).edit (start_fits (connected_in f) station r m f.lookups here)
decided_fits answers station g (StatusNotification r) m f here = here
decided_fits answers station g (StopTransaction r) m f here = edit_fits_as m f (stop_rule station r m f.lookups).edit (stop_fits (connected_in f) station r m f.lookups)

payload_fits : (answers : Answers) (station : List ℕ) (g : Registration) (id : List ℕ) (action : Action) (r : Taken) (m : ℕ) (f : Facts) → IsSome (f.lookups.registration station) → PlanFits m f (payload_plan answers station g id action r m f.lookups)
payload_fits answers station g id action (AsSent r) m f here = decided_fits answers station g r m f here
payload_fits answers station g id action (Repaired r fault) m f here = decided_fits answers station g r m f here
payload_fits answers station g id action (Refused fault) m f here = tt

state_fits : (answers : Answers) (station : List ℕ) (o : Option Registration) (id text : List ℕ) (action : Action) (payload : Data) (m : ℕ) (f : Facts) → f.lookups.registration station ≡ o → PlanFits m f (state_plan answers station o id text action payload m f.lookups)
state_fits answers station None id text action payload m f is = tt
state_fits answers station (Some g) id text action payload m f is =
    let read : Taken = as_read (f.lookups.reader station) action m text payload in
    elim (is_allowed g.state action) as (λ b. PlanFits m f (cond b (payload_plan answers station g id action read m f.lookups) (error_plan station id code.SecurityError []))) [
      | true ↦ payload_fits answers station g id action read m f (ap is_some is)
      | false ↦ tt
    ]

call_fits : (answers : Answers) (station id text : List ℕ) (class : ActionClass) (payload : Data) (m : ℕ) (f : Facts) → PlanFits m f (call_plan answers station id text class payload m f.lookups)
call_fits answers station id text (Known action) payload m f = state_fits answers station (f.lookups.registration station) id text action payload m f refl
call_fits answers station id text NotSupported payload m f = tt
call_fits answers station id text NotImplemented payload m f = tt

-- what an answer to an accepted command edits
list_fits : (k : List ℕ → Bool) → (m : ℕ) (station : List ℕ) (c : ListUpdate) (l : Lookups) → IsSome (l.registration station) → IfSome (list_set station (l.local_list station) c) (FitsLookups k m l)
list_fits k m station c l here =
    let kept : List LocalTag = kept_for c.update_type (l.local_list station) in
    let sent : List AuthorizationData = unwrap_or c.entries [] in
    elim (version_of c.list_version) as (λ o. IfSome (option_map (λ version. Holdings (ListSet station (record { version = version; entries = entries_after kept sent }))) o) (FitsLookups k m l)) [
      | None ↦ tt
      | Some version ↦ (here, sorted-entries (not_named sent kept ++ with_info sent))
    ]

put_at_fits : (k : List ℕ → Bool) → (m : ℕ) (station : List ℕ) (c : ReserveNow) (connector : ℕ) (id : Option ℕ) (l : Lookups) → IsSome (l.registration station) → IfSome (put_at station c connector id) (FitsLookups k m l)
put_at_fits k m station c connector None l here = tt
put_at_fits k m station c connector (Some id) l here = here

reserved_fits : (k : List ℕ → Bool) → (m : ℕ) (station : List ℕ) (c : ReserveNow) (l : Lookups) → IsSome (l.registration station) → IfSome (reserved station c) (FitsLookups k m l)
reserved_fits k m station c l here =
    elim (connector_of c.connector_id) as (λ o. IfSome (option_and_then (λ connector. put_at station c connector (reservation_id c.reservation_id)) o) (FitsLookups k m l)) [
      | None ↦ tt
      | Some connector ↦ put_at_fits k m station c connector (reservation_id c.reservation_id) l here
    ]

cancelled_fits : (k : List ℕ → Bool) → (m : ℕ) (station : List ℕ) (c : CancelReservation) (l : Lookups) → IfSome (cancelled station c) (FitsLookups k m l)
cancelled_fits k m station c l = elim (reservation_id c.reservation_id) as (λ o. IfSome (option_map (λ id. Holdings (ReservationDropped station id)) o) (FitsLookups k m l)) [ None ↦ tt | Some id ↦ tt ]

accepted_fits : (k : List ℕ → Bool) → (m : ℕ) (station : List ℕ) (c : Command) (l : Lookups) → IsSome (l.registration station) → IfSome (accepted_edit station c l) (FitsLookups k m l)
accepted_fits k m station (command.CancelReservation c) l here = cancelled_fits k m station c l
accepted_fits k m station (command.ReserveNow c) l here = reserved_fits k m station c l here
accepted_fits k m station (command.SendLocalList c) l here = list_fits k m station c l here
accepted_fits k m station c l here = tt

when_accepted_fits : (k : List ℕ → Bool) → (m : ℕ) (station : List ℕ) (c : Command) (l : Lookups) → IfSome (edit_when_accepted station c l) (FitsLookups k m l)
when_accepted_fits k m station c l =
    elim (is_some (l.registration station)) as (λ t. is_some (l.registration station) ≡ t → IfSome (cond t (accepted_edit station c l) None) (FitsLookups k m l)) [
      | true ↦ λ here. accepted_fits k m station c l here
      | false ↦ λ none. tt
    ] refl

edit_by_fits : (k : List ℕ → Bool) → (m : ℕ) (station : List ℕ) (c : Command) (read : Result Data FieldFault) (l : Lookups) → IfSome (edit_by station c read l) (FitsLookups k m l)
edit_by_fits k m station c (Ok known) l = elim (is_accepted known) as (λ a. IfSome (cond a (edit_when_accepted station c l) None) (FitsLookups k m l)) [ true ↦ when_accepted_fits k m station c l | false ↦ tt ]
edit_by_fits k m station c (Err fault) l = tt

answer_fits : (m : ℕ) (station id : List ℕ) (gives : Command → Outcome) (edits : Command → Option Edit) (o : Option Command) (f : Facts) → ((c : Command) → IfSome (edits c) (FitsLookups (connected_in f) m f.lookups)) → PlanFits m f (end_plan station id gives edits o)
answer_fits m station id gives edits None f fit = tt
answer_fits m station id gives edits (Some c) f fit = fit c

frame_fits : (answers : Answers) (station text : List ℕ) (t : Frame) (m : ℕ) (f : Facts) → PlanFits m f (frame_plan answers station text t m f)
frame_fits answers station text (Call id action payload) m f = call_fits answers station id text (action_class action) payload m f
frame_fits answers station text (CallResult id payload) m f = answer_fits m station id (λ c. result_outcome c payload) (λ c. result_edit station c payload f.lookups) (answered_command id (f.slot station)) f (λ c. edit_by_fits (connected_in f) m station c (known_members c payload) f.lookups)
frame_fits answers station text (CallError id error description) m f = answer_fits m station id (λ c. outcome.Error error description) (λ c. None) (answered_command id (f.slot station)) f (λ c. tt)
frame_fits answers station text (Broken id) m f = tt
frame_fits answers station text Ignored m f = tt

command_fits : (m : ℕ) (station : List ℕ) (c : Command) (n : Result ℕ Refusal) (f : Facts) → PlanFits m f (command_plan station c n)
command_fits m station c (Ok n) f = tt
command_fits m station c (Err refusal) f = tt

add_fits : (m : ℕ) (station : List ℕ) (policy : Policy) (interval : ℕ) (f : Facts) → PlanFits m f (edit_plan (add_rule station policy interval f.lookups))
add_fits m station policy interval f =
    elim (is_station_name station) as (λ b. PlanFits m f (edit_plan (cond b (cond (nat_le interval MAX_INTERVAL) (new_station_edit station policy interval (f.lookups.registration station)) (Err (BadField (codes "interval")))) (Err (BadField (codes "station")))))) [
      | true ↦ elim (nat_le interval MAX_INTERVAL) as (λ b. PlanFits m f (edit_plan (cond b (new_station_edit station policy interval (f.lookups.registration station)) (Err (BadField (codes "interval")))))) [
        | true ↦ elim (f.lookups.registration station) as (λ o. f.lookups.registration station ≡ o → PlanFits m f (edit_plan (new_station_edit station policy interval o))) [
          | None ↦ λ e. e
          | Some r ↦ λ e. tt
        ] refl
        | false ↦ tt
      ]
      | false ↦ tt
    ]

policy_fits : (m : ℕ) (station : List ℕ) (policy : Policy) (interval : ℕ) (f : Facts) → PlanFits m f (edit_plan (policy_rule station policy interval f.lookups))
policy_fits m station policy interval f =
    let kept : Bool = is_kept_from station policy f.lookups in
    elim (f.lookups.registration station) as (λ o. f.lookups.registration station ≡ o → PlanFits m f (edit_plan (policy_edit station policy interval kept o))) [
      | None ↦ λ e. tt
      | Some r ↦ λ e. elim (nat_le interval MAX_INTERVAL) as (λ b. PlanFits m f (edit_plan (cond b (cond kept (Err HasOpenTransactions) (Ok (Stations (station_edit.PolicySet station policy interval)))) (Err (BadField (codes "interval")))))) [
        | true ↦ elim kept as (λ b. PlanFits m f (edit_plan (cond b (Err HasOpenTransactions) (Ok (Stations (station_edit.PolicySet station policy interval)))))) [ true ↦ tt | false ↦ ap is_some e ]
        | false ↦ tt
      ]
    ] refl

reader_fits : (m : ℕ) (station : List ℕ) (reader : Reader) (f : Facts) → PlanFits m f (edit_plan (reader_rule station reader f.lookups))
reader_fits m station reader f =
    elim (f.lookups.registration station) as (λ o. f.lookups.registration station ≡ o → PlanFits m f (edit_plan (reader_edit station reader o))) [
      | None ↦ λ e. tt
      | Some r ↦ λ e. ap is_some e
    ] refl

put_fits : (m : ℕ) (t : Tag) (f : Facts) → PlanFits m f (edit_plan (put_rule t))
put_fits m t f =
    elim (is_tag t.text) as (λ b. PlanFits m f (edit_plan (cond b (cond (is_parent t.parent) (Ok (Tags (tag_edit.TagPut (key_of t.text) t))) (Err (BadField (codes "parent")))) (Err (BadField (codes "tag")))))) [
      | true ↦ elim (is_parent t.parent) as (λ b. PlanFits m f (edit_plan (cond b (Ok (Tags (tag_edit.TagPut (key_of t.text) t))) (Err (BadField (codes "parent")))))) [ true ↦ refl | false ↦ tt ]
      | false ↦ tt
    ]

drop_fits : (m : ℕ) (text : List ℕ) (f : Facts) → PlanFits m f (edit_plan (drop_rule text f.lookups))
drop_fits m text f = elim (f.lookups.own_tag (key_of text)) as (λ o. PlanFits m f (edit_plan (drop_edit (key_of text) o))) [ None ↦ tt | Some t ↦ tt ]

grant_fits : (m : ℕ) (is_hosted : List ℕ → Bool) (g : Grant) (f : Facts) → PlanFits m f (edit_plan (grant_rule is_hosted g f.lookups))
grant_fits m is_hosted g f =
    elim (f.lookups.own_tag (key_of g.tag)) as (λ o. f.lookups.own_tag (key_of g.tag) ≡ o → PlanFits m f (edit_plan (grant_edit is_hosted f.lookups.op g o))) [
      | None ↦ λ e. tt
      | Some info ↦ λ e. elim (is_hosted g.to) as (λ h. PlanFits m f (edit_plan (cond h (cond (bytes_eq g.to f.lookups.op) (Err SelfGrant) (Ok (Tags (GrantPut (key_of g.tag) g.to g.until)))) (Err NoSuchOperator)))) [
        | true ↦ elim (bytes_eq g.to f.lookups.op) as (λ s. bytes_eq g.to f.lookups.op ≡ s → PlanFits m f (edit_plan (cond s (Err SelfGrant) (Ok (Tags (GrantPut (key_of g.tag) g.to g.until)))))) [
          | true ↦ λ same. tt
          | false ↦ λ other. (ap is_some e, λ is. true≢false (sym (text_itself g.to f.lookups.op is) ∙ other))
        ] refl
        | false ↦ tt
      ]
    ] refl

revoke_fits : (m : ℕ) (tag to : List ℕ) (f : Facts) → PlanFits m f (edit_plan (revoke_rule tag to f.lookups))
revoke_fits m tag to f = elim (f.lookups.has_grant (key_of tag) to) as (λ h. PlanFits m f (edit_plan (cond h (Ok (Tags (GrantDropped (key_of tag) to))) (Err NoSuchGrant)))) [ true ↦ tt | false ↦ tt ]

closed_fits : (station : List ℕ) (number : ℕ) (meter : Option ℕ) (m : ℕ) (rows : List MeterValueRow) (t : TxState) (f : Facts) → f.lookups.tx station number ≡ Some t → PlanFits m f (edit_plan (close_edit station number meter m rows (Some t)))
closed_fits station number meter m rows t f at =
    let stopped = Transactions (TxStopped station number (closed_at m (meter_at_close meter t.meter_start rows)) 0 []) in
    elim t.is_open as (λ b. t.is_open ≡ b → PlanFits m f (edit_plan (cond b (cond (is_meter meter) (Ok stopped) (Err (BadField (codes "meterStop")))) (Err NoSuchTransaction)))) [
      | true ↦ λ is-open. elim (is_meter meter) as (λ b. PlanFits m f (edit_plan (cond b (Ok stopped) (Err (BadField (codes "meterStop")))))) [
        | true ↦ (subst IsOpen (sym at) is-open, inl refl, refl)
        | false ↦ tt
      ]
      | false ↦ λ ended. tt
    ] refl

close_fits : (station : List ℕ) (number : ℕ) (meter : Option ℕ) (m : ℕ) (f : Facts) → PlanFits m f (edit_plan (close_rule station number meter m f.lookups))
close_fits station number meter m f =
    elim (is_some (f.lookups.registration station)) as (λ b. PlanFits m f (edit_plan (cond b (close_edit station number meter m (f.lookups.meter_values station (Some number)) (f.lookups.tx station number)) (Err NoSuchStation)))) [
      | true ↦ elim (f.lookups.tx station number) as (λ o. f.lookups.tx station number ≡ o → PlanFits m f (edit_plan (close_edit station number meter m (f.lookups.meter_values station (Some number)) o))) [
        | None ↦ λ e. tt
        | Some t ↦ λ e. closed_fits station number meter m (f.lookups.meter_values station (Some number)) t f e
      ] refl
      | false ↦ tt
    ]

admin_fits : (is_hosted : List ℕ → Bool) (a : Admin) (m : ℕ) (f : Facts) → PlanFits m f (edit_plan (admin_rule is_hosted a m f.lookups))
admin_fits is_hosted (admin.StationAdd station policy interval) m f = add_fits m station policy interval f
admin_fits is_hosted (admin.StationPolicy station policy interval) m f = policy_fits m station policy interval f
admin_fits is_hosted (admin.StationReader station reader) m f = reader_fits m station reader f
admin_fits is_hosted (admin.TagPut tag) m f = put_fits m tag f
admin_fits is_hosted (admin.TagDrop tag) m f = drop_fits m tag f
admin_fits is_hosted (admin.Grant grant) m f = grant_fits m is_hosted grant f
admin_fits is_hosted (admin.Revoke tag to) m f = revoke_fits m tag to f
admin_fits is_hosted (admin.TransactionClose station number meter_stop) m f = close_fits station number meter_stop m f

forget_fits : (station : List ℕ) (until : ℕ) (ends : Option HistoryEnds) (m : ℕ) (f : Facts) → PlanFits m f (forget_plan station ends (forget_rule station until m f.lookups))
forget_fits station until ends m f =
    let old = f.lookups.forgettable station until in
    let gone = up_to_ends ends old in
    elim (is_some (f.lookups.registration station)) as (λ b. PlanFits m f (forget_plan station ends (cond b (cond (nat_le until m) (Ok old) (Err (BadField (codes "until")))) (Err NoSuchStation)))) [
      | true ↦ elim (nat_le until m) as (λ b. PlanFits m f (forget_plan station ends (cond b (Ok old) (Err (BadField (codes "until")))))) [
        | true ↦ elim (has_no_rows gone) as (λ b. EffectFits m f (cond b effect.Nothing (effect.Edit (Transactions (Forgotten station (numbers_of gone)))))) [ true ↦ tt | false ↦ (until, ends, refl) ]
        | false ↦ tt
      ]
      | false ↦ tt
    ]

station_drop_fits : (station : List ℕ) (m : ℕ) (f : Facts) → PlanFits m f (edit_plan (station_drop_rule station (connected_in f station) m f.lookups))
station_drop_fits station m f =
    let dropped : Result Edit Refusal = Ok (Stations (StationDropped station)) in
    elim (f.lookups.registration station) as (λ o. PlanFits m f (edit_plan (dropped_edit station (connected_in f station) m f.lookups o))) [
      | None ↦ tt
      | Some r ↦ elim (f.lookups.has_open station) as (λ b. f.lookups.has_open station ≡ b → PlanFits m f (edit_plan (cond b (Err HasOpenTransactions) (cond (is_needed station (connected_in f station) m f.lookups) (Err NotAllowedNow) dropped)))) [
        | true ↦ λ is. tt
        | false ↦ λ none. elim (connected_in f station) as (λ c. connected_in f station ≡ c → PlanFits m f (edit_plan (cond (is_needed station c m f.lookups) (Err NotAllowedNow) dropped))) [
          | true ↦ λ is. tt
          | false ↦ λ apart. elim (has_no_rows (f.lookups.forgettable station m)) as (λ e. PlanFits m f (edit_plan (cond (not e) (Err NotAllowedNow) dropped))) [ true ↦ (none, apart) | false ↦ tt ]
        ] refl
      ] refl
    ]

pub plan_fits : (is_hosted : List ℕ → Bool) (answers : Answers) (what : What) (m : ℕ) (f : Facts) → PlanFits m f (plan is_hosted answers what m f)
plan_fits is_hosted answers (what.Connect station) m f = elim (f.lookups.registration station) as (λ o. f.lookups.registration station ≡ o → PlanFits m f (connect_plan station o)) [ None ↦ λ e. tt | Some r ↦ λ e. ap is_some e ] refl
plan_fits is_hosted answers (what.Disconnect station) m f = tt
plan_fits is_hosted answers (what.Frame station text) m f = elim (f.slot station).is_connected as (λ c. PlanFits m f (cond c (frame_plan answers station text (frame text) m f) (turned_plan station))) [ true ↦ frame_fits answers station text (frame text) m f | false ↦ tt ]
plan_fits is_hosted answers (what.Do station command) m f = command_fits m station command (command_rule station command (f.lookups.registration station) f.slots (f.slot station) m f.lookups) f
plan_fits is_hosted answers (what.Admin a) m f = admin_fits is_hosted a m f
plan_fits is_hosted answers what.Connections m f = tt
plan_fits is_hosted answers (what.DropStation station) m f = station_drop_fits station m f
plan_fits is_hosted answers (what.Forget station until ends) m f = forget_fits station until ends m f
plan_fits is_hosted answers (what.List listing) m f = elim (rows_rule listing m f.lookups) as (λ r. PlanFits m f (list_plan r)) [ Ok rows ↦ tt | Err refusal ↦ tt ]

-- the owner of a granted tag is another operator
owner_apart : (b key : List ℕ) (rows : Rows) → WellFormedRows rows → (owner : Option (List ℕ)) → IfSome owner (IsOwner (lookups_at b rows) key) → IsAnother b owner
owner_apart b key rows good None fits = tt
owner_apart b key rows good (Some a) fits = elim fits [
  | inl own ↦ mine (own_tag_in b key rows.tags) refl own
  | inr granted ↦ theirs (granted_tag_in b key rows.tags rows.grants) refl granted
]
  where
    mine : (o : Option Info) → own_tag_in b key rows.tags ≡ o → owner_of o ≡ Some a → a ≢ b
    mine None is has = absurd (cc)
    mine (Some info) is has = let none = own_tag-owner b key rows.tags info is in absurd (cc)

    theirs : (o : Option Info) → granted_tag_in b key rows.tags rows.grants ≡ o → owner_of o ≡ Some a → a ≢ b
    theirs None is has = absurd (cc)
    theirs (Some info) is has = subst (IsAnother b) has (granted_tag-owner b key rows good info is)

-- what holds of all holds of those that pass
of_those : {R : Type 0} (P : ℕ → Type 0) (f : R → ℕ) (q : R → Bool) (rs : List R) → AllByRecursion P (map f rs) → AllByRecursion P (map f (filter q rs))
of_those P f q [] all = tt
of_those P f q (r ∷ rs) all = elim (q r) as (λ b. AllByRecursion P (map f (cond b (r ∷ filter q rs) (filter q rs)))) [ true ↦ (all.0, of_those P f q rs all.1) | false ↦ of_those P f q rs all.1 ]

-- what goes up to ends is stopped
ended-stopped : (b station : List ℕ) (until : ℕ) (ends : Option HistoryEnds) (rows : Rows) → WellFormedRows rows → AllByRecursion (λ n. IsStopped (tx_in b station n rows.transactions)) (numbers_of (up_to_ends ends (forgettable_in b station until rows))).transactions
ended-stopped b station until None rows good = forgettable-stopped b station until rows good
ended-stopped b station until (Some ends) rows good =
    of_those (λ n. IsStopped (tx_in b station n rows.transactions)) (λ t. t.number) (λ t. nat_le t.number ends.transaction) (forgettable_in b station until rows).transactions (forgettable-stopped b station until rows good)

-- what the look-ups over the rows allow, the rows allow
pub edit_fits : (k : List ℕ → Bool) (m : ℕ) (b : List ℕ) (rows : Rows) → WellFormedRows rows → (e : Edit) → FitsLookups k m (lookups_at b rows) e → EditFits b e rows
edit_fits k m b rows good (Stations (StationAdded station policy interval)) fits = fits
edit_fits k m b rows good (Stations (BootSeen station boot state)) fits = fits
edit_fits k m b rows good (Stations (PolicySet station policy interval)) fits = fits
edit_fits k m b rows good (Stations (ReaderSet station reader)) fits = fits
edit_fits k m b rows good (Stations (StationDropped station)) fits = fits.0
edit_fits k m b rows good (Stations (ConnectorSeen station connector report)) fits = fits
edit_fits k m b rows good (Tags (TagPut key tag)) fits = fits
edit_fits k m b rows good (Tags (TagDropped key)) fits = tt
edit_fits k m b rows good (Tags (GrantPut key to until)) fits = fits
edit_fits k m b rows good (Tags (GrantDropped key to)) fits = tt
edit_fits k m b rows good (Transactions (TxStarted station number start owner)) fits = (fits.0, fits.1, fits.2, owner_apart b start.id.key rows good owner fits.3, fits.4)
edit_fits k m b rows good (Transactions (TxStopped station number stop first values)) fits = (fits.0, fits.1)
edit_fits k m b rows good (Transactions (MeterValuesAdded station first values)) fits = fits
edit_fits k m b rows good (Transactions (Forgotten station gone)) fits = subst (λ (g : Forgettable). AllByRecursion (λ n. IsStopped (tx_in b station n rows.transactions)) g.transactions) (sym fits.2) (ended-stopped b station fits.0 fits.1 rows good)
edit_fits k m b rows good (Holdings (ReservationPut station id reservation)) fits = fits
edit_fits k m b rows good (Holdings (ReservationDropped station id)) fits = tt
edit_fits k m b rows good (Holdings (ListSet station list)) fits = fits
edit_fits k m b rows good (Stations (ReportSeen station status moment)) fits = fits

-- the same of an edit that may be none
pub option_fits : (k : List ℕ → Bool) (m : ℕ) (b : List ℕ) (rows : Rows) → WellFormedRows rows → (o : Option Edit) → IfSome o (FitsLookups k m (lookups_at b rows)) → ForSome o (λ d. EditFits b d rows)
option_fits k m b rows good None fits = λ d same. absurd (cc)
option_fits k m b rows good (Some e) fits = λ d same. edit_fits k m b rows good d (subst (FitsLookups k m (lookups_at b rows)) (some_is e d same) fits)
  where
    some_is : (e d : Edit) → Some e ≡ Some d → e ≡ d
    some_is e d same = cc
