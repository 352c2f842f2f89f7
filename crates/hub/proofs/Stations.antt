-- Each connected station is on record, after each event.
use Rattle.std.specs.Prelude.{◌≡◌, ◌&&◌, ℕ, Bool, Option, None, Some, List, [], ◌∷◌, map, find, cond, true, false, IfSome}
use Rattle.std.proofs.Common.{refl, sym, ◌∙◌, ap, subst}
use Rattle.std.proofs.lemmas.Bool.{and_parts, true≢false}
use Rattle.std.specs.List.{AllByRecursion}
use Rattle.std.specs.Str.{bytes_eq}
use Rattle.hub_rows.specs.declared.change.Edit.{Edit}
use Rattle.hub_rows.specs.declared.change.Edit.TheVariants.{Stations, Tags, Transactions, Holdings}
use Rattle.hub_rows.specs.declared.change.StationEdit.TheVariants.{StationAdded, StationDropped}
use Rattle.hub_rows.specs.declared.change.TagEdit.TheVariants.{TagDropped}
use Rattle.hub_rows.specs.declared.change.TransactionEdit.TheVariants.{MeterValuesAdded}
use Rattle.hub_rows.specs.declared.change.HoldingEdit.TheVariants.{ReservationDropped}
use Rattle.hub_rows.specs.declared.station_row.StationRow.{StationRow}
use Rattle.hub_rows.specs.Keyed.{by_key}
use Rattle.hub_rows.specs.Lookups.{Lookups}
use Rattle.hub_rows.specs.WellFormed.{IsOnRecord}
use Rattle.hub_rows.proofs.ForgetLaws.{all-two, each-found}
use Rattle.hub_rows.proofs.ListLaws.{all-changed, all-put, same_text, two_parts}
use Rattle.hub_rows.proofs.WellFormedLaws.{drops, keeps-edit, on_record}
use Rattle.pending_calls.specs.Slot.{answered, cut, expired, is_answered, is_overdue, moved_on, submitted, with_connection}
use Rattle.pending_calls.specs.SlotList.{slot_key, slot_of, slot_or}
use Rattle.pending_calls.proofs.OwnSlots.{slot_of-op, slot_of-station}
use Rattle.pending_calls.proofs.Places.{answered_key, expired_key}
use Rattle.hub_events.specs.declared.event.Event.{Event}
use Rattle.hub_events.specs.declared.event.Event.TheVariants.{At, Tick}
use Rattle.plans.specs.declared.plan.Effect.{Effect}
use Rattle.plans.specs.declared.plan.Effect.TheVariants as effect
use Rattle.plans.specs.Effects.{StationSlot}
use Rattle.event_plans.proofs.Fitting.{EffectFits, FitsLookups, connected_in, plan_fits}
use Rattle.hub.specs.Effects.{edit_of, slots_after}
use Rattle.hub.specs.WellFormed.{ConnectedAreOnRecord, WellFormed}
use Rattle.hub.specs.World.{Setting, World, facts_at, plan_at, rows_after, world_run, world_step}
use Rattle.hub.proofs.Isolation.{step_kept}

-- the station of a slot is on record, if it is connected
abbrev HasStation : List StationRow → StationSlot → Type 0
HasStation stations s = s.is_connected ≡ true → IsOnRecord s.op s.station stations

-- a slot with the same names is of the same station
same_names : (stations : List StationRow) (s t : StationSlot) → slot_key t ≡ slot_key s → (t.is_connected ≡ true → s.is_connected ≡ true) → HasStation stations s → HasStation stations t
same_names stations s t same connected on is =
    let op : t.op ≡ s.op = cc in
    let name : t.station ≡ s.station = cc in
    subst (λ n. IsOnRecord t.op n stations) (sym name) (subst (λ o. IsOnRecord o s.station stations) (sym op) (on (connected is)))

-- ---- what calls leave

answered-connected : (id : List ℕ) (m : ℕ) (s : StationSlot) → (answered id m s).is_connected ≡ true → s.is_connected ≡ true
answered-connected id m s is = sym (kept (is_answered id s)) ∙ is
  where
    kept : (c : Bool) → (cond c (moved_on m s) s).is_connected ≡ s.is_connected
    kept true = refl
    kept false = refl

expired-connected : (m : ℕ) (s : StationSlot) → (expired m s).is_connected ≡ true → s.is_connected ≡ true
expired-connected m s is = sym (kept (is_overdue m s)) ∙ is
  where
    kept : (c : Bool) → (cond c (moved_on m s) s).is_connected ≡ s.is_connected
    kept true = refl
    kept false = refl

-- ---- edits

-- a slot of the same station
abbrev is_of : StationSlot → StationSlot → Bool
is_of t s = bytes_eq s.op t.op && bytes_eq s.station t.station

-- an edit that fits drops no connected station
spares : (k : List ℕ → Bool) (b : List ℕ) (m : ℕ) (l : Lookups) (e : Edit) → FitsLookups k m l e → (s : StationSlot) → ((station : List ℕ) → s.op ≡ b → s.station ≡ station → k station ≡ s.is_connected) → s.is_connected ≡ true → drops b e s.op s.station ≡ false
spares k b m l (Stations (StationDropped station)) fits s at is =
    elim (bytes_eq s.op b && bytes_eq s.station station) as (λ c. bytes_eq s.op b && bytes_eq s.station station ≡ c → c ≡ false) [
      | true ↦ λ same.
          let parts = and_parts (bytes_eq s.op b) (bytes_eq s.station station) same in
          absurd (true≢false (sym is ∙ sym (at station (same_text s.op b parts.0) (same_text s.station station parts.1)) ∙ fits.1))
      | false ↦ λ other. refl
    ] refl
spares k b m l (Stations (StationAdded station policy interval)) fits s at is = refl
spares k b m l (Tags (TagDropped key)) fits s at is = refl
spares k b m l (Transactions (MeterValuesAdded station first values)) fits s at is = refl
spares k b m l (Holdings (ReservationDropped station id)) fits s at is = refl
spares k b m l e fits s at is = refl

-- an edit that may be none is allowed
abbrev IfFits : ℕ → List ℕ → ℕ → Option Edit → World → Type 0
IfFits first b m o w = IfSome o (FitsLookups (connected_in (facts_at first b w)) m (facts_at first b w).lookups)

-- the slot of a station is the one in order that has its names
slot_at : (first : ℕ) (b : List ℕ) (w : World) (s : StationSlot) → find (is_of s) w.slots ≡ Some s → (station : List ℕ) → s.op ≡ b → s.station ≡ station → connected_in (facts_at first b w) station ≡ s.is_connected
slot_at first b w s here station op name =
    (λ i. (slot_of first (sym op i) (sym name i) w.slots).is_connected)
    ∙ ap (λ o. (slot_or first s.op s.station o).is_connected) here

still : (first : ℕ) (b : List ℕ) (m : ℕ) (o : Option Edit) (w : World) → WellFormed w → IfFits first b m o w → ConnectedAreOnRecord w → AllByRecursion (HasStation (rows_after b o w.rows).stations) w.slots
still first b m None w good fits have = have
still first b m (Some e) w good fits have =
    all-two (λ s. find (is_of s) w.slots ≡ Some s) (HasStation w.rows.stations) (HasStation (rows_after b (Some e) w.rows).stations)
    (λ s here on is. keeps-edit b e w.rows s.op s.station (spares (connected_in (facts_at first b w)) b m (facts_at first b w).lookups e fits s (slot_at first b w s here) is) (on is))
    w.slots (each-found slot_key is_of (λ t s. two_parts s.op s.station t.op t.station) w.slots good.slots) have

-- ---- effects

have-effect : (first : ℕ) (b : List ℕ) (m : ℕ) (e : Effect) (w : World) → WellFormed w → ConnectedAreOnRecord w → EffectFits m (facts_at first b w) e → AllByRecursion (HasStation (rows_after b (edit_of e) w.rows).stations) (slots_after first b m e w.slots)
have-effect first b m effect.Nothing w good have fits = have
have-effect first b m (effect.Edit e) w good have fits = still first b m (Some e) w good fits have
have-effect first b m (effect.Connect station) w good have fits =
    let here : IsOnRecord (slot_of first b station w.slots).op (slot_of first b station w.slots).station w.rows.stations
    = (subst (λ n. IsOnRecord (slot_of first b station w.slots).op n w.rows.stations) (sym (slot_of-station first b station w.slots))
    (subst (λ o. IsOnRecord o station w.rows.stations) (sym (slot_of-op first b station w.slots)) (on_record b station w.rows.stations fits))) in
    all-put (by_key slot_key) (HasStation w.rows.stations) (with_connection (slot_of first b station w.slots)) w.slots (λ is. here) have
have-effect first b m (effect.Disconnect station) w good have fits =
    all-changed (HasStation w.rows.stations) (λ s. s.op) b (λ s. bytes_eq s.station station) cut w.slots (λ s on is. absurd (true≢false (sym is))) have
have-effect first b m (effect.Submit station command text) w good have fits =
    all-changed (HasStation w.rows.stations) (λ s. s.op) b (λ s. bytes_eq s.station station) (submitted command text m) w.slots (λ s on. on) have
have-effect first b m (effect.Answer station id outcome edit) w good have fits =
    let stations : List StationRow = (rows_after b edit w.rows).stations in
    all-changed (HasStation stations) (λ s. s.op) b (λ s. bytes_eq s.station station) (answered id m) w.slots (λ s on. same_names stations s (answered id m s) (answered_key id m s) (answered-connected id m s) on) (still first b m edit w good fits have)

have-tick : (m : ℕ) (stations : List StationRow) (slots : List StationSlot) → AllByRecursion (HasStation stations) slots → AllByRecursion (HasStation stations) (map (expired m) slots)
have-tick m stations [] have = tt
have-tick m stations (s ∷ slots) have = (same_names stations s (expired m s) (expired_key m s) (expired-connected m s) have.0, have-tick m stations slots have.1)

pub have-step : (setting : Setting) (w : World) (e : Event) → WellFormed w → ConnectedAreOnRecord w → ConnectedAreOnRecord (world_step setting w e)
have-step setting w (At b m what) good have = have-effect setting.first_number b m (plan_at setting w b m what).effect w good have (plan_fits setting.is_hosted setting.answers what m (facts_at setting.first_number b w))
have-step setting w (Tick m) good have = have-tick m w.rows.stations w.slots have

pub have-run : (setting : Setting) (w : World) (es : List Event) → WellFormed w → ConnectedAreOnRecord w → ConnectedAreOnRecord (world_run setting w es)
have-run setting w [] good have = have
have-run setting w (e ∷ es) good have = have-run setting (world_step setting w e) es (step_kept setting w e good) (have-step setting w e good have)
