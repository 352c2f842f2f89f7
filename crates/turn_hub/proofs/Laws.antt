-- What a journal has.
use Rattle.std.proofs.Common.{◌≡◌, ◌≢◌, ◌≤◌, ◌∙◌, ◌+◌, ℕ, List, [], ◌∷◌, ◌++◌, Option, Some, None, Bool, true, false, refl, sym, subst, ap, arith}
use Rattle.std.specs.Prelude.{OnErr, OnOk, Result, Ok, Err}
use Rattle.std.proofs.lemmas.List.{append_assoc, append-nil}
use Rattle.hub_events.specs.declared.event.Event.{Event}
use Rattle.journal.proofs.Writers.{opened, waits_nothing}
use Rattle.journal.specs.Entries.{IsCount}
use Rattle.journal.specs.Writers.{IsOpen}
use Rattle.journal.specs.declared.writer.Writer.{Writer}
use Rattle.hub_rows.proofs.OnRecord.{finds_only}
use Rattle.hub_rows.specs.Rows.{Rows}
use Rattle.hub_rows.specs.StoreView.{StoreView}
use Rattle.hub_rows.specs.Stops.{HasOnRecord, Records, StaysOnRecord}
use Rattle.hub_rows.specs.declared.store.Flush.{Flush}
use Rattle.hub_rows.specs.declared.store.Flush.TheVariants.{Later}
use Rattle.hub.specs.Hub as of_hub
use Rattle.hub.specs.declared.hub.Hub.{Hub}
use Rattle.turn_hub.specs.TurnHub.{KeepsRecord, flush_by, flush_of, hub_view}
use Rattle.turn_hub.specs.declared.turn_hub.TurnHub.{TurnHub}
use Rattle.turn_hub.specs.Journals.{AreUpTo, Handles, HasBegun, HasEvents, HasSameJournal, IsAhead, OfJournal, events_of}

pub err_then : {T E P Q : Type 0} (r : Result T E) → (P → Q) → OnErr r P → OnErr r Q
err_then (Ok x) f p = tt
err_then (Err e) f p = f p

pub on_ok_two : {T E P Q R : Type 0} (r : Result T E) → (P → Q → R) → OnOk r P → OnOk r Q → OnOk r R
on_ok_two (Ok x) f p q = f p q
on_ok_two (Err e) f p q = tt

pub later : {T E P : Type 0} (r : Result T E) (Q : Type 0) → (P → OnOk r Q) → OnOk r (P → Q)
later (Ok x) Q f = f
later (Err e) Q f = tt

pub any_err : {T E P : Type 0} (r : Result T E) → P → OnErr r P
any_err (Ok x) p = tt
any_err (Err e) p = p

pub for_journal : {W : Type 0} (P Q : Writer W → Type 0) (journal : Option (Writer W)) → ((writer : Writer W) → P writer → Q writer) → OfJournal P journal → OfJournal Q journal
for_journal P Q None f p = tt
for_journal P Q (Some writer) f p = λ works. f writer (p works)

pub up_to_same : {S V W : Type 0} (n : ℕ) (old new : TurnHub S V W) → HasSameJournal old new → AreUpTo n old → AreUpTo n new
up_to_same n old new same up = record {
  events = subst (λ journal. events_of journal ≤ n + 1) (sym same.journal) up.events;
  changes = subst (λ changes. changes ≤ n + 1) (sym same.changes) up.changes;
  on_record = subst (λ changes. changes ≤ n + 1) (sym same.on_record) up.on_record;
}

pub below_one_more : (n : ℕ) → IsCount (n + 1) → IsCount n
below_one_more n small = omega (arith, small)

pub one_count : (n : ℕ) → n ≡ 1 → IsCount n
one_count n is = omega (arith, is)

pub no_count : (n : ℕ) → n ≡ 0 → IsCount n
no_count n is = omega (arith, is)

one_more_differs : (n : ℕ) → n + 1 ≢ n
one_more_differs n same = omega (arith, same)

module _ {W : Type 0} (contents : W → Option (List ℕ)) (is_hosted : List ℕ → Bool) (writer : Writer W) (on_record : ℕ) (events : List Event) where
  -- all events are in the file
  pub in_file : IsOpen contents is_hosted writer events [] → writer.changes ≡ on_record → HasEvents contents is_hosted writer on_record events
  in_file was same = record { taken = events; now = []; was = was; all = append-nil events; same = same }

  -- an event that isn't taken
  pub left_out : (event : Event) → Handles contents is_hosted writer on_record events event → HasEvents contents is_hosted writer on_record events
  left_out event it = record { taken = it.taken; now = it.now; was = it.was.was; all = it.all; same = it.same }

  -- an event whose change isn't made
  pub refused : (event : Event) → IsAhead contents is_hosted writer on_record events event → HasEvents contents is_hosted writer on_record events
  refused event it =
      let told = it.turn.says.refused (λ e. one_more_differs on_record (e ∙ it.same)) in
      in_file (opened contents is_hosted writer it.turn.file writer.changes events it.turn.known (waits_nothing is_hosted it.turn.file writer.changes events it.turn.marked told) it.turn.empty refl it.turn.none) it.same

  pub begun_only : (ahead : Bool) (event : Event) → HasBegun contents is_hosted ahead writer on_record events event → HasEvents contents is_hosted writer on_record events
  begun_only true event it = refused event it
  begun_only false event it = left_out event it

  -- one event more
  pub one_taken : (event : Event) (taken now : List Event) → taken ++ now ≡ events → IsOpen contents is_hosted writer taken (now ++ (event ∷ [])) → writer.changes ≡ on_record
      → HasEvents contents is_hosted writer on_record (events ++ (event ∷ []))
  one_taken event taken now all was same =
      record { taken = taken; now = now ++ (event ∷ []); was = was; all = sym (append_assoc taken now (event ∷ [])) ∙ ap (λ es. es ++ (event ∷ [])) all; same = same }

module _ {W : Type 0} (contents : W → Option (List ℕ)) (is_hosted : List ℕ → Bool) (old new : Writer W) (on_record : ℕ) (events : List Event) where
  -- the line that is ready is another
  pub still_open : ((taken now : List Event) → IsOpen contents is_hosted old taken now → IsOpen contents is_hosted new taken now) → (new.changes ≡ old.changes) × (new.events ≡ old.events) × (new.has_failed ≡ old.has_failed)
      → (old.has_failed ≡ false → HasEvents contents is_hosted old on_record events) → new.has_failed ≡ false → HasEvents contents is_hosted new on_record events
  still_open keeps same was works =
      let has = was (sym same.2 ∙ works) in
      record { taken = has.taken; now = has.now; was = keeps has.taken has.now has.was; all = has.all; same = same.0 ∙ has.same }

-- an event is prepared and then committed, between which its line begins
pub keeps_record : {S V W T E : Type 0} (view : S → StoreView) (old new : TurnHub S V W) (prepared begun made : Hub S V) (when : Flush) (rows : Rows) (x : T) (WasOk : Type 0)
    → begun ≡ prepared → new.hub ≡ made → new.commits ≡ old.commits → new.is_alone ≡ old.is_alone → when ≡ flush_of old
    → StaysOnRecord (of_hub.hub_view view old.hub) (of_hub.hub_view view prepared) → Records {E = E} when rows (of_hub.hub_view view begun) (of_hub.hub_view view made) (Ok x) → KeepsRecord view old new WasOk
keeps_record view old new prepared begun made when rows x WasOk begins is commits alone flushes prepares records = record {
  commits = commits;
  waits = λ later. (λ i. flush_by (commits i) (alone i)) ∙ later;
  left = λ later on_record was. finds_only (hub_view view new) on_record (stays later on_record was);
  stays = λ later ok. stays later;
}
  where
    stays : flush_of old ≡ Later → (on_record : Rows) → HasOnRecord on_record (hub_view view old) → HasOnRecord on_record (hub_view view new)
    stays later on_record was =
        let ready = subst (λ h. HasOnRecord on_record (of_hub.hub_view view h)) (sym begins) (prepares on_record was) in
        subst (λ h. HasOnRecord on_record (of_hub.hub_view view h)) (sym is) (records.waits (flushes ∙ later) on_record ready)
