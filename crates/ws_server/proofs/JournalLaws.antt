-- What the journal has of steps.
use Rattle.std.proofs.Common.{Bool, List, Option, [], ap, arith, length, refl, subst, sym, ℕ, ◌++◌, ◌+◌, ◌∙◌, ◌∷◌, ◌≡◌, ◌≤◌}
use Rattle.std.proofs.lemmas.List.{length-append}
use Rattle.hub_events.specs.declared.event.Event.{Event}
use Rattle.hub_events.specs.declared.out.Out.{Out}
use Rattle.hub_rows.specs.declared.store.Flush.TheVariants.{Later}
use Rattle.journal.specs.Entries.{IsCount}
use Rattle.lines.specs.Journal.{Stands}
use Rattle.turn_hub.proofs.Laws.{up_to_same}
use Rattle.turn_hub.specs.Journals.{AreSmall, AreUpTo, Counts, HasSameJournal, Journals, Notes, events_of}
use Rattle.turn_hub.specs.TurnHub.{flush_of}
use Rattle.turn_hub.specs.declared.turn_hub.TurnHub.{TurnHub}
use Rattle.ws_server.specs.Steps.{AllStand, IsOrderOf, JournalsSteps, NotesAll, Step}

at_most : (a b : ℕ) → a ≤ b + 1 → IsCount (b + 2) → IsCount (a + 1)
at_most a b less count = omega (arith, less, count)

no_more : (a b : ℕ) → IsCount (b + a + 2) → IsCount (a + 2)
no_more a b count = omega (arith, count)

none_more : (n : ℕ) → 0 + n ≡ n
none_more n = omega arith

sums : (a b n : ℕ) → b + (a + n) ≡ a + b + n
sums a b n = omega arith

module _ {S V W : Type 0} where
  pub small : (n : ℕ) (h : TurnHub S V W) → AreUpTo n h → IsCount (n + 2) → AreSmall h
  small n h up count = record {
    events = at_most (events_of h.journal) n up.events count;
    changes = at_most h.changes n up.changes count;
    on_record = at_most h.on_record n up.on_record count;
  }

  -- a journal stays in two calls
  pub same_twice : (old mid new : TurnHub S V W) → HasSameJournal old mid → HasSameJournal mid new → HasSameJournal old new
  same_twice old mid new first second = record {
    journal = second.journal ∙ first.journal;
    changes = second.changes ∙ first.changes;
    on_record = second.on_record ∙ first.on_record;
  }

  pub same_self : (h : TurnHub S V W) → HasSameJournal h h
  same_self h = record { journal = refl; changes = refl; on_record = refl }

module _ (is_hosted : List ℕ → Bool) where
  all_before : (before after : List Step) → AllStand is_hosted (before ++ after) → AllStand is_hosted before
  all_before [] after all = tt
  all_before (s ∷ before) after all = (all.0, all_before before after all.1)

  all_after : (before after : List Step) → AllStand is_hosted (before ++ after) → AllStand is_hosted after
  all_after [] after all = all
  all_after (s ∷ before) after all = all_after before after all.1

notes_more : (events mid new : List Event) (before after : List Step) → NotesAll events before mid → NotesAll mid after new → NotesAll events (before ++ after) new
notes_more events mid new [] after same more = subst (λ es. NotesAll es after new) same more
notes_more events mid new (s ∷ before) after (next, note, notes) more = (next, note, notes_more next mid new before after notes more)

module _ {S V W : Type 0} (contents : W → Option (List ℕ)) where
  -- a hub that stays as it is
  pub journals_kept : (h : TurnHub S V W) → JournalsSteps contents h h []
  journals_kept h = record {
    waits = λ later. later;
    counts = λ n up. subst (λ k. AreUpTo k h) (sym (none_more n)) up;
    notes = λ later n up count is_hosted all events was. (events, refl, was);
  }

  module _ (old new : TurnHub S V W) where
    -- a call that is no event
    pub journals_same : (flush_of old ≡ Later → flush_of new ≡ Later) → HasSameJournal old new → JournalsSteps contents old new []
    journals_same waits same = record {
      waits = waits;
      counts = λ n up. subst (λ k. AreUpTo k new) (sym (none_more n)) (up_to_same n old new same up);
      notes = λ later n up count is_hosted all events was. (events, refl, had is_hosted events was);
    }
      where
        had : (is_hosted : List ℕ → Bool) (events : List Event) → Journals contents is_hosted old events → Journals contents is_hosted new events
        had is_hosted events was =
            let now = subst (λ journal. Journals contents is_hosted (record old { journal = journal }) events) (sym same.journal) was in
            subst (λ count. Journals contents is_hosted (record old { journal = new.journal; on_record = count }) events) (sym same.on_record) now

    -- an event that met a fault
    pub journals_left : (flush_of old ≡ Later → flush_of new ≡ Later) → ((n : ℕ) → AreUpTo n old → AreUpTo n new)
        → (flush_of old ≡ Later → (is_hosted : List ℕ → Bool) (events : List Event) → Journals contents is_hosted old events → Journals contents is_hosted new events) → JournalsSteps contents old new []
    journals_left waits counts left = record {
      waits = waits;
      counts = λ n up. subst (λ k. AreUpTo k new) (sym (none_more n)) (counts n up);
      notes = λ later n up count is_hosted all events was. (events, refl, left later is_hosted events was);
    }

    -- one that was taken
    pub journals_one : (event : Event) (order : List ℕ) (outs : List Out) → IsOrderOf event order → (flush_of old ≡ Later → flush_of new ≡ Later) → Counts 1 old new
        → (AreSmall old → (is_hosted : List ℕ → Bool) (events : List Event) → Stands is_hosted event order → Journals contents is_hosted old events
        → (after : List Event) × Notes events event outs after × Journals contents is_hosted new after)
        → JournalsSteps contents old new (record { event = event; outs = outs } ∷ [])
    journals_one event order outs is_order waits counts takes = record {
      waits = waits;
      counts = counts;
      notes = λ later n up count is_hosted all events was.
          let it = takes (small n old up (no_more n 1 count)) is_hosted events (is_order is_hosted all.0) was in
          (it.0, (it.0, it.1, refl), it.2);
    }

  module _ (old mid new : TurnHub S V W) (before after : List Step) where
    count_is : (n : ℕ) → length after + (length before + n) ≡ length (before ++ after) + n
    count_is n = sums (length before) (length after) n ∙ ap (λ k. k + n) (sym (length-append before after))

    -- steps after steps
    pub journals_more : JournalsSteps contents old mid before → JournalsSteps contents mid new after → JournalsSteps contents old new (before ++ after)
    journals_more first second = record {
      waits = λ later. second.waits (first.waits later);
      counts = λ n up. subst (λ k. AreUpTo k new) (count_is n) (second.counts (length before + n) (first.counts n up));
      notes = λ later n up count is_hosted all events was.
          let both = subst (λ k. IsCount (k + 2)) (sym (count_is n)) count in
          let had = first.notes later n up (no_more (length before + n) (length after) both) is_hosted (all_before is_hosted before after all) events was in
          let has = second.notes (first.waits later) (length before + n) (first.counts n up) both is_hosted (all_after is_hosted before after all) had.0 had.2 in
          (has.0, notes_more events had.0 has.0 before after had.1 has.1, has.2);
    }
