-- The parts of a turn, one after the other.
use Rattle.std.proofs.Common.{List, Option, ℕ, [], subst, sym, ◌++◌, ◌∙◌, ◌≡◌}
use Rattle.std.proofs.lemmas.List.{append-nil}
use Rattle.hub_rows.proofs.OnRecord.{finds_only}
use Rattle.hub_rows.specs.Reads.{IsCounted}
use Rattle.hub_rows.specs.StoreView.{StoreView}
use Rattle.station_calls.specs.Vendors.{HandlerView}
use Rattle.turn_hub.specs.TurnHub.{KeepsRecord, hub_view, setting, world}
use Rattle.turn_hub.specs.declared.turn_hub.TurnHub.{TurnHub}
use Rattle.ws_server.specs.Steps.{JournalsSteps, Runs, Step, Takes}
use Rattle.ws_server.specs.TurnServers.{Holds, Stage}
use Rattle.ws_server.proofs.JournalLaws.{journals_more, journals_same}
use Rattle.ws_server.proofs.StepLaws.{taken_on}

module _ {S V W : Type 0} (view : S → StoreView) (handlers : V → HandlerView) (contents : W → Option (List ℕ)) where
  -- the journal after a fault
  held : {old new : TurnHub S V W} {GoesOn : Type 0} → GoesOn → Holds view handlers old new GoesOn → JournalsSteps contents old new []
  held {old} {new} goes holds = journals_same contents old new (holds.waits goes) (holds.journal goes)

  module _ (old new : TurnHub S V W) (Fails WasOk GoesOn : Type 0) (C : List Step → Type 0) where
    -- a part that met no fault
    pub stage_ok : WasOk → IsCounted (hub_view view) old new Fails → KeepsRecord view old new WasOk → Takes view handlers contents old new C → Stage view handlers contents old new GoesOn C
    stage_ok ok counted keeps takes = record {
      was_clean = λ goes. counted.was_clean;
      takes = λ goes. takes;
      commits = keeps.commits;
      waits = λ goes. keeps.waits;
      stays = λ goes later. keeps.stays later ok;
      left = λ later on_record was r found. (keeps.left later on_record was r found).1;
    }

  module _ (old mid new : TurnHub S V W) (Fails WasOk GoesOn : Type 0) (C : List Step → Type 0) where
    -- one that met a fault
    pub stage_fault : IsCounted (hub_view view) old mid Fails → KeepsRecord view old mid WasOk → Takes view handlers contents old mid C → Holds view handlers mid new GoesOn → Stage view handlers contents old new GoesOn C
    stage_fault counted keeps takes holds = record {
      was_clean = λ goes clean. counted.was_clean (holds.was_clean goes clean);
      takes = λ goes. record {
        steps = takes.steps;
        change = takes.change;
        runs = λ clean. subst (λ w. Runs (setting handlers old) (world view old) takes.steps w) (sym (holds.world goes clean)) (takes.runs (holds.was_clean goes clean));
        stays = holds.setting ∙ takes.stays;
        journals = subst (λ steps. JournalsSteps contents old new steps) (append-nil takes.steps) (journals_more contents old mid new takes.steps [] takes.journals (held goes holds));
      };
      commits = holds.commits ∙ keeps.commits;
      waits = λ goes later. holds.waits goes (keeps.waits later);
      stays = λ goes later on_record was. holds.found goes (keeps.waits later) on_record (keeps.left later on_record was);
      left = λ later on_record was r found. (keeps.left later on_record was r (holds.stopped (λ r found. (keeps.left later on_record was r found).0) r found)).1;
    }

  module _ (old new : TurnHub S V W) (GoesOn : Type 0) (C : List Step → Type 0) where
    -- one in which the store is asked for its changes
    pub stage_held : C [] → Holds view handlers old new GoesOn → Stage view handlers contents old new GoesOn C
    stage_held none holds = record {
      was_clean = holds.was_clean;
      takes = λ goes. record { steps = []; change = none; runs = holds.world goes; stays = holds.setting; journals = held goes holds };
      commits = holds.commits;
      waits = holds.waits;
      stays = λ goes later on_record was. holds.found goes later on_record (finds_only (hub_view view old) on_record was);
      left = λ later on_record was r found. (was.alone r (holds.stopped (λ r found. (finds_only (hub_view view old) on_record was r found).0) r found)).1;
    }

  module _ (old new : TurnHub S V W) (First GoesOn : Type 0) (C D : List Step → Type 0) where
    -- one after which the turn doesn't go on
    pub stage_last : (GoesOn → ⊥) → Stage view handlers contents old new First C → Stage view handlers contents old new GoesOn D
    stage_last ends it = record {
      was_clean = λ goes. absurd (ends goes);
      takes = λ goes. absurd (ends goes);
      commits = it.commits;
      waits = λ goes. absurd (ends goes);
      stays = λ goes. absurd (ends goes);
      left = it.left;
    }

  module _ (old mid new : TurnHub S V W) (First GoesOn : Type 0) (C D E : List Step → Type 0) where
    -- one after another after which the turn went on
    pub stage_more : First → ((before after : List Step) → C before → D after → setting handlers mid ≡ setting handlers old → E (before ++ after))
        → Stage view handlers contents old mid First C → Stage view handlers contents mid new GoesOn D → Stage view handlers contents old new GoesOn E
    stage_more went joins first second = record {
      was_clean = λ goes clean. first.was_clean went (second.was_clean goes clean);
      takes = λ goes. taken_on view handlers contents old mid new C D E (λ before after c d. joins before after c d (first.takes went).stays) (second.was_clean goes) (first.takes went) (second.takes goes);
      commits = second.commits ∙ first.commits;
      waits = λ goes later. second.waits goes (first.waits went later);
      stays = λ goes later on_record was. second.stays goes (first.waits went later) on_record (first.stays went later on_record was);
      left = λ later on_record was. second.left (first.waits went later) on_record (first.stays went later on_record was);
    }
