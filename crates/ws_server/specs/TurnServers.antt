-- The turns of a server.
use Rattle.std.specs.Prelude.{◌≡◌, ◌≢◌, ◌⊎◌, ℕ, ◌+◌, List, length, ◌++◌, Bool, Option, Result}
use Rattle.std.specs.List.{AllZip}
use Rattle.hub_events.specs.declared.event.Event.{Event}
use Rattle.hub_events.specs.declared.fault.Fault.{Fault}
use Rattle.hub_rows.specs.Rows.{Rows}
use Rattle.hub_rows.specs.StoreView.{StoreView}
use Rattle.hub_rows.specs.Stops.{FindsOnly, FindsSound, HasOnRecord, IsKept, PutsOnRecord, StaysOnRecord}
use Rattle.hub_rows.specs.declared.store.Flush.TheVariants.{Later}
use Rattle.hub.specs.World.{World}
use Rattle.journal.specs.Entries.{IsCount}
use Rattle.station_calls.specs.Vendors.{HandlerView}
use Rattle.turn_hub.specs.Journals.{AreSmall, AreUpTo, HasJournaled, HasSameJournal, Journals}
use Rattle.turn_hub.specs.TurnHub.{flush_of, hub_view, is_clean, setting, world}
use Rattle.turn_hub.specs.declared.turn_hub.Commits.TheVariants.{Turns as TogetherInTurns}
use Rattle.turn_hub.specs.declared.turn_hub.TurnHub.{TurnHub}
use Rattle.ws_peers.specs.Sends.{Failed}
use Rattle.ws_peers.specs.declared.peer.Peer.{Peer}
use Rattle.ws_server.specs.Admits.{WelcomesSome}
use Rattle.ws_server.specs.Lobbies.{origins_of}
use Rattle.ws_server.specs.Steps.{AllStand, NotesAll, Runs, Step, Takes}
use Rattle.ws_server.specs.Tells.{peers_of}
use Rattle.ws_server.specs.Turns.{Change, EachOf, PartsAndTicks, Serves}
use Rattle.ws_server.specs.declared.reactor.Written.{Written}
use Rattle.ws_server.specs.declared.reactor.Written.TheVariants.{Given}
use Rattle.ws_server.specs.declared.turn_server.State.TheVariants.{Serving, Unwritten}
use Rattle.ws_server.specs.declared.turn_server.TurnServer.{TurnServer}

-- a change that goes on to its first fault
abbrev pub ToFault : {P : Type 0} → Change P → List P → List P → List Step → Type 0
ToFault C old new steps = (end : Result (Unit {0}) Fault) × C old new steps end

module _ {T : Type 0} (remaining contents : T → Option (List ℕ)) (is_hosted : List ℕ → Bool) (m : ℕ) where
  -- peers at some places are served, one after the other
  abbrev pub ServesSome : Change (Peer T)
  ServesSome old new steps r = (places : List ℕ) × EachOf (Serves remaining contents is_hosted m) places old new steps r

  -- A turn at moment m, at those origins: some connections are welcomed, peers at some places are served, and those that have
  -- ended leave, before a tick. Each of the three goes on to its first fault.
  pub record ServesTurn (origins : List (List ℕ)) (old new : List (Peer T)) (steps : List Step) : Type 0 where
    pub welcomed : List (Peer T)
    pub served : List (Peer T)
    pub first : List Step
    pub second : List Step
    pub third : List Step
    pub welcomes : ToFault (WelcomesSome remaining contents m origins) old welcomed first
    pub serves : ToFault ServesSome welcomed served second
    pub parts : ToFault (PartsAndTicks contents is_hosted m) served new third
    pub all : first ++ (second ++ third) ≡ steps

-- a reopening finds those rows at most
abbrev pub FindsRows : Rows → StoreView → Type 0
FindsRows rows s = (r : Rows) → s.may_find r → r ≡ rows

module _ {S V W : Type 0} (view : S → StoreView) (handlers : V → HandlerView) where
  -- a hub after a fault, and whether the turn goes on
  pub record Holds (old new : TurnHub S V W) (GoesOn : Type 0) : Type 0 where
    pub was_clean : GoesOn → is_clean view new → is_clean view old
    pub world : GoesOn → is_clean view new → world view new ≡ world view old
    pub setting : setting handlers new ≡ setting handlers old
    pub commits : new.commits ≡ old.commits
    pub waits : GoesOn → flush_of old ≡ Later → flush_of new ≡ Later
    -- what is on record is known again
    pub found : GoesOn → flush_of old ≡ Later → (rows : Rows) → FindsOnly rows (hub_view view old) → HasOnRecord rows (hub_view view new)
    pub journal : GoesOn → HasSameJournal old new
    -- nothing more is on record
    pub stopped : FindsSound (hub_view view old) → (r : Rows) → (hub_view view new).may_find r → (hub_view view old).may_find r

  -- a part of a turn, and whether the turn goes on
  pub record Stage (contents : W → Option (List ℕ)) (old new : TurnHub S V W) (GoesOn : Type 0) (C : List Step → Type 0) : Type 0 where
    pub was_clean : GoesOn → is_clean view new → is_clean view old
    pub takes : GoesOn → Takes view handlers contents old new C
    pub commits : new.commits ≡ old.commits
    pub waits : GoesOn → flush_of old ≡ Later → flush_of new ≡ Later
    pub stays : GoesOn → flush_of old ≡ Later → StaysOnRecord (hub_view view old) (hub_view view new)
    pub left : flush_of old ≡ Later → (on_record : Rows) → HasOnRecord on_record (hub_view view old) → FindsRows on_record (hub_view view new)

  module _ (contents : W → Option (List ℕ)) where
    -- a turn of the hub has ended: what changed is on record, and the journal has its events
    pub record Ends (old new : TurnHub S V W) : Type 0 where
      pub was_clean : is_clean view new → is_clean view old
      pub world : is_clean view new → world view new ≡ world view old
      pub kept : PutsOnRecord (hub_view view old) (hub_view view new)
      pub journaled : AreSmall old → (is_hosted : List ℕ → Bool) (events : List Event) → Journals contents is_hosted old events → HasJournaled contents is_hosted new events

    -- a turn may be told: the hub took some steps, and their turn has ended
    pub record IsTold (old new : TurnHub S V W) (C : List Step → Type 0) : Type 0 where
      pub last : TurnHub S V W
      pub takes : Takes view handlers contents old last C
      pub ends : Ends last new
      pub kept : flush_of old ≡ Later → (on_record : Rows) → HasOnRecord on_record (hub_view view old) → IsKept (hub_view view new)
      -- the journal, if there is one, has their events in its file
      pub journaled : flush_of old ≡ Later → (n : ℕ) → AreUpTo n old → IsCount (length takes.steps + n + 2) → (is_hosted : List ℕ → Bool) → AllStand is_hosted takes.steps
          → (events : List Event) → Journals contents is_hosted old events → (after : List Event) × NotesAll events takes.steps after × HasJournaled contents is_hosted new after

  -- a stop at the end of a turn leaves what was on record, or the rows of the hub
  abbrev pub FindsEnd : TurnHub S V W → TurnHub S V W → Type 0
  FindsEnd old new = (on_record : Rows) → HasOnRecord on_record (hub_view view old) → (r : Rows) → (hub_view view new).may_find r → (r ≡ on_record) ⊎ (is_clean view old × (r ≡ (world view old).rows))

  -- those rows are the ones after the steps of a turn
  pub record AreAfter (old : TurnHub S V W) (C : List Step → Type 0) (rows : Rows) : Type 0 where
    pub steps : List Step
    pub after : World
    pub change : C steps
    pub runs : Runs (setting handlers old) (world view old) steps after
    pub same : rows ≡ after.rows

module _ {T S V W : Type 0} (view : S → StoreView) (handlers : V → HandlerView) (remaining contents : T → Option (List ℕ)) (m : ℕ) where
  -- what the peers of a server become in a turn at moment m, and its steps
  abbrev pub TurnOf : TurnServer T S V W → List (Peer T) → List Step → Type 0
  TurnOf old new = ServesTurn remaining contents (setting handlers old.hub).is_hosted m (origins_of old.lobby) (peers_of old.gateway) new

  -- a stop leaves what was on record, or the rows after the steps of the turn
  abbrev pub FindsTurn : TurnServer T S V W → TurnHub S V W → Type 0
  FindsTurn old new = flush_of old.hub ≡ Later → (on_record : Rows) → HasOnRecord on_record (hub_view view old.hub)
      → (r : Rows) → (hub_view view new).may_find r → (r ≡ on_record) ⊎ ((last : List (Peer T)) × AreAfter view handlers old.hub (TurnOf old last) r)

  -- a turn at moment m, and what has become of what was written in it
  pub record EndsTurn (journaled : W → Option (List ℕ)) (written : Written) (old new : TurnServer T S V W) : Type 0 where
    -- a server that goes on serving has given it to the system, and the turn may be told
    pub told : new.state ≡ Serving → (written ≡ Given) × IsTold view handlers journaled old.hub new.hub (TurnOf old (peers_of new.gateway))
    -- else nothing of it is given where changes are committed together
    pub untold : new.state ≢ Serving → old.hub.commits ≡ TogetherInTurns → written ≢ Given
    -- then all connections end, unless the journal can't be written: nothing can be told any more
    pub ended : new.state ≢ Serving → new.state ≢ Unwritten → (last : List (Peer T)) × AllZip (Failed contents) last (peers_of new.gateway)
    pub stopped : FindsTurn old new.hub
