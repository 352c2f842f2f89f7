-- A hub that takes events in turns, as contracts see it.
use Rattle.std.specs.Prelude.{◌≡◌, ◌+◌, Bool, true, false}
use Rattle.hub_rows.specs.Stops.{FindsOld, StaysOnRecord}
use Rattle.hub_rows.specs.StoreView.{StoreView}
use Rattle.hub_rows.specs.declared.store.Flush.{Flush}
use Rattle.hub_rows.specs.declared.store.Flush.TheVariants.{AtOnce, Later}
use Rattle.hub.specs.Hub as of_hub
use Rattle.hub.specs.World.{Setting, World}
use Rattle.station_calls.specs.Vendors.{HandlerView}
use Rattle.turn_hub.specs.declared.turn_hub.Commits.{Commits}
use Rattle.turn_hub.specs.declared.turn_hub.Commits.TheVariants.{Each, Turns}
use Rattle.turn_hub.specs.declared.turn_hub.TurnHub.{TurnHub}

-- when a change is flushed, by when changes are committed and whether the next one is committed alone
abbrev pub flush_by : Commits → Bool → Flush
flush_by Each is_alone = AtOnce
flush_by Turns true = AtOnce
flush_by Turns false = Later

module _ {S V W : Type 0} where
  -- the store of its hub; a failure of the journal counts as one of it
  abbrev pub hub_view : (S → StoreView) → TurnHub S V W → StoreView
  hub_view view h = record (of_hub.hub_view view h.hub) { failures = h.failures + (of_hub.hub_view view h.hub).failures }

  abbrev pub is_clean : (S → StoreView) → TurnHub S V W → Type 0
  is_clean view h = of_hub.is_clean view h.hub

  abbrev pub world : (S → StoreView) → TurnHub S V W → World
  world view h = of_hub.world view h.hub

  abbrev pub setting : (V → HandlerView) → TurnHub S V W → Setting
  setting view h = of_hub.setting view h.hub

  -- when the change of an event is flushed
  abbrev pub flush_of : TurnHub S V W → Flush
  flush_of h = flush_by h.commits h.is_alone

  -- what a call of a turn says of the records where changes wait for its end, and whether it is Ok: what is on record stays
  pub record KeepsRecord (view : S → StoreView) (old new : TurnHub S V W) (WasOk : Type 0) : Type 0 where
    pub commits : new.commits ≡ old.commits
    pub waits : flush_of old ≡ Later → flush_of new ≡ Later
    pub left : flush_of old ≡ Later → FindsOld (hub_view view old) (hub_view view new)
    pub stays : flush_of old ≡ Later → WasOk → StaysOnRecord (hub_view view old) (hub_view view new)
