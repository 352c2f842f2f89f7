-- How far a journal is followed.
use Rattle.std.specs.Prelude.{◌≡◌, ◌++◌, ℕ, List, [], Option, Some, None, Result, Ok, Err, IfSome}
use Rattle.hub_events.specs.declared.event.Event.{Event as HubEvent}
use Rattle.hub.specs.World.{Setting, World, world_run}
use Rattle.journal.specs.Journals.{lines_of}
use Rattle.standby.specs.Follows.{Pending, taken_in, taken_of, IsReached}
use Rattle.standby.specs.declared.fault.FollowFault.{FollowFault}
use Rattle.standby.specs.declared.following.Ended.{Ended}

-- the events that were taken so far, and those that are to come by what waits and is left
pub record Progress (st : Setting) (w v : World) (waiting : Pending) (all : List HubEvent) (left : List (List ℕ)) : Type 0 where
  pub done : List HubEvent
  pub is : v ≡ world_run st w done
  pub all_of : done ++ taken_of st.is_hosted waiting left ≡ all

-- the same of what a reader had and has left, where that is known
abbrev pub Followed : Type 0 → Setting → World → World → Pending → Option (List ℕ) → Option (List ℕ) → Type 0
Followed Clean st w v waiting None now = Unit {0}
Followed Clean st w v waiting (Some input) None = ⊥
Followed Clean st w v waiting (Some input) (Some rest) =
    Clean → Progress st w v waiting (taken_in st.is_hosted 0 input) (lines_of rest)

-- all is followed
abbrev pub IsFollowed : Type 0 → Setting → World → World → Option (List ℕ) → Type 0
IsFollowed Clean st w v input = Clean → IfSome input (λ bytes. v ≡ world_run st w (taken_in st.is_hosted 0 bytes))

-- it is followed no further
abbrev pub IsFollowedUpTo : Type 0 → Setting → World → World → Option (List ℕ) → Type 0
IsFollowedUpTo Clean st w v input = Clean → IfSome input (λ bytes. IsReached st w (taken_in st.is_hosted 0 bytes) v)

-- after one line, by what was answered for it
abbrev pub AfterLine : Type 0 → Setting → World → World → Pending → Option (List ℕ) → Option (List ℕ) → Result (Option Ended) FollowFault → Type 0
AfterLine Clean st w v waiting old now (Ok None) = Followed Clean st w v waiting old now
AfterLine Clean st w v waiting old now (Ok (Some ended)) = IsFollowed Clean st w v old
AfterLine Clean st w v waiting old now (Err fault) = IsFollowedUpTo Clean st w v old
