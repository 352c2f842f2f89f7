-- How far a journal is followed, line by line.
use Rattle.std.proofs.Common.{◌≡◌, ◌∙◌, ◌++◌, ◌∷◌, ℕ, List, [], Option, Some, None, Bool, Result, Ok, Err, refl, sym, subst, ap, true≢false}
use Rattle.std.specs.Prelude.{IfOk, IfSome, IsErr, is_some}
use Rattle.std.proofs.lemmas.List.{append_assoc, append-nil}
use Rattle.hub_events.specs.declared.event.Event.{Event as HubEvent}
use Rattle.hub.specs.World.{Setting, World, world_run}
use Rattle.journal.specs.Entries.{entry_of}
use Rattle.journal.specs.Journals.{lines_of}
use Rattle.journal.specs.declared.entry.Entry.{Entry}
use Rattle.standby.specs.Follows.{Pending, none_waits, taken_here, taken_in, taken_of, waiting_after, Reads, IsReached}
use Rattle.standby.specs.Progress.{Progress, Followed, IsFollowed, IsFollowedUpTo, AfterLine}
use Rattle.standby.specs.declared.fault.FollowFault.{FollowFault}
use Rattle.standby.specs.declared.following.Ended.{Ended}
use Rattle.standby.proofs.Laws.{run_both}

-- the events of the lines after one, where those waits for a mark
abbrev pub taken_behind : (List ℕ → Bool) → List (List ℕ) → Option Pending → List HubEvent
taken_behind is_hosted rest None = []
taken_behind is_hosted rest (Some v) = taken_of is_hosted v rest

by_next : (is_hosted : List ℕ → Bool) (here : List HubEvent) (rest : List (List ℕ)) (next : Option Pending)
    → here ++ elim next [ Some v ↦ taken_of is_hosted v rest | None ↦ [] ] ≡ here ++ taken_behind is_hosted rest next
by_next is_hosted here rest None = refl
by_next is_hosted here rest (Some v) = refl

one_line : (is_hosted : List ℕ → Bool) (w : Pending) (line : List ℕ) (rest : List (List ℕ)) (entry : Entry) (next : Option Pending) → entry ≡ entry_of is_hosted line
    → waiting_after w line entry ≡ next → taken_of is_hosted w (line ∷ rest) ≡ taken_here w entry ++ taken_behind is_hosted rest next
unfolding taken_of
one_line is_hosted w line rest entry next says is =
    by_next is_hosted (taken_here w (entry_of is_hosted line)) rest (waiting_after w line (entry_of is_hosted line))
    ∙ ap (λ e. taken_here w e ++ taken_behind is_hosted rest (waiting_after w line e)) (sym says) ∙ ap (λ o. taken_here w entry ++ taken_behind is_hosted rest o) is

-- ---- a line of the server

line_left : (st : Setting) (w v u : World) (before after : Pending) (all : List HubEvent) (left rest : List (List ℕ)) (line : List ℕ) (entry : Entry) (taken : List HubEvent) → left ≡ line ∷ rest
    → entry ≡ entry_of st.is_hosted line → taken ≡ taken_here before entry → waiting_after before line entry ≡ Some after → u ≡ world_run st v taken
    → Progress st w v before all left → Progress st w u after all rest
line_left st w v u before after all left rest line entry taken next says is waits ran p = record {
  done = p.done ++ taken;
  is = ran ∙ ap (λ x. world_run st x taken) p.is ∙ sym (run_both st w p.done taken);
  all_of = append_assoc p.done taken (taken_of st.is_hosted after rest)
      ∙ ap (λ es. p.done ++ es) (ap (λ es. es ++ taken_of st.is_hosted after rest) is ∙ sym (one_line st.is_hosted before line rest entry (Some after) says waits))
      ∙ sym (ap (λ ls. p.done ++ taken_of st.is_hosted before ls) next) ∙ p.all_of;
}

pub goes_on : (Clean Later : Type 0) (st : Setting) (w v u : World) (before after : Pending) (old now new : Option (List ℕ)) (hosts : List ℕ → Bool) (line : List ℕ) (entry : Entry) (taken : List HubEvent)
    → hosts ≡ st.is_hosted → entry ≡ entry_of hosts line → taken ≡ taken_here before entry → waiting_after before line entry ≡ Some after
    → Followed Clean st w v before old now → Reads now (Some line) new → (Later → Clean) → (Later → u ≡ world_run st v taken) → Followed Later st w u after old new
goes_on Clean Later st w v u before after None now new hosts line entry taken same says is waits f next was ran = tt
goes_on Clean Later st w v u before after (Some input) None new hosts line entry taken same says is waits f next was ran = absurd f
goes_on Clean Later st w v u before after (Some input) (Some rest) None hosts line entry taken same says is waits f next was ran = absurd next
goes_on Clean Later st w v u before after (Some input) (Some rest) (Some left) hosts line entry taken same says is waits f next was ran =
    λ later. line_left st w v u before after _ (lines_of rest) (lines_of left) line entry taken next (subst (λ (h : List ℕ → Bool). entry ≡ entry_of h line) same says) is waits (ran later) (f (was later))

-- ---- where another server begins

last_left : (st : Setting) (w v u : World) (before : Pending) (all : List HubEvent) (left rest : List (List ℕ)) (line : List ℕ) (entry : Entry) (taken : List HubEvent) → left ≡ line ∷ rest
    → entry ≡ entry_of st.is_hosted line → taken ≡ taken_here before entry → waiting_after before line entry ≡ None → u ≡ world_run st v taken → Progress st w v before all left → u ≡ world_run st w all
last_left st w v u before all left rest line entry taken next says is waits ran p =
    ran ∙ ap (λ x. world_run st x taken) p.is ∙ sym (run_both st w p.done taken)
    ∙ ap (world_run st w) (ap (λ es. p.done ++ es) (is ∙ sym (append-nil (taken_here before entry)) ∙ sym (one_line st.is_hosted before line rest entry None says waits))
    ∙ sym (ap (λ ls. p.done ++ taken_of st.is_hosted before ls) next) ∙ p.all_of)

pub begins : (Clean Later : Type 0) (st : Setting) (w v u : World) (before : Pending) (old now new : Option (List ℕ)) (hosts : List ℕ → Bool) (line : List ℕ) (entry : Entry) (taken : List HubEvent)
    → hosts ≡ st.is_hosted → entry ≡ entry_of hosts line → taken ≡ taken_here before entry → waiting_after before line entry ≡ None
    → Followed Clean st w v before old now → Reads now (Some line) new → (Later → Clean) → (Later → u ≡ world_run st v taken) → IsFollowed Later st w u old
begins Clean Later st w v u before None now new hosts line entry taken same says is waits f next was ran = λ later. tt
begins Clean Later st w v u before (Some input) None new hosts line entry taken same says is waits f next was ran = absurd f
begins Clean Later st w v u before (Some input) (Some rest) None hosts line entry taken same says is waits f next was ran = absurd next
begins Clean Later st w v u before (Some input) (Some rest) (Some left) hosts line entry taken same says is waits f next was ran =
    λ later. last_left st w v u before _ (lines_of rest) (lines_of left) line entry taken next (subst (λ (h : List ℕ → Bool). entry ≡ entry_of h line) same says) is waits (ran later) (f (was later))

-- ---- the end

end_left : (st : Setting) (w v u : World) (before : Pending) (all : List HubEvent) (left : List (List ℕ)) → left ≡ [] → u ≡ world_run st v before.held → Progress st w v before all left → u ≡ world_run st w all
unfolding taken_of
end_left st w v u before all left none ran p =
    ran ∙ ap (λ x. world_run st x before.held) p.is ∙ sym (run_both st w p.done before.held)
    ∙ ap (world_run st w) (sym (ap (λ ls. p.done ++ taken_of st.is_hosted before ls) none) ∙ p.all_of)

pub ends : (Clean Later : Type 0) (st : Setting) (w v u : World) (before : Pending) (old now new : Option (List ℕ))
    → Followed Clean st w v before old now → Reads now None new → (Later → Clean) → (Later → u ≡ world_run st v before.held) → IsFollowed Later st w u old
ends Clean Later st w v u before None now new f next was ran = λ later. tt
ends Clean Later st w v u before (Some input) None new f next was ran = absurd f
ends Clean Later st w v u before (Some input) (Some rest) new f next was ran =
    λ later. end_left st w v u before _ (lines_of rest) next (ran later) (f (was later))

-- ---- faults

-- it is followed no further
pub stops : (Clean : Type 0) (st : Setting) (w v : World) (waiting : Pending) (old now : Option (List ℕ))
    → Followed Clean st w v waiting old now → Clean → IfSome old (λ input. IsReached st w (taken_in st.is_hosted 0 input) v)
stops Clean st w v waiting None now f clean = tt
stops Clean st w v waiting (Some input) None f clean = absurd f
stops Clean st w v waiting (Some input) (Some rest) f clean = let p = f clean in record { done = p.done; more = _; is = p.is; all_of = p.all_of }

-- a fault met one of those that were taken with a line
part_left : (st : Setting) (w v u : World) (before : Pending) (all : List HubEvent) (left rest : List (List ℕ)) (line : List ℕ) (entry : Entry) (taken : List HubEvent) → left ≡ line ∷ rest
    → entry ≡ entry_of st.is_hosted line → taken ≡ taken_here before entry → IsReached st v taken u → Progress st w v before all left → IsReached st w all u
part_left st w v u before all left rest line entry taken next says is part p =
    let behind = taken_behind st.is_hosted rest (waiting_after before line entry) in
    record {
      done = p.done ++ part.done;
      more = part.more ++ behind;
      is = part.is ∙ ap (λ x. world_run st x part.done) p.is ∙ sym (run_both st w p.done part.done);
      all_of = append_assoc p.done part.done (part.more ++ behind)
          ∙ ap (λ es. p.done ++ es) (sym (append_assoc part.done part.more behind) ∙ ap (λ es. es ++ behind) (part.all_of ∙ is)
          ∙ sym (one_line st.is_hosted before line rest entry (waiting_after before line entry) says refl))
          ∙ sym (ap (λ ls. p.done ++ taken_of st.is_hosted before ls) next) ∙ p.all_of;
    }

pub parts : (Clean : Type 0) (st : Setting) (w v u : World) (before : Pending) (old now new : Option (List ℕ)) (hosts : List ℕ → Bool) (line : List ℕ) (entry : Entry) (taken : List HubEvent)
    → hosts ≡ st.is_hosted → entry ≡ entry_of hosts line → taken ≡ taken_here before entry
    → Followed Clean st w v before old now → Reads now (Some line) new → Clean → IsReached st v taken u → IfSome old (λ input. IsReached st w (taken_in st.is_hosted 0 input) u)
parts Clean st w v u before None now new hosts line entry taken same says is f next clean part = tt
parts Clean st w v u before (Some input) None new hosts line entry taken same says is f next clean part = absurd f
parts Clean st w v u before (Some input) (Some rest) None hosts line entry taken same says is f next clean part = absurd next
parts Clean st w v u before (Some input) (Some rest) (Some left) hosts line entry taken same says is f next clean part =
    part_left st w v u before _ (lines_of rest) (lines_of left) line entry taken next (subst (λ (h : List ℕ → Bool). entry ≡ entry_of h line) same says) is part (f clean)

-- a fault met one of those that were held at the end
end_part : (st : Setting) (w v u : World) (before : Pending) (all : List HubEvent) (left : List (List ℕ)) → left ≡ [] → IsReached st v before.held u → Progress st w v before all left → IsReached st w all u
unfolding taken_of
end_part st w v u before all left none part p = record {
  done = p.done ++ part.done;
  more = part.more;
  is = part.is ∙ ap (λ x. world_run st x part.done) p.is ∙ sym (run_both st w p.done part.done);
  all_of = append_assoc p.done part.done part.more ∙ ap (λ es. p.done ++ es) part.all_of ∙ sym (ap (λ ls. p.done ++ taken_of st.is_hosted before ls) none) ∙ p.all_of;
}

pub parts_at_end : (Clean : Type 0) (st : Setting) (w v u : World) (before : Pending) (old now new : Option (List ℕ))
    → Followed Clean st w v before old now → Reads now None new → Clean → IsReached st v before.held u → IfSome old (λ input. IsReached st w (taken_in st.is_hosted 0 input) u)
parts_at_end Clean st w v u before None now new f next clean part = tt
parts_at_end Clean st w v u before (Some input) None new f next clean part = absurd f
parts_at_end Clean st w v u before (Some input) (Some rest) new f next clean part = end_part st w v u before _ (lines_of rest) next part (f clean)

pub after_err : (Clean : Type 0) (st : Setting) (w v : World) (waiting : Pending) (old now : Option (List ℕ)) (r : Result (Option Ended) FollowFault)
    → IsErr r → IsFollowedUpTo Clean st w v old → AfterLine Clean st w v waiting old now r
after_err Clean st w v waiting old now (Ok x) is p = absurd (true≢false (sym is))
after_err Clean st w v waiting old now (Err fault) is p = p

-- more may come, or the records are others than the journal says
pub after_mark : (Clean : Type 0) (st : Setting) (w v : World) (waiting : Pending) (old now : Option (List ℕ)) (r : Result (Option Ended) FollowFault)
    → IfOk r (λ ended. ended ≡ None) → Followed Clean st w v waiting old now → AfterLine Clean st w v waiting old now r
after_mark Clean st w v waiting old now (Ok None) more f = f
after_mark Clean st w v waiting old now (Ok (Some ended)) more f = absurd (true≢false (ap is_some more))
after_mark Clean st w v waiting old now (Err fault) more f = λ clean. stops Clean st w v waiting old now f clean
