-- Steps of the hub.
use Rattle.std.proofs.Common.{Bool, is_ok, Err, List, None, Ok, Option, Result, Some, [], add-one, ap, arith, false, if◌then◌else◌, inl, inr, length, nat_lt, refl, slice_index_or, subst, suc, sym, true, true≢false, zero, ℕ, ◌++◌, ◌+◌, ◌∙◌, ◌∷◌, ◌≡◌, ◌||◌}
use Rattle.std.proofs.lemmas.List.{append_assoc, append-nil}
use Rattle.std.specs.Io.BufRead.{strip_last}
use Rattle.std.specs.Option.{IfSome}
use Rattle.std.specs.Prelude.{is_some}
use Rattle.std.specs.Result.{IsErr, IsErrAnd, is_err}
use Rattle.hub_events.specs.declared.event.Event.{Event}
use Rattle.hub_events.specs.declared.event.Event.TheVariants.{At}
use Rattle.hub_events.specs.declared.event.What.{What}
use Rattle.hub_events.specs.declared.out.Out.{Out}
use Rattle.hub_events.specs.declared.fault.Fault.{Fault}
use Rattle.hub_events.specs.declared.fault.Fault.TheVariants as fault
use Rattle.turn_hub.specs.declared.turn_hub.TurnHub.{TurnHub}
use Rattle.hub.specs.Hub.{is_taken, is_of_hosted}
use Rattle.turn_hub.specs.TurnHub.{KeepsRecord, flush_of, hub_view, is_clean, setting, world}
use Rattle.hub.specs.World.{Setting, World, world_outputs, world_step}
use Rattle.hub_rows.specs.Reads.{IsCounted}
use Rattle.hub_rows.specs.StoreView.{StoreView}
use Rattle.station_calls.specs.Vendors.{HandlerView}
use Rattle.lines.specs.declared.input_line.TheConstants.{MAX_LINE}
use Rattle.lines.specs.Forms.{what_of}
use Rattle.lines.specs.Marks.{begin_line, end_line}
use Rattle.lines.specs.Orders.{order_of, order_in, is_order, has_line_feed}
use Rattle.lines.specs.Words.{◌>>=◌}
use Rattle.ws_peers.specs.Lists as lists
use Rattle.ws_peers.specs.Peers.{route_of}
use Rattle.ws_peers.specs.declared.peer.Peer.{Peer}
use Rattle.ws_peers.specs.declared.routes.Route.{Route}
use Rattle.ws_peers.specs.declared.routes.Route.TheVariants.{Station, Operator}
use Rattle.ws_server.specs.Admits.{WelcomesOne, WelcomesSome}
use Rattle.ws_server.specs.Events.{word_of, order_text, event_of, parting, is_route_of_hosted}
use Rattle.ws_server.specs.Turns.{Change, Then, Alone, Becomes, AtPlace, EachOf, FirstPlaces, HandsOrRefuses, Between, Answers, HandsText, Means, Parts, PartsAs}
use Rattle.ws_server.specs.Steps.{JournalsSteps, Step, Runs, Takes}
use Rattle.turn_hub.specs.Journals.{AreUpTo, HasSameJournal, Journals}
use Rattle.hub_rows.specs.declared.store.Flush.TheVariants.{Later}
use Rattle.ws_server.proofs.JournalLaws.{journals_kept, journals_left, journals_more, journals_same}

-- ---- what a fault says of an operator
is-not-hosted : Fault → Bool
is-not-hosted fault.NoSuchOperator = true
is-not-hosted _ = false

means-memory : (hosted : Bool) → Means hosted fault.NoMemory
unfolding is-not-hosted
means-memory hosted e = absurd (true≢false (sym (ap is-not-hosted e)))

-- an order of an operator is an event of it
order-if : (hosts : List ℕ → Bool) (op : List ℕ) (m : ℕ) (what : What) (b : Bool) → IfSome (if b then Some (At op m what) else None) (λ event. is_of_hosted hosts event ≡ hosts op)
order-if hosts op m what true = refl
order-if hosts op m what false = tt

order-in : (hosts : List ℕ → Bool) (op : List ℕ) (m : ℕ) (w : Option What) → IfSome (w >>= λ what. if is_order what then Some (At op m what) else None) (λ event. is_of_hosted hosts event ≡ hosts op)
order-in hosts op m None = tt
order-in hosts op m (Some what) = order-if hosts op m what (is_order what)

order-unless : (P : Event → Type 0) (b : Bool) (order : Option Event) → IfSome order P → IfSome (if b then None else order) P
order-unless P true order is = tt
order-unless P false order is = is

order-hosted : (hosts : List ℕ → Bool) (op : List ℕ) (m : ℕ) (text : List ℕ) → IfSome (order_of op m text) (λ event. is_of_hosted hosts event ≡ hosts op)
unfolding order_of
order-hosted hosts op m text = order-unless (λ event. is_of_hosted hosts event ≡ hosts op) (nat_lt MAX_LINE (length text) || has_line_feed text) (order_in op m (strip_last 13 text)) (order-in hosts op m (what_of (strip_last 13 text)))

-- the event of a text is of the operator of its route
text-hosted : (hosts : List ℕ → Bool) (route : Route) (m : ℕ) (text : List ℕ) → IfSome (event_of route m text) (λ event. is_of_hosted hosts event ≡ is_route_of_hosted hosts route)
text-hosted hosts (Station op station) m text = refl
text-hosted hosts (Operator op) m text = order-hosted hosts op m (order_text text)

module _ {T : Type 0} (contents : T → Option (List ℕ)) (hosts : List ℕ → Bool) where
  -- an order that meets a fault
  lost : (m n : ℕ) (text : List ℕ) (route : Route) (event : Option Event) (old new : List (Peer T)) (steps : List Step) (f : Fault)
      → ((d : Peer T) → route ≡ route_of (slice_index_or old n d)) → event ≡ event_of route m text → HandsOrRefuses contents hosts n event old new steps (Err f) → HandsText contents hosts m n text old new steps (Err f)
  lost m n text route None old new steps f at is change = absurd (true≢false (ap is_err change.2))
  lost m n text route (Some event) old new steps f at is change =
      let hosted = subst (λ e. IfSome e (λ event. is_of_hosted hosts event ≡ is_route_of_hosted hosts route)) (sym is) (text-hosted hosts route m text) in
      (change.0, change.1, λ d no. ap (λ r. is_route_of_hosted hosts r) (sym (at d)) ∙ sym hosted ∙ change.2 no)

  -- a text that is answered
  pub answers-text : (m n : ℕ) (text : List ℕ) (route : Route) (word : Option (List ℕ)) (event : Option Event) (old new : List (Peer T)) (steps : List Step) (r : Result (Unit {0}) Fault)
      → ((d : Peer T) → route ≡ route_of (slice_index_or old n d)) → word ≡ word_of route text → event ≡ event_of route m text
      → Answers contents n word (HandsOrRefuses contents hosts n event) old new steps r → HandsText contents hosts m n text old new steps r
  answers-text m n text route word event old new steps (Ok u) at named is change =
      let with-word = subst (λ w. Answers contents n w (HandsOrRefuses contents hosts n event) old new steps (Ok u)) named change in
      (route, at, subst (λ e. Answers contents n (word_of route text) (HandsOrRefuses contents hosts n e) old new steps (Ok u)) is with-word)
  answers-text m n text route None event old new steps (Err f) at named is change = lost m n text route event old new steps f at is change
  answers-text m n text route (Some word) event old new steps (Err f) at named is change = lost m n text route event old new steps f at is change

  -- the same between the lines of a word
  pub answers-between : (m n : ℕ) (text begin end : List ℕ) (route : Route) (word : List ℕ) (event : Option Event) (old new : List (Peer T)) (steps : List Step) (r : Result (Unit {0}) Fault)
      → ((d : Peer T) → route ≡ route_of (slice_index_or old n d)) → Some word ≡ word_of route text → event ≡ event_of route m text
      → begin ≡ begin_line word → end ≡ end_line word → Between contents n begin end (HandsOrRefuses contents hosts n event) old new steps r → HandsText contents hosts m n text old new steps r
  answers-between m n text begin end route word event old new steps r at named is first last change =
      let C = HandsOrRefuses contents hosts n event in
      let begun = subst (λ b. Between contents n b end C old new steps r) first change in
      answers-text m n text route (Some word) event old new steps r at named is (subst (λ e. Between contents n (begin_line word) e C old new steps r) last begun)

  -- a peer that found no memory to part stays
  parts_as : (n : ℕ) (event : Option Event) (ps : List (Peer T)) (r : Result (Unit {0}) Fault) → IsErr r → IsErrAnd r (λ f. f ≡ fault.NoMemory) → is_some event ≡ true → PartsAs contents hosts n event ps ps [] r
  parts_as n None ps r err memory leaves = absurd (true≢false (sym leaves))
  parts_as n (Some event) ps (Ok u) err memory leaves = absurd (true≢false (sym err))
  parts_as n (Some event) ps (Err f) err memory leaves = (refl, refl, subst (λ x. Means (is_of_hosted hosts event) x) (sym memory) (means-memory (is_of_hosted hosts event)))

  pub stays : (m n : ℕ) (ps : List (Peer T)) (p : Peer T) (r : Result (Unit {0}) Fault) → IsErr r → IsErrAnd r (λ f. f ≡ fault.NoMemory) → is_some (parting m p) ≡ true → ((d : Peer T) → p ≡ slice_index_or ps n d) → Parts contents hosts m n ps ps [] r
  stays m n ps p r err memory leaves at = (parting m p, λ d. ap (parting m) (at d), parts_as n (parting m p) ps r err memory leaves)

-- what is so of the peer at a place beside what becomes of it
pub at_with : {P : Type 0} (R : P → P → Type 0) (Q : P → Type 0) (n : ℕ) (old new : List P) → lists.At R n old new → ((d : P) → Q (slice_index_or old n d)) → lists.At (λ p q. R p q × Q p) n old new
at_with R Q n [] new at is = absurd at
at_with R Q n (x ∷ xs) [] at is = absurd at
at_with R Q zero (x ∷ xs) (y ∷ ys) at is = ((at.0, is x), at.1)
at_with R Q (suc n) (x ∷ xs) (y ∷ ys) at is = (at.0, at_with R Q n xs ys at.1 is)

-- steps after steps
runs-append : (st : Setting) (w v u : World) (before after : List Step) → Runs st w before v → Runs st v after u → Runs st w (before ++ after) u
runs-append st w v u [] after e more = subst (λ x. Runs st x after u) e more
runs-append st w v u (s ∷ before) after runs more = (runs.0, runs.1, runs-append st (world_step st w s.event) v u before after runs.2 more)

module _ {S V W : Type 0} (view : S → StoreView) (handlers : V → HandlerView) (contents : W → Option (List ℕ)) (old new : TurnHub S V W) where
  -- one event
  pub handed : (Change : List Step → Type 0) (event : Event) (outs : List Out) → Change (record { event = event; outs = outs } ∷ [])
      → JournalsSteps contents old new (record { event = event; outs = outs } ∷ [])
      → is_taken (setting handlers old) event ≡ true
      → setting handlers new ≡ setting handlers old
      → (is_clean view new → outs ≡ world_outputs (setting handlers old) (world view old) event)
      → (is_clean view new → world view new ≡ world_step (setting handlers old) (world view old) event)
      → Takes view handlers contents old new Change
  handed Change event outs change journals taken stays said moves = record {
    steps = record { event = event; outs = outs } ∷ [];
    change = change;
    runs = λ c. (taken, said c, moves c);
    stays = stays;
    journals = journals;
  }

  -- none
  pub nothing : (Change : List Step → Type 0) → Change [] → setting handlers new ≡ setting handlers old → (is_clean view new → world view new ≡ world view old) → JournalsSteps contents old new [] → Takes view handlers contents old new Change
  nothing Change change stays stands journals = record { steps = []; change = change; runs = stands; stays = stays; journals = journals }

  -- an event that met a fault
  pub left : (Change : List Step → Type 0) (WasOk : Type 0) → Change [] → setting handlers new ≡ setting handlers old → (is_clean view new → world view new ≡ world view old) → KeepsRecord view old new WasOk
      → ((n : ℕ) → AreUpTo n old → AreUpTo n new)
      → (flush_of old ≡ Later → (is_hosted : List ℕ → Bool) (events : List Event) → Journals contents is_hosted old events → Journals contents is_hosted new events)
      → Takes view handlers contents old new Change
  left Change WasOk change stays stands records counts kept = nothing Change change stays stands (journals_left contents old new records.waits counts kept)

  -- a call that is no event
  pub asked : (Change : List Step → Type 0) (WasOk : Type 0) → Change [] → setting handlers new ≡ setting handlers old → (is_clean view new → world view new ≡ world view old) → KeepsRecord view old new WasOk
      → HasSameJournal old new → Takes view handlers contents old new Change
  asked Change WasOk change stays stands records same = nothing Change change stays stands (journals_same contents old new records.waits same)

  -- the same steps, of which more holds
  pub changed : (C D : List Step → Type 0) → ((steps : List Step) → C steps → D steps) → Takes view handlers contents old new C → Takes view handlers contents old new D
  changed C D to takes = record { steps = takes.steps; change = to takes.steps takes.change; runs = takes.runs; stays = takes.stays; journals = takes.journals }

-- no call of a hub
pub stayed : {S V W : Type 0} (view : S → StoreView) (handlers : V → HandlerView) (contents : W → Option (List ℕ)) (h : TurnHub S V W) (Change : List Step → Type 0) → Change [] → Takes view handlers contents h h Change
stayed view handlers contents h Change change = nothing view handlers contents h h Change change refl (λ _. refl) (journals_kept contents h)

module _ {S V W : Type 0} (view : S → StoreView) (old mid new : TurnHub S V W) where
  pub counted_more : (Early Late : Type 0) → IsCounted (hub_view view) old mid Early → IsCounted (hub_view view) mid new Late → IsCounted (hub_view view) old new ⊥
  counted_more Early Late first second = record {
    was_clean = λ c. first.was_clean (second.was_clean c);
    failed = λ f. absurd f;
    count = omega (arith, first.count, second.count);
  }

module _ {S V W : Type 0} (view : S → StoreView) (handlers : V → HandlerView) (contents : W → Option (List ℕ)) (old mid new : TurnHub S V W) where
  -- steps after steps
  pub taken_on : (C D E : List Step → Type 0) → ((before after : List Step) → C before → D after → E (before ++ after))
      → (is_clean view new → is_clean view mid)
      → Takes view handlers contents old mid C → Takes view handlers contents mid new D → Takes view handlers contents old new E
  taken_on C D E joins was first second = record {
    steps = first.steps ++ second.steps;
    change = joins first.steps second.steps first.change second.change;
    runs = λ c. runs-append (setting handlers old) (world view old) (world view mid) (world view new) first.steps second.steps (first.runs (was c)) (subst (λ st. Runs st (world view mid) second.steps (world view new)) first.stays (second.runs c));
    stays = second.stays ∙ first.stays;
    journals = journals_more contents old mid new first.steps second.steps first.journals second.journals;
  }

module _ {P : Type 0} (C : ℕ → Change P) where
  -- one place more
  pub place_more : (n : ℕ) (old mid new : List P) (before after : List Step) → FirstPlaces C n old mid before → C n mid new after (Ok tt) → FirstPlaces C (n + 1) old new (before ++ after)
  place_more n old mid new before after first more = rw add-one (mid, before, after, first, more, refl)

module _ {P : Type 0} where
  -- a change that fails is the last
  pub fails : (C D : Change P) (old new : List P) (steps : List Step) (fault : Fault) (r : Result (Unit {0}) Fault) → IsErr r → IsErrAnd r (λ e. e ≡ fault) → C old new steps (Err fault) → Then C D old new steps r
  fails C D old new steps fault (Ok u) err same change = absurd (true≢false (sym err))
  fails C D old new steps fault (Err e) err same change = inr (fault, change, ap Err same)

  -- after a change that the hub has no part in
  pub alone : (R : List P → List P → Type 0) (D : Change P) (old mid new : List P) (steps : List Step) (r : Result (Unit {0}) Fault) → R old mid → D mid new steps r → Then (Alone R) D old new steps r
  alone R D old mid new steps r so change = inl (mid, [], steps, (so, refl, refl), change, refl)

  pub becomes : (f : List P → List P) (D : Change P) (old mid new : List P) (steps : List Step) (r : Result (Unit {0}) Fault) → mid ≡ f old → D mid new steps r → Then (Becomes f) D old new steps r
  becomes f D old mid new steps r is change = alone (λ before after. after ≡ f before) D old mid new steps r is change

  -- after another
  pub follows : (C D : Change P) (old mid new : List P) (before after : List Step) (r : Result (Unit {0}) Fault) → C old mid before (Ok tt) → D mid new after r → Then C D old new (before ++ after) r
  follows C D old mid new before after r first second = inl (mid, before, after, first, second, refl)

pub err_is : {A E : Type 0} (r : Result A E) (e : E) → IsErr r → IsErrAnd r (λ x. x ≡ e) → Err e ≡ r
err_is (Ok x) e err same = absurd (true≢false (sym err))
err_is (Err x) e err same = ap Err (sym same)

-- ---- places, one after the other
module _ {P : Type 0} (C : ℕ → Change P) where
  -- one place more
  pub each_more : (places : List ℕ) (n : ℕ) (old mid new : List P) (before after : List Step) (r : Result (Unit {0}) Fault) → EachOf C places old mid before (Ok tt) → AtPlace C n mid new after r → EachOf C (places ++ (n ∷ [])) old new (before ++ after) r
  each_more [] n old mid new before after r (same, none, ok) at =
      subst (λ steps. EachOf C (n ∷ []) old new steps r) (ap (λ b. b ++ after) (sym none)) (last r (subst (λ p. AtPlace C n p new after r) same at))
    where
      last : (r : Result (Unit {0}) Fault) → AtPlace C n old new after r → EachOf C (n ∷ []) old new after r
      last (Ok u) at = inl (new, after, [], at, (refl, refl, refl), sym (append-nil after))
      last (Err fault) at = inr (fault, at, refl)
  each_more (p ∷ places) n old mid new before after r (inl (here, one, more, first, rest, all)) at =
      inl (here, one, more ++ after, first, each_more places n here mid new more after r rest at, ap (λ b. b ++ after) all ∙ append_assoc one more after)
  each_more (p ∷ places) n old mid new before after r (inr (fault, failed, same)) at = absurd (true≢false (ap is_ok same))

module _ {T : Type 0} (remaining contents : T → Option (List ℕ)) (m : ℕ) where
  -- one more connection is welcomed
  pub welcomes-more : (origins : List (List ℕ)) (old mid new : List (Peer T)) (before after : List Step) → WelcomesSome remaining contents m origins old mid before (Ok tt) → WelcomesOne remaining contents m origins mid new after (Ok tt) → WelcomesSome remaining contents m origins old new (before ++ after) (Ok tt)
  welcomes-more origins old mid new before after first more = (first.0 + 1, place_more (λ _. WelcomesOne remaining contents m origins) first.0 old mid new before after first.1 more)

  -- one that ends in a fault is the last
  pub welcomes-fails : (origins : List (List ℕ)) (old mid new : List (Peer T)) (before after : List Step) (f : Fault) (r : Result (Unit {0}) Fault) → IsErr r → IsErrAnd r (λ e. e ≡ f)
      → WelcomesSome remaining contents m origins old mid before (Ok tt) → WelcomesOne remaining contents m origins mid new after (Err f) → WelcomesSome remaining contents m origins old new (before ++ after) r
  welcomes-fails origins old mid new before after f (Ok u) err same first more = absurd (true≢false (sym err))
  welcomes-fails origins old mid new before after f (Err e) err same first more = subst (λ x. WelcomesSome remaining contents m origins old new (before ++ after) (Err x)) (sym same) (first.0, mid, before, after, first.1, more, refl)
