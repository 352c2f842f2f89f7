-- A settled use and a granted tag tell what they are said to, and no more.
use Rattle.std.specs.Prelude.{◌≡◌, ◌⊎◌, ◌↔◌, ℕ, suc, ◌+◌, ◌≤◌, nat_lt, List, [], ◌∷◌, ◌++◌, length, find, Contains, Bool, true, false, cond, ◌&&◌, ◌||◌, ◌==◌, is_none, filter_map, Option, Some, None, IfSome, option_and_then}
use Rattle.std.specs.List.{AllByRecursion, cons_option}
use Rattle.std.specs.Option.{option_map}
use Rattle.std.specs.Str.{bytes_eq}
use Rattle.std.proofs.Common.{refl, sym, ◌∙◌, ap, subst, arith, inl, inr, append-nil}
use Rattle.std.proofs.lemmas.Bool.{and_parts}
use Rattle.std.proofs.lemmas.Bool.Decides.{nat_tests}
use Rattle.ocpp_types.specs.TagKey.{key_of}
use Rattle.ocpp_types.specs.declared.authorization_status.AuthorizationStatus.{AuthorizationStatus}
use Rattle.ocpp_types.specs.declared.authorization_status.AuthorizationStatus.TheVariants.{Accepted, Blocked, Expired, Invalid, ConcurrentTx}
use Rattle.hub_rows.specs.declared.change.Edit.{Edit}
use Rattle.hub_rows.specs.declared.change.Edit.TheVariants.{Stations, Tags, Transactions, Holdings}
use Rattle.hub_rows.specs.declared.change.StationEdit.TheVariants.{StationAdded}
use Rattle.hub_rows.specs.declared.change.TagEdit.TheVariants.{TagDropped}
use Rattle.hub_rows.specs.declared.change.TransactionEdit.TheVariants.{TxStopped}
use Rattle.hub_rows.specs.declared.change.HoldingEdit.TheVariants.{ReservationDropped}
use Rattle.hub_rows.specs.declared.grant_row.GrantRow.{GrantRow}
use Rattle.hub_rows.specs.declared.info.GrantedTag.{GrantedTag}
use Rattle.hub_rows.specs.declared.info.Info.{Info}
use Rattle.hub_rows.specs.declared.meter_value_row.MeterValue.{MeterValue}
use Rattle.hub_rows.specs.declared.tag_row.TagRow.{TagRow}
use Rattle.hub_rows.specs.declared.tx_row.Stop.{Stop}
use Rattle.hub_rows.specs.declared.tx_row.TxOwnerRow.{TxOwnerRow}
use Rattle.hub_rows.specs.declared.tx_row.TxRow.{TxRow}
use Rattle.hub_rows.specs.declared.use_row.UseRow.{UseRow}
use Rattle.hub_rows.specs.Changes.{edit, IsOpen}
use Rattle.hub_rows.specs.Grants.{earlier, entry_by, granted_in, granted_until, grants_to, received_key}
use Rattle.hub_rows.specs.Keyed.{by_key, found, in_order, own}
use Rattle.hub_rows.specs.Lookups.{lookups_at}
use Rattle.hub_rows.specs.Rows.{Rows}
use Rattle.hub_rows.specs.Tags.{effective, is_blocked, is_parent_blocked, own_tag_in, tag_in}
use Rattle.hub_rows.specs.Transactions.{is_accepted, is_tx, last_of_all, state_of, tx_in}
use Rattle.hub_rows.specs.Uses.{if_of, is_owner_of, last_use_in, use_by, use_row}
use Rattle.hub_rows.specs.WellFormed.{IsGoodTx, IsGoodTxOwner, WellFormedRows}
use Rattle.hub_rows.proofs.FilterLaws.{all-passed}
use Rattle.hub_rows.proofs.ListLaws.{found_is, same_text}
use Rattle.hub_rows.proofs.OrderLaws.{all-in_order}
use Rattle.hub_rows.proofs.OwnLaws.{uses-edit}
use Rattle.hub_rows.proofs.OwnerLaws.{BeganAccepted}
use Rattle.hub_rows.proofs.UseLaws.{last-length}
use Rattle.event_plans.proofs.Fitting.{FitsLookups}
use Rattle.hub.specs.Tells.{AgreeOn, CountsAt, TellsOfTag, TellsOfUse, parent_of}

-- ---- elements

contained_in : {R : Type 0} (xs ys : List R) → ((x : R) → Contains xs x → Contains ys x) → AllByRecursion (Contains ys) xs
contained_in [] ys within = tt
contained_in (x ∷ xs) ys within = (within x (0, omega arith, refl), contained_in xs ys (λ y at. let low = at.1 in within y (suc at.0, omega (arith, low), at.2)))

contained : {R : Type 0} (xs : List R) → AllByRecursion (Contains xs) xs
contained xs = contained_in xs xs (λ x at. at)

-- what is found is there
found_in : {R : Type 0} (t : R → Bool) (xs : List R) (r : R) → find t xs ≡ Some r → Contains xs r
found_in t xs r is = (found_is (Contains xs) t xs (contained xs) r is).0

-- ---- a use

none_is : (o : Option Stop) → is_none o ≡ true → o ≡ None
none_is None is = refl
none_is (Some s) is = absurd (cc)

accepted_is : (s : AuthorizationStatus) → is_accepted s ≡ true → s ≡ Accepted
accepted_is Accepted is = refl
accepted_is Blocked is = absurd (cc)
accepted_is Expired is = absurd (cc)
accepted_is Invalid is = absurd (cc)
accepted_is ConcurrentTx is = absurd (cc)

-- an edit of operator b at moment m adds no use of a's, or one
abbrev pub AddsTo : List ℕ → List ℕ → ℕ → Rows → Option Edit → List UseRow → Type 0
AddsTo a b m rows e uses = (uses ≡ own (λ r. r.op) a rows.uses) ⊎ ((u : UseRow) × (uses ≡ own (λ r. r.op) a rows.uses ++ u ∷ []) × TellsOfUse a b m rows e u)

module _ (a b : List ℕ) (m : ℕ) (rows : Rows) (good : WellFormedRows rows) (station : List ℕ) (number : ℕ) (stop : Stop) (first : ℕ) (values : List MeterValue) (at_m : stop.moment ≡ m) where
  abbrev stopping : Edit
  stopping = Transactions (TxStopped station number stop first values)

  -- the use of a transaction that is on record with its owner
  use-tells : (c : TxOwnerRow) (r : TxRow) → found (λ x. x.op) b (is_owner_of station number) rows.tx_owners ≡ Some c → found (λ x. x.op) b (is_tx station number) rows.transactions ≡ Some r
      → IsOpen (tx_in b station number rows.transactions) → c.owner ≡ a → last_use_in c.owner rows.uses + 1 ≤ last_of_all → TellsOfUse a b m rows (Some stopping) (use_row c.owner (last_use_in c.owner rows.uses + 1) b r stop)
  use-tells c r is at is_open mine room =
      let tx = found_is (IsGoodTx rows.stations) (λ x. bytes_eq x.op b && is_tx station number x) rows.transactions good.transactions.each r at in
      let parts = and_parts (bytes_eq r.op b) (is_tx station number r) tx.1 in
      let of_station = and_parts (bytes_eq r.station station) (r.number == number) parts.1 in
      let same_op : r.op ≡ b = same_text r.op b parts.0 in
      let same_station : r.station ≡ station = same_text r.station station of_station.0 in
      let same_number : r.number ≡ number = grind (arith, nat_tests, of_station.1) in
      let kept = found_is (IsGoodTxOwner rows.transactions) (λ x. bytes_eq x.op b && is_owner_of station number x) rows.tx_owners good.tx_owners.each c is in
      let kept_parts = and_parts (bytes_eq c.op b) (is_owner_of station number c) kept.1 in
      let kept_station = and_parts (bytes_eq c.station station) (c.number == number) kept_parts.1 in
      let kept_op : c.op ≡ b = same_text c.op b kept_parts.0 in
      let kept_at : c.station ≡ station = same_text c.station station kept_station.0 in
      let kept_number : c.number ≡ number = grind (arith, nat_tests, kept_station.1) in
      record {
        tx = r;
        stop = stop;
        first_reading = first;
        values = values;
        stopped = λ i. Some (Transactions (TxStopped (sym same_station i) (sym same_number i) stop first values));
        on_record = found_in (λ x. bytes_eq x.op b && is_tx station number x) rows.transactions r at;
        of_host = same_op;
        is_open = none_is r.stop (subst (λ o. IsOpen (option_map state_of o)) at is_open);
        accepted = accepted_is r.start.status (subst BeganAccepted ((λ i. found (λ x. x.op) (kept_op i) (is_tx (kept_at i) (kept_number i)) rows.transactions) ∙ at) kept.0.tx);
        owner = subst (Contains rows.tx_owners) (λ i. record { op = kept_op i; station = (kept_at ∙ sym same_station) i; number = (kept_number ∙ sym same_number) i; owner = mine i }) (found_in (λ x. bytes_eq x.op b && is_owner_of station number x) rows.tx_owners c is);
        op = mine;
        number = (λ i. last-length c.owner rows.uses good.uses i + 1) ∙ (λ i. length (own (λ x. x.op) (mine i) rows.uses) + 1);
        in_range = room;
        host = refl;
        key = refl;
        moment = at_m;
        wh = refl;
      }

  stop-adds : IsOpen (tx_in b station number rows.transactions) → AddsTo a b m rows (Some stopping) (own (λ r. r.op) a (edit b stopping rows).uses)
  stop-adds is_open = go (found (λ x. x.op) b (is_owner_of station number) rows.tx_owners) refl (found (λ x. x.op) b (is_tx station number) rows.transactions) refl (uses-edit a b stopping rows good)
    where
      new : List UseRow
      new = own (λ r. r.op) a (edit b stopping rows).uses

      old : List UseRow
      old = own (λ r. r.op) a rows.uses

      none : new ≡ old ++ [] → AddsTo a b m rows (Some stopping) new
      none grown = inl (grown ∙ append-nil old)

      go : (o : Option TxOwnerRow) → found (λ x. x.op) b (is_owner_of station number) rows.tx_owners ≡ o → (r : Option TxRow) → found (λ x. x.op) b (is_tx station number) rows.transactions ≡ r
          → new ≡ old ++ if_of a (use_by b stop rows.uses (option_map (λ c. c.owner) o) r) → AddsTo a b m rows (Some stopping) new
      go None is r at grown = none grown
      go (Some c) is None at grown = none grown
      go (Some c) is (Some r) at grown =
          let last = last_use_in c.owner rows.uses in
          let u : UseRow = use_row c.owner (last + 1) b r stop in
          elim (nat_lt last last_of_all) as (λ t. nat_lt last last_of_all ≡ t → new ≡ old ++ if_of a (cond t (Some u) None) → AddsTo a b m rows (Some stopping) new) [
            | true ↦ λ room. elim (bytes_eq c.owner a) as (λ t. bytes_eq c.owner a ≡ t → new ≡ old ++ cond t (u ∷ []) [] → AddsTo a b m rows (Some stopping) new) [
              | true ↦ λ mine one. inr (u, one, use-tells c r is at is_open (same_text c.owner a mine) (grind (arith, nat_tests, room)))
              | false ↦ λ other. none
            ] refl
            | false ↦ λ full. none
          ] refl grown

pub edit-adds : (k : List ℕ → Bool) (a b : List ℕ) (m : ℕ) (rows : Rows) → WellFormedRows rows → (e : Edit) → FitsLookups k m (lookups_at b rows) e → AddsTo a b m rows (Some e) (own (λ r. r.op) a (edit b e rows).uses)
edit-adds k a b m rows good (Transactions (TxStopped station number stop first values)) fits = stop-adds a b m rows good station number stop first values fits.2 fits.0
edit-adds k a b m rows good (Stations (StationAdded station policy interval)) fits = inl refl
edit-adds k a b m rows good (Tags (TagDropped key)) fits = inl refl
edit-adds k a b m rows good (Holdings (ReservationDropped station id)) fits = inl refl
edit-adds k a b m rows good e fits = inl refl

-- two uses that tell the same are one
pub one-use : (a b : List ℕ) (m : ℕ) (rows others : Rows) (d e : Option Edit) (u v : UseRow) → TellsOfUse a b m rows d u → TellsOfUse a b m others e v
    → own (λ r. r.op) a rows.uses ≡ own (λ r. r.op) a others.uses → u.key ≡ v.key → u.wh ≡ v.wh → u ≡ v
one-use a b m rows others d e u v this that same key wh = λ i. record {
  op = (this.op ∙ sym that.op) i;
  number = (this.number ∙ (λ j. length (same j) + 1) ∙ sym that.number) i;
  host = (this.host ∙ sym that.host) i;
  key = key i;
  moment = (this.moment ∙ sym that.moment) i;
  wh = wh i;
}

-- ---- a granted tag

-- it counts before the earlier of two ends
counts-earlier : (m : ℕ) (one other : Option ℕ) → CountsAt m (earlier one other) ↔ (CountsAt m one × CountsAt m other)
counts-earlier m None other = ((λ is. (tt, is)), (λ both. both.1))
counts-earlier m (Some x) None = ((λ is. (is, tt)), (λ both. both.0))
counts-earlier m (Some x) (Some y) = ((λ is. (omega (arith, is), omega (arith, is))), (λ both. let low = both.0 in let high = both.1 in omega (arith, low, high)))

parent-blocked : (tags : List TagRow) (owner : List ℕ) (parent : Option (List ℕ)) → is_parent_blocked (λ key. is_blocked (tag_in owner key tags)) parent ≡ is_blocked (option_and_then (λ text. tag_in owner (key_of text) tags) parent)
parent-blocked tags owner None = refl
parent-blocked tags owner (Some text) = refl

module _ (a : List ℕ) (tags : List TagRow) (grants : List GrantRow) where
  entries-tell : (gs : List GrantRow) → AllByRecursion (λ g. Contains grants g × (bytes_eq g.to a ≡ true)) gs → AllByRecursion (TellsOfTag a tags grants) (filter_map (entry_by tags) gs)
  entries-tell [] all = tt
  entries-tell (g ∷ gs) all =
      let rest = entries-tell gs all.1 in
      let entry : Info → GrantedTag = (λ info. record { key = g.key; owner = g.op; info = info }) in
      elim (tag_in g.op g.key tags) as (λ o. tag_in g.op g.key tags ≡ o → AllByRecursion (TellsOfTag a tags grants) (cons_option (option_map entry (option_map (granted_until g.op g.until) (option_map (λ r. effective (λ parent. is_blocked (tag_in g.op parent tags)) r.tag) o))) (filter_map (entry_by tags) gs))) [
        | None ↦ λ e. rest
        | Some r ↦ λ e. (
          record {
            grant = g;
            tag = r;
            on_record = all.0.0;
            to = same_text g.to a all.0.1;
            of_owner = e;
            key = refl;
            owner = refl;
            named = refl;
            text = refl;
            parent = refl;
            blocked = ap (λ t. r.tag.blocked || t) (parent-blocked tags g.op r.tag.parent);
            expiry = λ m. counts-earlier m r.tag.expiry g.until;
          },
          rest,
        )
      ] refl

  pub tags-tell : AllByRecursion (TellsOfTag a tags grants) (granted_in a tags grants)
  unfolding granted_in
  tags-tell = entries-tell (in_order (by_key received_key) (grants_to a grants)) (all-in_order (by_key received_key) (λ g. Contains grants g × (bytes_eq g.to a ≡ true)) (grants_to a grants) (all-passed (Contains grants) (λ g. bytes_eq g.to a) grants (contained grants)))

-- tags that agree on a grant give the same for it
same_info : (s t : List TagRow) (g : GrantRow) → AgreeOn s t g → own_tag_in g.op g.key s ≡ own_tag_in g.op g.key t
same_info s t g agree = go (tag_in g.op g.key s) agree.parent ∙ ap (option_map (as_of t)) agree.tag
  where
    as_of : List TagRow → TagRow → Info
    as_of tags r = effective (λ parent. is_blocked (tag_in g.op parent tags)) r.tag

    go : (o : Option TagRow) → IfSome o (λ r. is_blocked (parent_of s g.op r) ≡ is_blocked (parent_of t g.op r)) → option_map (as_of s) o ≡ option_map (as_of t) o
    go None same = refl
    go (Some r) same = λ i. Some (record { text = r.tag.text; parent = r.tag.parent; blocked = r.tag.blocked || (parent-blocked s g.op r.tag.parent ∙ same ∙ sym (parent-blocked t g.op r.tag.parent)) i; expiry = r.tag.expiry; owner = None })

same_entries : (s t : List TagRow) (gs : List GrantRow) → AllByRecursion (AgreeOn s t) gs → filter_map (entry_by s) gs ≡ filter_map (entry_by t) gs
same_entries s t [] all = refl
same_entries s t (g ∷ gs) all = λ i. cons_option (option_map (λ info. record { key = g.key; owner = g.op; info = info }) (option_map (granted_until g.op g.until) (same_info s t g all.0 i))) (same_entries s t gs all.1 i)

-- what is granted depends on the grants, and on the tags by what agrees on them, alone
pub same_granted : (a : List ℕ) (s t : List TagRow) (grants others : List GrantRow) → grants_to a grants ≡ grants_to a others → AllByRecursion (AgreeOn s t) (grants_to a grants) → granted_in a s grants ≡ granted_in a t others
unfolding granted_in
same_granted a s t grants others same agree =
    same_entries s t (in_order (by_key received_key) (grants_to a grants)) (all-in_order (by_key received_key) (AgreeOn s t) (grants_to a grants) agree)
    ∙ ap (λ gs. filter_map (entry_by t) (in_order (by_key received_key) gs)) same
