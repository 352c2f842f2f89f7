-- What a change does to the rows of each operator.
use Rattle.std.specs.Prelude.{◌≡◌, ◌≢◌, ℕ, max, ℤ, pos, negsuc, ◌+◌, ◌-◌, List, [], ◌∷◌, length, Option, None, Some, true, false, cond, ◌≤◌, ◌++◌, nat_le, nat_lt, ◌&&◌, ◌==◌, not, is_none, filter, map}
use Rattle.std.proofs.Common.{refl, sym, subst, ap, ◌∙◌, arith}
use Rattle.std.proofs.lemmas.Int.{ints}
use Rattle.std.proofs.lemmas.Bool.Decides.{nat_tests}
use Rattle.std.specs.List.{AllByRecursion, list_any}
use Rattle.std.specs.Option.{option_map}
use Rattle.std.specs.Str.{bytes_eq}
use Rattle.hub_rows.specs.declared.change.Edit.{Edit}
use Rattle.hub_rows.specs.declared.change.Edit.TheVariants.{Stations, Tags, Transactions, Holdings}
use Rattle.hub_rows.specs.declared.change.StationEdit.TheVariants.{StationAdded, BootSeen, PolicySet, ReaderSet, StationDropped, ConnectorSeen, ReportSeen}
use Rattle.hub_rows.specs.declared.change.TagEdit.TheVariants.{TagPut, TagDropped, GrantPut, GrantDropped}
use Rattle.hub_rows.specs.declared.change.TransactionEdit.TheVariants.{TxStarted, TxStopped, MeterValuesAdded, Forgotten}
use Rattle.hub_rows.specs.declared.change.HoldingEdit.TheVariants.{ReservationPut, ReservationDropped, ListSet}
use Rattle.hub_rows.specs.Rows.{Rows, station_rest, connector_rest, tag_rest, grant_rest, tx_rest, meter_value_rest, reservation_rest, list_rest, report_rest, reader_rest, tx_owner_rest, use_rest, use_key}
use Rattle.hub_rows.specs.declared.tx_row.TxRow.{TxRow}
use Rattle.hub_rows.specs.declared.tx_row.TxKey.{TxKey}
use Rattle.hub_rows.specs.declared.meter_value_row.MeterValue.{MeterValue}
use Rattle.hub_rows.specs.declared.meter_value_row.MeterValueRow.{MeterValueRow}
use Rattle.hub_rows.specs.declared.reservation_row.ReservationRow.{ReservationRow}
use Rattle.ocpp_types.specs.declared.authorization_status.AuthorizationStatus.{AuthorizationStatus}
use Rattle.ocpp_types.specs.declared.authorization_status.AuthorizationStatus.TheVariants.{Accepted, Blocked, Expired, Invalid, ConcurrentTx}
use Rattle.hub_rows.specs.Keyed.{by_key, found, put_all, own, those, greatest}
use Rattle.hub_rows.specs.WellFormed.{IsGoodMeterValue, WellFormedRows}
use Rattle.hub_rows.specs.Changes.{edit, new_station, with_boot, with_policy, connector_row, tag_row, grant_row, tx_row, with_stop, with_meter_values, reservation_row, list_row, report_row, reader_row}
use Rattle.hub_rows.specs.Forgetting.{forgettable, is_one_of}
use Rattle.hub_rows.specs.Grants.{granted_in, is_grant}
use Rattle.hub_rows.specs.Own.{own_rows, own_edit, own_named, own_meter_values, own_shifted, own_with_owner}
use Rattle.hub_rows.specs.declared.use_row.UseRow.{UseRow}
use Rattle.hub_rows.specs.MeterValues.{is_sent_with, is_meter_value, meter_values_in, meter_value_rows, number_of_last, numbers_taken}
use Rattle.hub_rows.specs.Readers.{chosen}
use Rattle.hub_rows.specs.Uses.{with_owner, settled_use, with_use, use_by, uses_settled, if_of, owner_in, last_use_in, use_row}
use Rattle.hub_rows.proofs.WellFormedLaws.{IsSettled, is_settled}
use Rattle.hub_rows.specs.Reservations.{is_named, is_reservation, shifted, without_named}
use Rattle.hub_rows.specs.Transactions.{last_of_all, is_accepted, is_left_out, is_use, is_tx, is_used_in}
use Rattle.hub_rows.specs.Lookups.{lookups_at, own_is_accepted, own_is_left_out, own_use, own_start, own_tx, own_state, own_is_sent_with, own_last, own_last_reading, own_meter_value, own_registration, own_lookups}
use Rattle.hub_rows.proofs.GrantLaws.{granted_tag-own}
use Rattle.hub_rows.proofs.TagLaws.{same_tag}
use Rattle.std.proofs.lemmas.Bool.{true≢false}
use Rattle.std.proofs.lemmas.List.{append-nil}
use Rattle.std.specs.List.Sorted.{IsStrictlySortedBy}
use Rattle.std.specs.declared.cmp.Ordering.TheVariants.{Greater}
use Rattle.hub_rows.proofs.ListLaws.{all-filter, all-weaker, number_after, put-last, under_greatest, same_text, text_itself, own-put, own-put_other, own-without, own-without_other, own-changed, own-changed_other, own-put_all, own-put_all_other, found-own, those-own, any_of-own, and-true}

-- the meter values of operator b are its own
rows_of : (b station : List ℕ) (first : ℕ) (values : List MeterValue) (P : List ℕ → Type 0) → P b → AllByRecursion (λ r. P r.op) (meter_value_rows b station first values)
rows_of b station first [] P here = tt
rows_of b station first (v ∷ vs) P here = (here, rows_of b station (first + numbers_taken v) vs P here)

-- its own machine numbers them alike
same_meter_values : (a station : List ℕ) (first : ℕ) (values : List MeterValue) → meter_value_rows a station first values ≡ own_meter_values a station first values
same_meter_values a station first [] = refl
same_meter_values a station first (v ∷ vs) =
    let next : first + numbers_taken v ≡ (first + 1) + (length v.sampled - 1) = omega arith in
    ap (λ rows. record { op = a; station = station; first = first; value = v } ∷ rows) (ap (λ n. meter_value_rows a station n vs) next ∙ same_meter_values a station ((first + 1) + (length v.sampled - 1)) vs)

own-values : (a station : List ℕ) (first : ℕ) (values : List MeterValue) (rows : Rows) → WellFormedRows rows → own (λ r. r.op) a (with_meter_values a station first values rows.meter_values) ≡ put_all (by_key meter_value_rest) (own_meter_values a station first values) (own (λ r. r.op) a rows.meter_values)
own-values a station first values rows good =
    own-put_all (λ r. r.op) meter_value_rest a (meter_value_rows a station first values) rows.meter_values good.meter_values.sorted (rows_of a station first values (λ o. o ≡ a) refl)
    ∙ ap (λ more. put_all (by_key meter_value_rest) more (own (λ r. r.op) a rows.meter_values)) (same_meter_values a station first values)

own-values_other : (a b station : List ℕ) (first : ℕ) (values : List MeterValue) (rows : Rows) → b ≢ a → own (λ r. r.op) a (with_meter_values b station first values rows.meter_values) ≡ own (λ r. r.op) a rows.meter_values
own-values_other a b station first values rows other = own-put_all_other (λ r. r.op) meter_value_rest a (meter_value_rows b station first values) rows.meter_values (rows_of b station first values (λ o. o ≢ a) other)

-- the reservation that a start names is looked for alike
same_shifted : (id : ℤ) → shifted id ≡ own_shifted id
same_shifted (pos n) = omega (arith, ints)
same_shifted (negsuc n) = omega (arith, ints)

same_named : (station : List ℕ) (id : Option ℤ) (r : ReservationRow) → is_named station id r ≡ own_named station id r
same_named station None r = refl
same_named station (Some id) r = ap (λ n. bytes_eq r.station station && r.id == n) (same_shifted id)

own-named : (a station : List ℕ) (id : Option ℤ) (rows : List ReservationRow) → own (λ r. r.op) a (without_named a station id rows) ≡ filter (λ r. not (own_named station id r)) (own (λ r. r.op) a rows)
own-named a station id rows = own-without (λ r. r.op) a (is_named station id) rows ∙ (λ i. filter (λ r. not (same_named station id r i)) (own (λ r. r.op) a rows))

-- the owner of one's own transaction's tag
own-with_owner : (a station : List ℕ) (number : ℕ) (owner : Option (List ℕ)) (rows : Rows) → WellFormedRows rows → own (λ r. r.op) a (with_owner a station number owner rows.tx_owners) ≡ own_with_owner a station number owner (own (λ r. r.op) a rows.tx_owners)
own-with_owner a station number None rows good = refl
own-with_owner a station number (Some o) rows good = own-put (λ r. r.op) tx_owner_rest a (record { op = a; station = station; number = number; owner = o }) rows.tx_owners good.tx_owners.sorted refl

own-with_owner_other : (a b station : List ℕ) (number : ℕ) (owner : Option (List ℕ)) (rows : Rows) → b ≢ a → own (λ r. r.op) a (with_owner b station number owner rows.tx_owners) ≡ own (λ r. r.op) a rows.tx_owners
own-with_owner_other a b station number None rows other = refl
own-with_owner_other a b station number (Some o) rows other = own-put_other (λ r. r.op) tx_owner_rest a (record { op = b; station = station; number = number; owner = o }) rows.tx_owners other

-- one's own stop settles no use of one's own
own-with_use : (a : List ℕ) (o : Option UseRow) (uses : List UseRow) → IsSettled a uses o → own (λ r. r.op) a (with_use o uses) ≡ own (λ r. r.op) a uses
own-with_use a None uses settled = refl
own-with_use a (Some r) uses settled = own-put_other (λ r. r.op) use_rest a r uses settled.0

-- one's own edit is the edit of one's own rows
pub own_rows-edit : (a : List ℕ) (e : Edit) (rows : Rows) → WellFormedRows rows → own_rows a (edit a e rows) ≡ own_edit a e (own_rows a rows)
own_rows-edit a (Stations (StationAdded station policy interval)) rows good =
    λ i. record (own_rows a rows) { stations = own-put (λ r. r.op) station_rest a (new_station a station policy interval) rows.stations good.stations refl i }
own_rows-edit a (Stations (BootSeen station boot state)) rows good =
    λ i. record (own_rows a rows) { stations = own-changed (λ r. r.op) a (λ r. bytes_eq r.station station) (with_boot boot state) rows.stations (λ r. refl) i }
own_rows-edit a (Stations (PolicySet station policy interval)) rows good =
    λ i. record (own_rows a rows) { stations = own-changed (λ r. r.op) a (λ r. bytes_eq r.station station) (with_policy policy interval) rows.stations (λ r. refl) i }
own_rows-edit a (Stations (StationDropped station)) rows good =
    λ i. record (own_rows a rows) {
      stations = own-without (λ r. r.op) a (λ r. bytes_eq r.station station) rows.stations i;
      connectors = own-without (λ r. r.op) a (λ r. bytes_eq r.station station) rows.connectors i;
      reservations = own-without (λ r. r.op) a (λ r. bytes_eq r.station station) rows.reservations i;
      local_lists = own-without (λ r. r.op) a (λ r. bytes_eq r.station station) rows.local_lists i;
      reports = own-without (λ r. r.op) a (λ r. bytes_eq r.station station) rows.reports i;
      readers = own-without (λ r. r.op) a (λ r. bytes_eq r.station station) rows.readers i;
    }
own_rows-edit a (Stations (ConnectorSeen station connector report)) rows good =
    λ i. record (own_rows a rows) { connectors = own-put (λ r. r.op) connector_rest a (connector_row a station connector report) rows.connectors good.connectors.sorted refl i }
own_rows-edit a (Tags (TagPut key tag)) rows good =
    λ i. record (own_rows a rows) { tags = own-put (λ r. r.op) tag_rest a (tag_row a key tag) rows.tags good.tags.sorted refl i }
own_rows-edit a (Tags (TagDropped key)) rows good =
    λ i. record (own_rows a rows) { tags = own-without (λ r. r.op) a (λ r. bytes_eq r.key key) rows.tags i; grants = own-without (λ r. r.op) a (λ r. bytes_eq r.key key) rows.grants i }
own_rows-edit a (Tags (GrantPut key to until)) rows good =
    λ i. record (own_rows a rows) { grants = own-put (λ r. r.op) grant_rest a (grant_row a key to until) rows.grants good.grants.sorted refl i }
own_rows-edit a (Tags (GrantDropped key to)) rows good =
    λ i. record (own_rows a rows) { grants = own-without (λ r. r.op) a (is_grant key to) rows.grants i }
own_rows-edit a (Transactions (TxStarted station number start owner)) rows good =
    λ i. record (own_rows a rows) { transactions = own-put (λ r. r.op) tx_rest a (tx_row a station number start) rows.transactions good.transactions.sorted refl i; reservations = own-named a station start.reservation rows.reservations i; tx_owners = own-with_owner a station number owner rows good i }
own_rows-edit a (Transactions (TxStopped station number stop first values)) rows good =
    λ i. record (own_rows a rows) { transactions = own-changed (λ r. r.op) a (is_tx station number) (with_stop stop) rows.transactions (λ r. refl) i; meter_values = own-values a station first values rows good i; uses = own-with_use a (settled_use a station number stop rows) rows.uses (is_settled a station number stop rows good) i }
own_rows-edit a (Transactions (MeterValuesAdded station first values)) rows good =
    λ i. record (own_rows a rows) { meter_values = own-values a station first values rows good i }
own_rows-edit a (Transactions (Forgotten station gone)) rows good =
    λ i. record (own_rows a rows) { transactions = own-without (λ r. r.op) a (is_one_of (λ r. r.station) (λ r. r.number) station gone.transactions) rows.transactions i; meter_values = own-without (λ r. r.op) a (is_one_of (λ r. r.station) (λ r. r.first) station gone.meter_values) rows.meter_values i; tx_owners = own-without (λ r. r.op) a (is_one_of (λ r. r.station) (λ r. r.number) station gone.transactions) rows.tx_owners i }
own_rows-edit a (Holdings (ReservationPut station id reservation)) rows good =
    λ i. record (own_rows a rows) { reservations = own-put (λ r. r.op) reservation_rest a (reservation_row a station id reservation) rows.reservations good.reservations.sorted refl i }
own_rows-edit a (Holdings (ReservationDropped station id)) rows good =
    λ i. record (own_rows a rows) { reservations = own-without (λ r. r.op) a (is_reservation station id) rows.reservations i }
own_rows-edit a (Holdings (ListSet station list)) rows good =
    λ i. record (own_rows a rows) { local_lists = own-put (λ r. r.op) list_rest a (list_row a station list) rows.local_lists good.local_lists.sorted refl i }
own_rows-edit a (Stations (ReportSeen station status moment)) rows good =
    λ i. record (own_rows a rows) { reports = own-put (λ r. r.op) report_rest a (report_row a station status moment) rows.reports good.reports.sorted refl i }
own_rows-edit a (Stations (ReaderSet station reader)) rows good =
    λ i. record (own_rows a rows) { readers = own-put (λ r. r.op) reader_rest a (reader_row a station reader) rows.readers good.readers.sorted refl i }

-- the edit of another is seen in one's uses alone
pub own_rows-edit_other : (a b : List ℕ) (e : Edit) (rows : Rows) → b ≢ a → own_rows a (edit b e rows) ≡ record (own_rows a rows) { uses = own (λ r. r.op) a (edit b e rows).uses }
own_rows-edit_other a b (Stations (StationAdded station policy interval)) rows other =
    λ i. record (own_rows a rows) { stations = own-put_other (λ r. r.op) station_rest a (new_station b station policy interval) rows.stations other i }
own_rows-edit_other a b (Stations (BootSeen station boot state)) rows other =
    λ i. record (own_rows a rows) { stations = own-changed_other (λ r. r.op) a b (λ r. bytes_eq r.station station) (with_boot boot state) rows.stations (λ r. refl) other i }
own_rows-edit_other a b (Stations (PolicySet station policy interval)) rows other =
    λ i. record (own_rows a rows) { stations = own-changed_other (λ r. r.op) a b (λ r. bytes_eq r.station station) (with_policy policy interval) rows.stations (λ r. refl) other i }
own_rows-edit_other a b (Stations (StationDropped station)) rows other =
    λ i. record (own_rows a rows) {
      stations = own-without_other (λ r. r.op) a b (λ r. bytes_eq r.station station) rows.stations other i;
      connectors = own-without_other (λ r. r.op) a b (λ r. bytes_eq r.station station) rows.connectors other i;
      reservations = own-without_other (λ r. r.op) a b (λ r. bytes_eq r.station station) rows.reservations other i;
      local_lists = own-without_other (λ r. r.op) a b (λ r. bytes_eq r.station station) rows.local_lists other i;
      reports = own-without_other (λ r. r.op) a b (λ r. bytes_eq r.station station) rows.reports other i;
      readers = own-without_other (λ r. r.op) a b (λ r. bytes_eq r.station station) rows.readers other i;
    }
own_rows-edit_other a b (Stations (ConnectorSeen station connector report)) rows other =
    λ i. record (own_rows a rows) { connectors = own-put_other (λ r. r.op) connector_rest a (connector_row b station connector report) rows.connectors other i }
own_rows-edit_other a b (Tags (TagPut key tag)) rows other =
    λ i. record (own_rows a rows) { tags = own-put_other (λ r. r.op) tag_rest a (tag_row b key tag) rows.tags other i }
own_rows-edit_other a b (Tags (TagDropped key)) rows other =
    λ i. record (own_rows a rows) { tags = own-without_other (λ r. r.op) a b (λ r. bytes_eq r.key key) rows.tags other i; grants = own-without_other (λ r. r.op) a b (λ r. bytes_eq r.key key) rows.grants other i }
own_rows-edit_other a b (Tags (GrantPut key to until)) rows other =
    λ i. record (own_rows a rows) { grants = own-put_other (λ r. r.op) grant_rest a (grant_row b key to until) rows.grants other i }
own_rows-edit_other a b (Tags (GrantDropped key to)) rows other =
    λ i. record (own_rows a rows) { grants = own-without_other (λ r. r.op) a b (is_grant key to) rows.grants other i }
own_rows-edit_other a b (Transactions (TxStarted station number start owner)) rows other =
    λ i. record (own_rows a rows) { transactions = own-put_other (λ r. r.op) tx_rest a (tx_row b station number start) rows.transactions other i; reservations = own-without_other (λ r. r.op) a b (is_named station start.reservation) rows.reservations other i; tx_owners = own-with_owner_other a b station number owner rows other i }
own_rows-edit_other a b (Transactions (TxStopped station number stop first values)) rows other =
    λ i. record (own_rows a rows) { transactions = own-changed_other (λ r. r.op) a b (is_tx station number) (with_stop stop) rows.transactions (λ r. refl) other i; meter_values = own-values_other a b station first values rows other i; uses = own (λ r. r.op) a (edit b (Transactions (TxStopped station number stop first values)) rows).uses }
own_rows-edit_other a b (Transactions (MeterValuesAdded station first values)) rows other =
    λ i. record (own_rows a rows) { meter_values = own-values_other a b station first values rows other i }
own_rows-edit_other a b (Transactions (Forgotten station gone)) rows other =
    λ i. record (own_rows a rows) { transactions = own-without_other (λ r. r.op) a b (is_one_of (λ r. r.station) (λ r. r.number) station gone.transactions) rows.transactions other i; meter_values = own-without_other (λ r. r.op) a b (is_one_of (λ r. r.station) (λ r. r.first) station gone.meter_values) rows.meter_values other i; tx_owners = own-without_other (λ r. r.op) a b (is_one_of (λ r. r.station) (λ r. r.number) station gone.transactions) rows.tx_owners other i }
own_rows-edit_other a b (Holdings (ReservationPut station id reservation)) rows other =
    λ i. record (own_rows a rows) { reservations = own-put_other (λ r. r.op) reservation_rest a (reservation_row b station id reservation) rows.reservations other i }
own_rows-edit_other a b (Holdings (ReservationDropped station id)) rows other =
    λ i. record (own_rows a rows) { reservations = own-without_other (λ r. r.op) a b (is_reservation station id) rows.reservations other i }
own_rows-edit_other a b (Holdings (ListSet station list)) rows other =
    λ i. record (own_rows a rows) { local_lists = own-put_other (λ r. r.op) list_rest a (list_row b station list) rows.local_lists other i }
own_rows-edit_other a b (Stations (ReportSeen station status moment)) rows other =
    λ i. record (own_rows a rows) { reports = own-put_other (λ r. r.op) report_rest a (report_row b station status moment) rows.reports other i }
own_rows-edit_other a b (Stations (ReaderSet station reader)) rows other =
    λ i. record (own_rows a rows) { readers = own-put_other (λ r. r.op) reader_rest a (reader_row b station reader) rows.readers other i }

-- ---- uses

-- all rows of an operator are its own
own-those : {R : Type 0} (op : R → List ℕ) (a : List ℕ) (rows : List R) → those op a (λ r. true) rows ≡ own op a rows
own-those op a rows = λ i. filter (λ r. and-true (bytes_eq (op r) a) i) rows

-- the last use of an owner is among its own uses
last_use-own : (a : List ℕ) (uses : List UseRow) → last_use_in a uses ≡ greatest (map (λ r. r.number) (own (λ r. r.op) a uses))
last_use-own a uses = ap (λ rs. greatest (map (λ r. r.number) rs)) (own-those (λ r. r.op) a uses)

-- a use after an owner's last one comes last
own-next_use : (r : UseRow) (uses : List UseRow) → IsStrictlySortedBy (by_key use_key) uses → r.number ≡ last_use_in r.op uses + 1 → own (λ x. x.op) r.op (with_use (Some r) uses) ≡ own (λ x. x.op) r.op uses ++ r ∷ []
own-next_use r uses sorted next =
    let mine : List UseRow = own (λ x. x.op) r.op uses in
    let last = last_use-own r.op uses in
    own-put (λ x. x.op) use_rest r.op r uses sorted refl
    ∙ put-last (by_key use_rest) r mine (all-weaker (λ x. x.number ≤ greatest (map (λ y. y.number) mine)) (λ x. by_key use_rest r x ≡ Greater) (λ x low. number_after r.number x.number (omega (arith, low, next, last))) mine (under_greatest (λ x. x.number) mine))

-- an owner's uses gain what an edit of another settles
pub uses-edit : (a b : List ℕ) (e : Edit) (rows : Rows) → WellFormedRows rows → own (λ r. r.op) a (edit b e rows).uses ≡ own (λ r. r.op) a rows.uses ++ uses_settled a b e rows
uses-edit a b (Transactions (TxStopped station number stop first values)) rows good = go (owner_in b station number rows.tx_owners) (found (λ r. r.op) b (is_tx station number) rows.transactions)
  where
    uses : List UseRow
    uses = rows.uses

    added : (r : UseRow) → r.number ≡ last_use_in r.op uses + 1 → own (λ r. r.op) a (with_use (Some r) uses) ≡ own (λ r. r.op) a uses ++ if_of a (Some r)
    added r next =
        elim (bytes_eq r.op a) as (λ t. bytes_eq r.op a ≡ t → own (λ r. r.op) a (with_use (Some r) uses) ≡ own (λ r. r.op) a uses ++ cond t (r ∷ []) []) [
          | true ↦ λ e. subst (λ c. own (λ r. r.op) c (with_use (Some r) uses) ≡ own (λ r. r.op) c uses ++ r ∷ []) (same_text r.op a e) (own-next_use r uses good.uses.sorted next)
          | false ↦ λ e. own-put_other (λ r. r.op) use_rest a r uses (λ same. true≢false (sym (text_itself r.op a same) ∙ e)) ∙ sym (append-nil _)
        ] refl

    go : (o : Option (List ℕ)) (r : Option TxRow) → own (λ r. r.op) a (with_use (use_by b stop uses o r) uses) ≡ own (λ r. r.op) a uses ++ if_of a (use_by b stop uses o r)
    go None r = sym (append-nil _)
    go (Some c) None = sym (append-nil _)
    go (Some c) (Some r) =
        let last = last_use_in c uses in
        elim (nat_lt last last_of_all) as (λ t. own (λ r. r.op) a (with_use (cond t (Some (use_row c (last + 1) b r stop)) None) uses) ≡ own (λ r. r.op) a uses ++ if_of a (cond t (Some (use_row c (last + 1) b r stop)) None)) [
          | true ↦ added (use_row c (last + 1) b r stop) refl
          | false ↦ sym (append-nil _)
        ]
uses-edit a b (Stations (StationAdded station policy interval)) rows good = sym (append-nil _)
uses-edit a b (Tags (TagDropped key)) rows good = sym (append-nil _)
uses-edit a b (Holdings (ReservationDropped station id)) rows good = sym (append-nil _)
uses-edit a b e rows good = sym (append-nil _)

-- ---- look-ups

-- the tests of one's own rows are those of the rows of all
same_accepted : (s : AuthorizationStatus) → is_accepted s ≡ own_is_accepted s
same_accepted Accepted = refl
same_accepted Blocked = refl
same_accepted Expired = refl
same_accepted Invalid = refl
same_accepted ConcurrentTx = refl

same_left_out : (except : Option TxKey) (r : TxRow) → is_left_out except r ≡ own_is_left_out except r
same_left_out None r = refl
same_left_out (Some k) r = refl

same_use : (key : List ℕ) (except : Option TxKey) (r : TxRow) → is_use key except r ≡ own_use key except r
same_use key except r = λ i. (is_none r.stop && same_accepted r.start.status i) && (bytes_eq r.start.id.key key && not (same_left_out except r i))

same_sent_with : (n : Option ℕ) (transaction : Option ℤ) → is_sent_with n transaction ≡ own_is_sent_with n transaction
same_sent_with None transaction = refl
same_sent_with (Some n) None = refl
same_sent_with (Some n) (Some transaction) = refl

same_meter_value : (station : List ℕ) (n : Option ℕ) (r : MeterValueRow) → is_meter_value station n r ≡ own_meter_value station n r
same_meter_value station n r = ap (λ t. bytes_eq r.station station && t) (same_sent_with n r.value.transaction)

-- the last number is found alike
same_last : (ns : List ℕ) → greatest ns ≡ own_last ns
same_last [] = refl
same_last (n ∷ ns) = ap (λ last. max n last) (same_last ns) ∙ grind (arith, nat_tests)

same_last_reading : (rows : List MeterValueRow) → AllByRecursion IsGoodMeterValue rows → number_of_last rows ≡ own_last_reading rows
same_last_reading [] all = refl
same_last_reading (r ∷ []) all = let from = all.0.0 in omega (arith, from)
same_last_reading (r ∷ s ∷ rs) all = same_last_reading (s ∷ rs) all.1

-- what an operator looks up is what it finds among its own rows and what is granted to it
pub same_lookups : (a : List ℕ) (rows : Rows) → WellFormedRows rows → lookups_at a rows ≡ own_lookups a (own_rows a rows) (granted_in a rows.tags rows.grants)
same_lookups a rows good =
    let txs : List TxRow = own (λ r. r.op) a rows.transactions in
    let values : List MeterValueRow = own (λ r. r.op) a rows.meter_values in
    let used : (key : List ℕ) (except : Option TxKey) → is_used_in a key except rows.transactions ≡ list_any (own_use key except) txs
    = (λ key except. any_of-own (λ r. r.op) a (is_use key except) rows.transactions ∙ (λ i. list_any (λ r. same_use key except r i) txs)) in
    let those_values : (station : List ℕ) (n : Option ℕ) → meter_values_in a station n rows.meter_values ≡ filter (own_meter_value station n) values
    = (λ station n. those-own (λ r. r.op) a (is_meter_value station n) rows.meter_values ∙ (λ i. filter (λ r. same_meter_value station n r i) values)) in
    let all_values : (station : List ℕ) → meter_values_in a station None rows.meter_values ≡ filter (λ r. bytes_eq r.station station) values
    = (λ station. those-own (λ r. r.op) a (is_meter_value station None) rows.meter_values ∙ (λ i. filter (λ r. and-true (bytes_eq r.station station) i) values)) in
    let good_values : (station : List ℕ) → AllByRecursion IsGoodMeterValue (filter (λ r. bytes_eq r.station station) values)
    = (λ station. all-filter IsGoodMeterValue (λ r. bytes_eq r.station station) values (all-filter IsGoodMeterValue (λ r. bytes_eq r.op a) rows.meter_values good.meter_values.each)) in
    λ i. record {
      op = a;
      registration = λ station. option_map own_registration (found-own (λ r. r.op) a (λ r. bytes_eq r.station station) rows.stations i);
      own_tag = λ key. same_tag a key rows.tags i;
      granted_tag = λ key. granted_tag-own a key rows good i;
      has_grant = λ key to. any_of-own (λ r. r.op) a (is_grant key to) rows.grants i;
      is_used = λ key except. used key except i;
      same_start = λ station k. option_map (λ r. r.number) (found-own (λ r. r.op) a (own_start station k) rows.transactions i);
      tx = λ station number. option_map own_state (found-own (λ r. r.op) a (own_tx station number) rows.transactions i);
      has_open = λ station. any_of-own (λ r. r.op) a (λ r. bytes_eq r.station station && is_none r.stop) rows.transactions i;
      last_tx = λ station. (ap (λ rs. greatest (map (λ r. r.number) rs)) (those-own (λ r. r.op) a (λ r. bytes_eq r.station station) rows.transactions) ∙ same_last (map (λ r. r.number) (filter (λ r. bytes_eq r.station station) txs))) i;
      last_reading = λ station. (ap number_of_last (all_values station) ∙ same_last_reading (filter (λ r. bytes_eq r.station station) values) (good_values station)) i;
      reserved_until = λ station id. option_map (λ r. r.reservation.expiry) (found-own (λ r. r.op) a (is_reservation station id) rows.reservations i);
      local_list = λ station. option_map (λ r. r.list) (found-own (λ r. r.op) a (λ r. bytes_eq r.station station) rows.local_lists i);
      stations = own-those (λ r. r.op) a rows.stations i;
      tags = own-those (λ r. r.op) a rows.tags i;
      grants = own-those (λ r. r.op) a rows.grants i;
      granted = granted_in a rows.tags rows.grants;
      connectors = λ station. those-own (λ r. r.op) a (λ r. bytes_eq r.station station) rows.connectors i;
      txs = λ station first. those-own (λ r. r.op) a (λ r. bytes_eq r.station station && nat_le first r.number) rows.transactions i;
      open_txs = those-own (λ r. r.op) a (λ r. is_none r.stop) rows.transactions i;
      meter_values = λ station n. those_values station n i;
      reservations = λ station. those-own (λ r. r.op) a (λ r. bytes_eq r.station station) rows.reservations i;
      forgettable = λ station until. forgettable until (those-own (λ r. r.op) a (λ r. bytes_eq r.station station) rows.transactions i) (all_values station i);
      reports = λ station. those-own (λ r. r.op) a (λ r. bytes_eq r.station station) rows.reports i;
      uses = own-those (λ r. r.op) a rows.uses i;
      reader = λ station. chosen (found-own (λ r. r.op) a (λ r. bytes_eq r.station station) rows.readers i);
      readers = own-those (λ r. r.op) a rows.readers i;
    }
