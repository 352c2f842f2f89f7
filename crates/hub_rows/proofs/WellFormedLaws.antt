-- What a change leaves of well formed rows.
use Rattle.std.specs.Prelude.{◌≡◌, ◌≢◌, nat_lt, ℕ, ◌+◌, ◌<◌, ◌≤◌, List, [], ◌∷◌, Bool, ◌&&◌, cond, not, true, false, filter, Option, None, Some, is_some, IsSome, IfSome}
use Rattle.std.proofs.Common.{refl, sym, ◌∙◌, ap, subst, arith, ⊎_elim}
use Rattle.std.specs.List.{AllByRecursion}
use Rattle.std.specs.List.Sorted.{IsStrictlySortedBy}
use Rattle.std.specs.Option.{option_map}
use Rattle.std.specs.Ordering.{is_eq}
use Rattle.std.specs.Str.{bytes_eq}
use Rattle.std.proofs.lemmas.Bool.{and_parts, true≢false}
use Rattle.std.proofs.lemmas.Bool.Decides.{nat_tests}
use Rattle.std.proofs.lemmas.List.Kept.{IsStrictlySortedBy-filter}
use Rattle.hub_rows.specs.declared.change.Edit.{Edit}
use Rattle.hub_rows.specs.declared.change.Edit.TheVariants.{Stations, Tags, Transactions, Holdings}
use Rattle.hub_rows.specs.declared.change.StationEdit.TheVariants.{StationAdded, BootSeen, PolicySet, ReaderSet, StationDropped, ConnectorSeen, ReportSeen}
use Rattle.hub_rows.specs.declared.change.TagEdit.TheVariants.{TagPut, TagDropped, GrantPut, GrantDropped}
use Rattle.hub_rows.specs.declared.change.TransactionEdit.TheVariants.{TxStarted, TxStopped, MeterValuesAdded, Forgotten}
use Rattle.hub_rows.specs.declared.change.HoldingEdit.TheVariants.{ReservationPut, ReservationDropped, ListSet}
use Rattle.hub_rows.specs.declared.station_row.StationRow.{StationRow}
use Rattle.hub_rows.specs.declared.connector_row.ConnectorRow.{ConnectorRow}
use Rattle.hub_rows.specs.declared.tag_row.TagRow.{TagRow}
use Rattle.hub_rows.specs.declared.grant_row.GrantRow.{GrantRow}
use Rattle.hub_rows.specs.declared.info.Info.{Info}
use Rattle.hub_rows.specs.Forgetting.{is_one_of}
use Rattle.hub_rows.specs.declared.forgettable.Forgettable.{Forgettable}
use Rattle.hub_rows.specs.Grants.{is_grant}
use Rattle.hub_rows.specs.Tags.{tag_in}
use Rattle.hub_rows.specs.declared.tx_row.TxRow.{TxRow}
use Rattle.hub_rows.specs.declared.tx_row.Stop.{Stop}
use Rattle.hub_rows.specs.declared.meter_value_row.MeterValue.{MeterValue}
use Rattle.hub_rows.specs.declared.meter_value_row.MeterValueRow.{MeterValueRow}
use Rattle.hub_rows.specs.declared.reservation_row.ReservationRow.{ReservationRow}
use Rattle.hub_rows.specs.declared.list_row.ListRow.{ListRow}
use Rattle.hub_rows.specs.declared.reader_row.ReaderRow.{ReaderRow}
use Rattle.hub_rows.specs.declared.report_row.ReportRow.{ReportRow}
use Rattle.hub_rows.specs.declared.tx_row.TxOwnerRow.{TxOwnerRow}
use Rattle.hub_rows.specs.declared.use_row.UseRow.{UseRow}
use Rattle.hub_rows.specs.Rows.{Rows, no_rows, station_in, registration_in, registration_of, station_key, connector_key, tag_key, grant_key, tx_key, meter_value_key, reservation_key, list_key, report_key, reader_key, tx_owner_key, use_key}
use Rattle.hub_rows.specs.Keyed.{key_cmp, by_key, found, put, put_all, changed, without}
use Rattle.hub_rows.specs.Transactions.{is_accepted, is_tx, AreNext, last_of_all, last_tx_in}
use Rattle.hub_rows.specs.WellFormed.{IsOnRecord, IsNumber, IsGoodConnector, IsGoodTag, IsGoodGrant, IsGoodTx, IsGoodMeterValue, IsGoodReservation, IsGoodList, IsGoodReport, IsGoodReader, IsGoodTxOwner, AreGood, WellFormedRows, end_cmp}
use Rattle.hub_rows.specs.Changes.{edit, new_station, with_boot, with_policy, connector_row, tag_row, grant_row, tx_row, with_stop, with_meter_values, reservation_row, list_row, report_row, reader_row, IsAnother, EditFits}
use Rattle.hub_rows.specs.MeterValues.{all_taken, last_reading_in, meter_value_rows, numbers_taken}
use Rattle.hub_rows.specs.Reservations.{is_named, is_reservation, without_named}
use Rattle.hub_rows.specs.Uses.{is_owner_of, owner_in, with_owner, use_by, settled_use, use_row, with_use, last_use_in}
use Rattle.hub_rows.proofs.ListLaws.{by_key_total, same_key, same_text, two_parts, all-put, all-put_all, all-filter, all-changed, all-weaker, sorted-put, sorted-put_all, sorted-changed, some-put, some-map, found_is}
use Rattle.hub_rows.proofs.ApartLaws.{apart-added}
use Rattle.hub_rows.proofs.DroppedLaws.{all-kept, kept_station, station-dropped}
use Rattle.hub_rows.proofs.OwnerLaws.{BeganAccepted, KeepsBegun, began-kept, find-kept, found-new, keeps-new, keeps-stopped, next-above}
use Rattle.hub_rows.proofs.UseLaws.{good-next}

-- ---- good lists

module _ {R : Type 0} (key : R → List (List ℕ)) (P : R → Type 0) where
  good-put : (r : R) (rs : List R) → P r → AreGood key P rs → AreGood key P (put (by_key key) r rs)
  good-put r rs here good = record { sorted = sorted-put (by_key key) (by_key_total key) r rs good.sorted; each = all-put (by_key key) P r rs here good.each }

  good-put_all : (new rs : List R) → AllByRecursion P new → AreGood key P rs → AreGood key P (put_all (by_key key) new rs)
  good-put_all new rs all good = record { sorted = sorted-put_all (by_key key) (by_key_total key) new rs good.sorted; each = all-put_all (by_key key) P new rs all good.each }

  good-filter : (t : R → Bool) (rs : List R) → AreGood key P rs → AreGood key P (filter t rs)
  good-filter t rs good = record { sorted = IsStrictlySortedBy-filter (by_key key) t rs good.sorted; each = all-filter P t rs good.each }

  good-changed : (op : R → List ℕ) (b : List ℕ) (t : R → Bool) (f : R → R) → ((r : R) → key (f r) ≡ key r) → ((r : R) → P r → P (f r)) → (rs : List R) → AreGood key P rs → AreGood key P (changed op b t f rs)
  good-changed op b t f same stays rs good = record { sorted = sorted-changed key op b t f same rs good.sorted; each = all-changed P op b t f rs stays good.each }

  good-weaker : (Q : R → Type 0) → ((r : R) → P r → Q r) → (rs : List R) → AreGood key P rs → AreGood key Q rs
  good-weaker Q f rs good = record { sorted = good.sorted; each = all-weaker P Q f rs good.each }

-- ---- stations on record

registered : (o : Option StationRow) → is_some (option_map registration_of o) ≡ is_some o
registered None = refl
registered (Some r) = refl

-- a station is on record exactly if it is registered
pub on_record : (b station : List ℕ) (stations : List StationRow) → IsSome (registration_in b station stations) → IsOnRecord b station stations
on_record b station stations some = sym (registered (station_in b station stations)) ∙ some

-- each station that was on record still is
abbrev pub KeepsStations : List StationRow → List StationRow → Type 0
KeepsStations old new = (b station : List ℕ) → IsOnRecord b station old → IsOnRecord b station new

keeps-put : (r : StationRow) (stations : List StationRow) → KeepsStations stations (put (by_key station_key) r stations)
keeps-put r stations b station on =
    let t : StationRow → Bool = (λ x. bytes_eq x.op b && bytes_eq x.station station) in
    let by : (x : StationRow) → t x ≡ is_eq (key_cmp (station_key x) (b ∷ station ∷ [])) = (λ x. two_parts x.op x.station b station) in
    some-put (by_key station_key) t (λ x y e. by x ∙ ap (λ k. is_eq (key_cmp k (b ∷ station ∷ []))) (same_key (station_key x) (station_key y) e) ∙ sym (by y)) r stations on

keeps-changed : (c : List ℕ) (test : StationRow → Bool) (f : StationRow → StationRow) → ((r : StationRow) → ((f r).op ≡ r.op) × ((f r).station ≡ r.station)) → (stations : List StationRow) → KeepsStations stations (changed (λ r. r.op) c test f stations)
keeps-changed c test f same stations b station on =
    let t : StationRow → Bool = (λ x. bytes_eq x.op b && bytes_eq x.station station) in
    some-map t (λ r. cond (bytes_eq r.op c && test r) (f r) r)
    (λ r. elim (bytes_eq r.op c && test r) as (λ y. t (cond y (f r) r) ≡ t r) [ true ↦ λ i. bytes_eq ((same r).0 i) b && bytes_eq ((same r).1 i) station | false ↦ refl ]) stations on

-- whether an edit of operator b drops the station of that name of operator c
abbrev pub drops : List ℕ → Edit → List ℕ → List ℕ → Bool
drops b (Stations (StationDropped station)) c name = bytes_eq c b && bytes_eq name station
drops b e c name = false

-- an edit takes a station off the record only if it drops it
pub keeps-edit : (b : List ℕ) (e : Edit) (rows : Rows) → (c station : List ℕ) → drops b e c station ≡ false → IsOnRecord c station rows.stations → IsOnRecord c station (edit b e rows).stations
keeps-edit b (Stations (StationAdded station policy interval)) rows c s other = keeps-put (new_station b station policy interval) rows.stations c s
keeps-edit b (Stations (BootSeen station boot state)) rows c s other = keeps-changed b (λ r. bytes_eq r.station station) (with_boot boot state) (λ r. (refl, refl)) rows.stations c s
keeps-edit b (Stations (PolicySet station policy interval)) rows c s other = keeps-changed b (λ r. bytes_eq r.station station) (with_policy policy interval) (λ r. (refl, refl)) rows.stations c s
keeps-edit b (Stations (StationDropped station)) rows c s other = kept_station b station rows.stations c s other
keeps-edit b (Tags (TagDropped key)) rows c s other = λ on. on
keeps-edit b (Transactions (MeterValuesAdded station first values)) rows c s other = λ on. on
keeps-edit b (Holdings (ReservationDropped station id)) rows c s other = λ on. on
keeps-edit b e rows c s other = λ on. on

-- ---- tags on record

-- each grant of a good list is of a tag that is still there
still : (old new : List TagRow) → ((b key : List ℕ) → IsSome (tag_in b key old) → IsSome (tag_in b key new)) → (gs : List GrantRow) → AreGood grant_key (IsGoodGrant old) gs → AreGood grant_key (IsGoodGrant new) gs
still old new keeps gs good = good-weaker grant_key (IsGoodGrant old) (IsGoodGrant new) (λ g it. record { tag = keeps g.op g.key it.tag; receiver = it.receiver }) gs good

some_tag-put : (r : TagRow) (tags : List TagRow) (b key : List ℕ) → IsSome (tag_in b key tags) → IsSome (tag_in b key (put (by_key tag_key) r tags))
some_tag-put r tags b key on =
    let t : TagRow → Bool = (λ x. bytes_eq x.op b && bytes_eq x.key key) in
    let by : (x : TagRow) → t x ≡ is_eq (key_cmp (tag_key x) (b ∷ key ∷ [])) = (λ x. two_parts x.op x.key b key) in
    some-put (by_key tag_key) t (λ x y e. by x ∙ ap (λ k. is_eq (key_cmp k (b ∷ key ∷ []))) (same_key (tag_key x) (tag_key y) e) ∙ sym (by y)) r tags on

-- a tag that is not dropped is still there
kept_tag : (c dropped : List ℕ) (tags : List TagRow) (b key : List ℕ) → bytes_eq b c && bytes_eq key dropped ≡ false → IsSome (tag_in b key tags) → IsSome (tag_in b key (without (λ r. r.op) c (λ r. bytes_eq r.key dropped) tags))
kept_tag c dropped tags b key other on =
    subst IsSome (sym (find-kept (λ x. bytes_eq x.op b && bytes_eq x.key key) (λ x. bytes_eq x.op c && bytes_eq x.key dropped)
    (λ x is. let parts = and_parts (bytes_eq x.op b) (bytes_eq x.key key) is in (λ i. bytes_eq (same_text x.op b parts.0 i) c && bytes_eq (same_text x.key key parts.1 i) dropped) ∙ other) tags)) on

-- the grants that a dropped tag leaves are of tags that are still there
kept_grants : (c dropped : List ℕ) (tags : List TagRow) (gs : List GrantRow) → AllByRecursion (IsGoodGrant tags) gs → AllByRecursion (IsGoodGrant (without (λ r. r.op) c (λ r. bytes_eq r.key dropped) tags)) (without (λ r. r.op) c (λ r. bytes_eq r.key dropped) gs)
kept_grants c dropped tags gs all =
    all-kept (IsGoodGrant tags) (IsGoodGrant (without (λ r. r.op) c (λ r. bytes_eq r.key dropped) tags)) (λ g. bytes_eq g.op c && bytes_eq g.key dropped)
    (λ g stays it. record { tag = kept_tag c dropped tags g.op g.key stays it.tag; receiver = it.receiver }) gs all

some_row : (blocked : TagRow → Info) (o : Option TagRow) → IsSome (option_map blocked o) → IsSome o
some_row blocked None some = some
some_row blocked (Some r) some = refl

-- ---- one list is another

module _ (rows : Rows) (good : WellFormedRows rows) where
  pub well_formed-stations : (rs : List StationRow) → IsStrictlySortedBy (by_key station_key) rs → KeepsStations rows.stations rs → WellFormedRows (record rows { stations = rs })
  well_formed-stations rs sorted keeps = record {
    stations = sorted;
    connectors = good-weaker connector_key (IsGoodConnector rows.stations) (IsGoodConnector rs) (λ r on. keeps r.op r.station on) rows.connectors good.connectors;
    tags = good.tags;
    grants = good.grants;
    transactions = good-weaker tx_key (IsGoodTx rows.stations) (IsGoodTx rs) (λ r g. record { station = λ is. keeps r.op r.station (g.station is); number = g.number; key = g.key }) rows.transactions good.transactions;
    meter_values = good.meter_values;
    apart = good.apart;
    reservations = good-weaker reservation_key (IsGoodReservation rows.stations) (IsGoodReservation rs) (λ r on. keeps r.op r.station on) rows.reservations good.reservations;
    local_lists = good-weaker list_key (IsGoodList rows.stations) (IsGoodList rs) (λ r g. record { station = keeps r.op r.station g.station; entries = g.entries }) rows.local_lists good.local_lists;
    reports = good-weaker report_key (IsGoodReport rows.stations) (IsGoodReport rs) (λ r on. keeps r.op r.station on) rows.reports good.reports;
    tx_owners = good.tx_owners;
    uses = good.uses;
    readers = good-weaker reader_key (IsGoodReader rows.stations) (IsGoodReader rs) (λ r on. keeps r.op r.station on) rows.readers good.readers;
  }

  pub well_formed-connectors : (rs : List ConnectorRow) → AreGood connector_key (IsGoodConnector rows.stations) rs → WellFormedRows (record rows { connectors = rs })
  well_formed-connectors rs new = record { stations = good.stations; connectors = new; tags = good.tags; grants = good.grants; transactions = good.transactions; meter_values = good.meter_values; apart = good.apart; reservations = good.reservations; local_lists = good.local_lists; reports = good.reports; tx_owners = good.tx_owners; uses = good.uses; readers = good.readers }

  pub well_formed-tags : (rs : List TagRow) (gs : List GrantRow) → AreGood tag_key IsGoodTag rs → AreGood grant_key (IsGoodGrant rs) gs → WellFormedRows (record rows { tags = rs; grants = gs })
  well_formed-tags rs gs new granted = record { stations = good.stations; connectors = good.connectors; tags = new; grants = granted; transactions = good.transactions; meter_values = good.meter_values; apart = good.apart; reservations = good.reservations; local_lists = good.local_lists; reports = good.reports; tx_owners = good.tx_owners; uses = good.uses; readers = good.readers }

  pub well_formed-grants : (gs : List GrantRow) → AreGood grant_key (IsGoodGrant rows.tags) gs → WellFormedRows (record rows { grants = gs })
  well_formed-grants gs new = record { stations = good.stations; connectors = good.connectors; tags = good.tags; grants = new; transactions = good.transactions; meter_values = good.meter_values; apart = good.apart; reservations = good.reservations; local_lists = good.local_lists; reports = good.reports; tx_owners = good.tx_owners; uses = good.uses; readers = good.readers }

  -- each transaction that was on record and began Accepted still is
  pub well_formed-transactions : (rs : List TxRow) → AreGood tx_key (IsGoodTx rows.stations) rs → KeepsBegun rows.transactions rs → WellFormedRows (record rows { transactions = rs })
  well_formed-transactions rs new keeps = record {
    stations = good.stations;
    connectors = good.connectors;
    tags = good.tags;
    grants = good.grants;
    transactions = new;
    meter_values = good.meter_values;
    apart = good.apart;
    reservations = good.reservations;
    local_lists = good.local_lists;
    reports = good.reports;
    tx_owners = good-weaker tx_owner_key (IsGoodTxOwner rows.transactions) (IsGoodTxOwner rs) (λ r g. record { tx = keeps r.op r.station r.number g.tx; owner = g.owner }) rows.tx_owners good.tx_owners;
    uses = good.uses;
    readers = good.readers;
  }

  pub well_formed-meter_values : (rs : List MeterValueRow) → AreGood meter_value_key IsGoodMeterValue rs → IsStrictlySortedBy end_cmp rs → WellFormedRows (record rows { meter_values = rs })
  well_formed-meter_values rs new apart = record { stations = good.stations; connectors = good.connectors; tags = good.tags; grants = good.grants; transactions = good.transactions; meter_values = new; apart = apart; reservations = good.reservations; local_lists = good.local_lists; reports = good.reports; tx_owners = good.tx_owners; uses = good.uses; readers = good.readers }

  pub well_formed-reservations : (rs : List ReservationRow) → AreGood reservation_key (IsGoodReservation rows.stations) rs → WellFormedRows (record rows { reservations = rs })
  well_formed-reservations rs new = record { stations = good.stations; connectors = good.connectors; tags = good.tags; grants = good.grants; transactions = good.transactions; meter_values = good.meter_values; apart = good.apart; reservations = new; local_lists = good.local_lists; reports = good.reports; tx_owners = good.tx_owners; uses = good.uses; readers = good.readers }

  pub well_formed-local_lists : (rs : List ListRow) → AreGood list_key (IsGoodList rows.stations) rs → WellFormedRows (record rows { local_lists = rs })
  well_formed-local_lists rs new = record { stations = good.stations; connectors = good.connectors; tags = good.tags; grants = good.grants; transactions = good.transactions; meter_values = good.meter_values; apart = good.apart; reservations = good.reservations; local_lists = new; reports = good.reports; tx_owners = good.tx_owners; uses = good.uses; readers = good.readers }

  pub well_formed-reports : (rs : List ReportRow) → AreGood report_key (IsGoodReport rows.stations) rs → WellFormedRows (record rows { reports = rs })
  well_formed-reports rs new = record { stations = good.stations; connectors = good.connectors; tags = good.tags; grants = good.grants; transactions = good.transactions; meter_values = good.meter_values; apart = good.apart; reservations = good.reservations; local_lists = good.local_lists; reports = new; tx_owners = good.tx_owners; uses = good.uses; readers = good.readers }

  pub well_formed-readers : (rs : List ReaderRow) → AreGood reader_key (IsGoodReader rows.stations) rs → WellFormedRows (record rows { readers = rs })
  well_formed-readers rs new = record { stations = good.stations; connectors = good.connectors; tags = good.tags; grants = good.grants; transactions = good.transactions; meter_values = good.meter_values; apart = good.apart; reservations = good.reservations; local_lists = good.local_lists; reports = good.reports; tx_owners = good.tx_owners; uses = good.uses; readers = new }

-- ---- new numbers

number_of : (last first : ℕ) → AreNext last first 1 → IsNumber first
number_of last first next = ⊎_elim (λ none. absurd (omega (arith, none))) (λ follow. (follow.from_one, let to = follow.to_the_end in omega (arith, to))) next

meter_values_from : (b station : List ℕ) (first : ℕ) (values : List MeterValue) → 1 ≤ first → first + all_taken values ≤ last_of_all + 1 → AllByRecursion IsGoodMeterValue (meter_value_rows b station first values)
meter_values_from b station first [] from to = tt
meter_values_from b station first (v ∷ vs) from to = ((from, omega (arith, to)), meter_values_from b station (first + numbers_taken v) vs (omega (arith, from)) (omega (arith, to)))

good_meter_values : (b station : List ℕ) (last first : ℕ) (values : List MeterValue) → AreNext last first (all_taken values) → AllByRecursion IsGoodMeterValue (meter_value_rows b station first values)
good_meter_values b station last first [] next = tt
good_meter_values b station last first (v ∷ vs) next =
    ⊎_elim (λ none. absurd (omega (arith, none))) (λ follow. meter_values_from b station first (v ∷ vs) follow.from_one follow.to_the_end) next

-- ---- changes

module _ (b : List ℕ) (rows : Rows) (good : WellFormedRows rows) where
  pub station-put : (r : StationRow) → WellFormedRows (record rows { stations = put (by_key station_key) r rows.stations })
  station-put r = well_formed-stations rows good _ (sorted-put (by_key station_key) (by_key_total station_key) r rows.stations good.stations) (keeps-put r rows.stations)

  pub station-changed : (station : List ℕ) (f : StationRow → StationRow) → ((r : StationRow) → ((f r).op ≡ r.op) × ((f r).station ≡ r.station)) → WellFormedRows (record rows { stations = changed (λ r. r.op) b (λ r. bytes_eq r.station station) f rows.stations })
  station-changed station f same =
      let test : StationRow → Bool = (λ r. bytes_eq r.station station) in
      well_formed-stations rows good _ (sorted-changed station_key (λ r. r.op) b test f (λ r i. (same r).0 i ∷ (same r).1 i ∷ []) rows.stations good.stations) (keeps-changed b test f same rows.stations)

  pub connector-put : (r : ConnectorRow) → IsGoodConnector rows.stations r → WellFormedRows (record rows { connectors = put (by_key connector_key) r rows.connectors })
  connector-put r new = well_formed-connectors rows good _ (good-put connector_key (IsGoodConnector rows.stations) r rows.connectors new good.connectors)

  pub tag-put : (r : TagRow) → IsGoodTag r → WellFormedRows (record rows { tags = put (by_key tag_key) r rows.tags })
  tag-put r new = well_formed-tags rows good _ rows.grants (good-put tag_key IsGoodTag r rows.tags new good.tags) (still rows.tags (put (by_key tag_key) r rows.tags) (some_tag-put r rows.tags) rows.grants good.grants)

  pub tag-dropped : (key : List ℕ) → WellFormedRows (edit b (Tags (TagDropped key)) rows)
  tag-dropped key = well_formed-tags rows good _ (without (λ r. r.op) b (λ r. bytes_eq r.key key) rows.grants)
      (good-filter tag_key IsGoodTag (λ r. not (bytes_eq r.op b && bytes_eq r.key key)) rows.tags good.tags)
      (record {
        sorted = IsStrictlySortedBy-filter (by_key grant_key) (λ r. not (bytes_eq r.op b && bytes_eq r.key key)) rows.grants good.grants.sorted;
        each = kept_grants b key rows.tags rows.grants good.grants.each;
      })

  pub grant-put : (key to : List ℕ) (until : Option ℕ) → EditFits b (Tags (GrantPut key to until)) rows → WellFormedRows (edit b (Tags (GrantPut key to until)) rows)
  grant-put key to until fits = well_formed-grants rows good _ (good-put grant_key (IsGoodGrant rows.tags) (grant_row b key to until) rows.grants (record { tag = some_row _ (tag_in b key rows.tags) fits.0; receiver = fits.1 }) good.grants)

  pub grant-dropped : (key to : List ℕ) → WellFormedRows (edit b (Tags (GrantDropped key to)) rows)
  grant-dropped key to = well_formed-grants rows good _ (good-filter grant_key (IsGoodGrant rows.tags) (λ r. not (bytes_eq r.op b && is_grant key to r)) rows.grants good.grants)

  pub tx-put : (r : TxRow) → IsGoodTx rows.stations r → last_tx_in r.op r.station rows.transactions < r.number → WellFormedRows (record rows { transactions = put (by_key tx_key) r rows.transactions })
  tx-put r new above = well_formed-transactions rows good _ (good-put tx_key (IsGoodTx rows.stations) r rows.transactions new good.transactions) (keeps-new r rows.transactions above)

  pub tx-stopped : (station : List ℕ) (number : ℕ) (stop : Stop) → WellFormedRows (record rows { transactions = changed (λ r. r.op) b (is_tx station number) (with_stop stop) rows.transactions })
  tx-stopped station number stop = well_formed-transactions rows good _
      (good-changed tx_key (IsGoodTx rows.stations) (λ r. r.op) b (is_tx station number) (with_stop stop) (λ r. refl) (λ r g. record { station = λ is. absurd (true≢false (sym is)); number = g.number; key = g.key }) rows.transactions good.transactions) (keeps-stopped b (is_tx station number) stop rows.transactions)

  pub meter_values-put : (station : List ℕ) (first : ℕ) (values : List MeterValue) → AreNext (last_reading_in b station rows.meter_values) first (all_taken values) → WellFormedRows (record rows { meter_values = with_meter_values b station first values rows.meter_values })
  meter_values-put station first values next = well_formed-meter_values rows good _
      (good-put_all meter_value_key IsGoodMeterValue (meter_value_rows b station first values) rows.meter_values (good_meter_values b station _ first values next) good.meter_values)
      (apart-added b station first values rows.meter_values next good.apart)

  pub reservation-put : (r : ReservationRow) → IsGoodReservation rows.stations r → WellFormedRows (record rows { reservations = put (by_key reservation_key) r rows.reservations })
  reservation-put r new = well_formed-reservations rows good _ (good-put reservation_key (IsGoodReservation rows.stations) r rows.reservations new good.reservations)

  -- some reservations are gone
  pub reservations-without : (test : ReservationRow → Bool) → WellFormedRows (record rows { reservations = without (λ r. r.op) b test rows.reservations })
  reservations-without test = well_formed-reservations rows good _ (good-filter reservation_key (IsGoodReservation rows.stations) (λ r. not (bytes_eq r.op b && test r)) rows.reservations good.reservations)

  pub list-put : (r : ListRow) → IsGoodList rows.stations r → WellFormedRows (record rows { local_lists = put (by_key list_key) r rows.local_lists })
  list-put r new = well_formed-local_lists rows good _ (good-put list_key (IsGoodList rows.stations) r rows.local_lists new good.local_lists)

  pub report-put : (r : ReportRow) → IsGoodReport rows.stations r → WellFormedRows (record rows { reports = put (by_key report_key) r rows.reports })
  report-put r new = well_formed-reports rows good _ (good-put report_key (IsGoodReport rows.stations) r rows.reports new good.reports)

  pub reader-put : (r : ReaderRow) → IsGoodReader rows.stations r → WellFormedRows (record rows { readers = put (by_key reader_key) r rows.readers })
  reader-put r new = well_formed-readers rows good _ (good-put reader_key (IsGoodReader rows.stations) r rows.readers new good.readers)

  -- the owner of the tag of a transaction that began Accepted
  pub owner-put : (station : List ℕ) (number : ℕ) (owner : Option (List ℕ)) → IsAnother b owner → IfSome owner (λ a. BeganAccepted (found (λ t. t.op) b (is_tx station number) rows.transactions)) → WellFormedRows (record rows { tx_owners = with_owner b station number owner rows.tx_owners })
  owner-put station number None other on = good
  owner-put station number (Some a) other on = record {
    stations = good.stations;
    connectors = good.connectors;
    tags = good.tags;
    grants = good.grants;
    transactions = good.transactions;
    meter_values = good.meter_values;
    apart = good.apart;
    reservations = good.reservations;
    local_lists = good.local_lists;
    reports = good.reports;
    tx_owners = good-put tx_owner_key (IsGoodTxOwner rows.transactions) (record { op = b; station = station; number = number; owner = a }) rows.tx_owners (record { tx = on; owner = other }) good.tx_owners;
    uses = good.uses;
    readers = good.readers;
  }

  -- transactions are forgotten with the owners of their tags
  pub forgotten : (station : List ℕ) (gone : Forgettable) → WellFormedRows (edit b (Transactions (Forgotten station gone)) rows)
  forgotten station gone =
      record {
        stations = good.stations;
        connectors = good.connectors;
        tags = good.tags;
        grants = good.grants;
        transactions = good-filter tx_key (IsGoodTx rows.stations) (λ r. not (bytes_eq r.op b && is_one_of (λ r. r.station) (λ r. r.number) station gone.transactions r)) rows.transactions good.transactions;
        meter_values = good-filter meter_value_key IsGoodMeterValue (λ r. not (bytes_eq r.op b && is_one_of (λ r. r.station) (λ r. r.first) station gone.meter_values r)) rows.meter_values good.meter_values;
        apart = IsStrictlySortedBy-filter end_cmp (λ r. not (bytes_eq r.op b && is_one_of (λ r. r.station) (λ r. r.first) station gone.meter_values r)) rows.meter_values good.apart;
        reservations = good.reservations;
        local_lists = good.local_lists;
        reports = good.reports;
        tx_owners = record {
          sorted = IsStrictlySortedBy-filter (by_key tx_owner_key) (λ r. not (bytes_eq r.op b && is_one_of (λ r. r.station) (λ r. r.number) station gone.transactions r)) rows.tx_owners good.tx_owners.sorted;
          each = all-kept (IsGoodTxOwner rows.transactions) (IsGoodTxOwner (edit b (Transactions (Forgotten station gone)) rows).transactions) (λ r. bytes_eq r.op b && is_one_of (λ r. r.station) (λ r. r.number) station gone.transactions r)
              (λ r stays it. record { tx = began-kept b station gone.transactions rows.transactions r.op r.station r.number stays it.tx; owner = it.owner }) rows.tx_owners good.tx_owners.each;
        };
        uses = good.uses;
        readers = good.readers;
      }

  -- the next use of an owner
  pub use-put : (r : UseRow) → IsNumber r.number → r.host ≢ r.op → r.number ≡ last_use_in r.op rows.uses + 1 → WellFormedRows (record rows { uses = put (by_key use_key) r rows.uses })
  use-put r number host next = record {
    stations = good.stations;
    connectors = good.connectors;
    tags = good.tags;
    grants = good.grants;
    transactions = good.transactions;
    meter_values = good.meter_values;
    apart = good.apart;
    reservations = good.reservations;
    local_lists = good.local_lists;
    reports = good.reports;
    tx_owners = good.tx_owners;
    uses = good-next r rows.uses good.uses number host next;
    readers = good.readers;
  }

-- ---- uses

-- the owner of a granted tag is another operator
pub is_another : (b station : List ℕ) (number : ℕ) (rows : Rows) → WellFormedRows rows → IsAnother b (owner_in b station number rows.tx_owners)
is_another b station number rows good = go (found (λ r. r.op) b (is_owner_of station number) rows.tx_owners) (found_is (IsGoodTxOwner rows.transactions) (λ r. bytes_eq r.op b && is_owner_of station number r) rows.tx_owners good.tx_owners.each)
  where
    go : (o : Option TxOwnerRow) → ((r : TxOwnerRow) → o ≡ Some r → IsGoodTxOwner rows.transactions r × (bytes_eq r.op b && is_owner_of station number r ≡ true)) → IsAnother b (option_map (λ r. r.owner) o)
    go None is = tt
    go (Some r) is = let it = is r refl in λ same. it.0.owner (same ∙ sym (same_text r.op b (and_parts (bytes_eq r.op b) (is_owner_of station number r) it.1).0))

-- the use that a stop settles is the next one of another operator
abbrev pub IsSettled : List ℕ → List UseRow → Option UseRow → Type 0
IsSettled b uses None = Unit {0}
IsSettled b uses (Some r) = (r.op ≢ b) × (r.host ≢ r.op) × IsNumber r.number × (r.number ≡ last_use_in r.op uses + 1)

pub is_settled : (b station : List ℕ) (number : ℕ) (stop : Stop) (rows : Rows) → WellFormedRows rows → IsSettled b rows.uses (settled_use b station number stop rows)
is_settled b station number stop rows good = go (owner_in b station number rows.tx_owners) (is_another b station number rows good) (found (λ r. r.op) b (is_tx station number) rows.transactions)
  where
    go : (o : Option (List ℕ)) → IsAnother b o → (r : Option TxRow) → IsSettled b rows.uses (use_by b stop rows.uses o r)
    go None other r = tt
    go (Some a) other None = tt
    go (Some a) other (Some r) =
        let last = last_use_in a rows.uses in
        elim (nat_lt last last_of_all) as (λ t. nat_lt last last_of_all ≡ t → IsSettled b rows.uses (cond t (Some (use_row a (last + 1) b r stop)) None)) [
          | true ↦ λ e. (other, (λ same. other (sym same)), (omega arith, grind (arith, nat_tests, e)), refl)
          | false ↦ λ e. tt
        ] refl

use-settled : (b : List ℕ) (rows : Rows) → WellFormedRows rows → (o : Option UseRow) → IsSettled b rows.uses o → WellFormedRows (record rows { uses = with_use o rows.uses })
use-settled b rows good None settled = good
use-settled b rows good (Some r) settled = use-put b rows good r settled.2 settled.1 settled.3

-- what holds where there is one
if_some : {P Q : Type 0} (o : Option (List ℕ)) → (P → Q) → IfSome o (λ a. P) → IfSome o (λ a. Q)
if_some None f some = tt
if_some (Some a) f some = f some

-- rows that are well formed are so after an edit that fits
pub well_formed-edit : (b : List ℕ) (e : Edit) (rows : Rows) → WellFormedRows rows → EditFits b e rows → WellFormedRows (edit b e rows)
well_formed-edit b (Stations (StationAdded station policy interval)) rows good fits = station-put b rows good (new_station b station policy interval)
well_formed-edit b (Stations (BootSeen station boot state)) rows good fits = station-changed b rows good station (with_boot boot state) (λ r. (refl, refl))
well_formed-edit b (Stations (PolicySet station policy interval)) rows good fits = station-changed b rows good station (with_policy policy interval) (λ r. (refl, refl))
well_formed-edit b (Stations (StationDropped station)) rows good fits = station-dropped b rows good station fits
well_formed-edit b (Stations (ConnectorSeen station connector report)) rows good fits = connector-put b rows good (connector_row b station connector report) (on_record b station rows.stations fits)
well_formed-edit b (Tags (TagPut key tag)) rows good fits = tag-put b rows good (tag_row b key tag) (record { key = fits })
well_formed-edit b (Tags (TagDropped key)) rows good fits = tag-dropped b rows good key
well_formed-edit b (Tags (GrantPut key to until)) rows good fits = grant-put b rows good key to until fits
well_formed-edit b (Tags (GrantDropped key to)) rows good fits = grant-dropped b rows good key to
well_formed-edit b (Transactions (TxStarted station number start owner)) rows good fits =
    let r : TxRow = tx_row b station number start in
    let above : last_tx_in b station rows.transactions < number = next-above (last_tx_in b station rows.transactions) number fits.1 in
    let begun : WellFormedRows (record rows { transactions = put (by_key tx_key) r rows.transactions })
    = tx-put b rows good r (record { station = λ is. on_record b station rows.stations fits.0; number = number_of _ number fits.1; key = fits.2 }) above in
    let freed = reservations-without b (record rows { transactions = put (by_key tx_key) r rows.transactions }) begun (is_named station start.reservation) in
    owner-put b (record rows { transactions = put (by_key tx_key) r rows.transactions; reservations = without_named b station start.reservation rows.reservations }) freed station number owner fits.3 (if_some owner (λ status. subst BeganAccepted (sym (found-new r rows.transactions above)) (ap is_accepted status)) fits.4)
well_formed-edit b (Transactions (TxStopped station number stop first values)) rows good fits =
    let ended : WellFormedRows (record rows { transactions = changed (λ r. r.op) b (is_tx station number) (with_stop stop) rows.transactions }) = tx-stopped b rows good station number stop in
    let read = meter_values-put b (record rows { transactions = changed (λ r. r.op) b (is_tx station number) (with_stop stop) rows.transactions }) ended station first values fits.1 in
    use-settled b (record rows { transactions = changed (λ r. r.op) b (is_tx station number) (with_stop stop) rows.transactions; meter_values = with_meter_values b station first values rows.meter_values }) read (settled_use b station number stop rows) (is_settled b station number stop rows good)
well_formed-edit b (Transactions (MeterValuesAdded station first values)) rows good fits = meter_values-put b rows good station first values fits.1
well_formed-edit b (Transactions (Forgotten station gone)) rows good fits = forgotten b rows good station gone
well_formed-edit b (Holdings (ReservationPut station id reservation)) rows good fits = reservation-put b rows good (reservation_row b station id reservation) (on_record b station rows.stations fits)
well_formed-edit b (Holdings (ReservationDropped station id)) rows good fits = reservations-without b rows good (is_reservation station id)
well_formed-edit b (Holdings (ListSet station list)) rows good fits = list-put b rows good (list_row b station list) (record { station = on_record b station rows.stations fits.0; entries = fits.1 })
well_formed-edit b (Stations (ReportSeen station status moment)) rows good fits = report-put b rows good (report_row b station status moment) (on_record b station rows.stations fits)
well_formed-edit b (Stations (ReaderSet station reader)) rows good fits = reader-put b rows good (reader_row b station reader) (on_record b station rows.stations fits)

pub well_formed-no_rows : WellFormedRows no_rows
unfolding IsStrictlySortedBy
well_formed-no_rows = record {
  stations = tt;
  connectors = record { sorted = tt; each = tt };
  tags = record { sorted = tt; each = tt };
  grants = record { sorted = tt; each = tt };
  transactions = record { sorted = tt; each = tt };
  meter_values = record { sorted = tt; each = tt };
  apart = tt;
  reservations = record { sorted = tt; each = tt };
  local_lists = record { sorted = tt; each = tt };
  reports = record { sorted = tt; each = tt };
  tx_owners = record { sorted = tt; each = tt };
  uses = record { sorted = tt; each = tt };
  readers = record { sorted = tt; each = tt };
}
