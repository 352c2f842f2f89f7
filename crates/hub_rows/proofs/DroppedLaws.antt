-- What a dropped station leaves of well formed rows.
use Rattle.std.specs.Prelude.{◌≡◌, List, [], ◌∷◌, ℕ, Bool, ◌&&◌, cond, not, true, false, filter, IsSome}
use Rattle.std.proofs.Common.{refl, sym, ◌∙◌, subst}
use Rattle.std.specs.List.{AllByRecursion}
use Rattle.std.specs.Str.{bytes_eq}
use Rattle.std.proofs.lemmas.Bool.{and_parts, or_parts}
use Rattle.std.proofs.lemmas.List.Kept.{IsStrictlySortedBy-filter}
use Rattle.hub_rows.specs.declared.change.Edit.TheVariants.{Stations}
use Rattle.hub_rows.specs.declared.change.StationEdit.TheVariants.{StationDropped}
use Rattle.hub_rows.specs.declared.station_row.StationRow.{StationRow}
use Rattle.hub_rows.specs.declared.tx_row.TxRow.{TxRow}
use Rattle.hub_rows.specs.Rows.{Rows, station_key, connector_key, reservation_key, list_key, report_key, reader_key}
use Rattle.hub_rows.specs.Keyed.{by_key, without}
use Rattle.hub_rows.specs.Transactions.{is_open, has_open_in}
use Rattle.hub_rows.specs.WellFormed.{IsOnRecord, IsGoodConnector, IsGoodTx, IsGoodReservation, IsGoodList, IsGoodReport, IsGoodReader, AreGood, WellFormedRows}
use Rattle.hub_rows.specs.Changes.{edit}
use Rattle.hub_rows.proofs.ListLaws.{same_text}
use Rattle.hub_rows.proofs.OwnerLaws.{find-kept}

-- ---- rows that are left

-- what is so of each row that is left is so of all of them
pub all-kept : {R : Type 0} (P Q : R → Type 0) (d : R → Bool) → ((r : R) → d r ≡ false → P r → Q r) → (rs : List R) → AllByRecursion P rs → AllByRecursion Q (filter (λ r. not (d r)) rs)
all-kept P Q d stays [] all = tt
all-kept P Q d stays (x ∷ xs) all =
    let left = filter (λ r. not (d r)) xs in
    elim (d x) as (λ c. d x ≡ c → AllByRecursion Q (cond (not c) (x ∷ left) left)) [
      | true ↦ λ gone. all-kept P Q d stays xs all.1
      | false ↦ λ is. (stays x is all.0, all-kept P Q d stays xs all.1)
    ] refl

-- ---- the other stations

-- a row of a station of operator b
abbrev pub is_at : {R : Type 0} → (R → List ℕ) → (R → List ℕ) → List ℕ → List ℕ → R → Bool
is_at op station b name r = bytes_eq (op r) b && bytes_eq (station r) name

-- a station that isn't dropped is still on record
pub kept_station : (b dropped : List ℕ) (stations : List StationRow) (c station : List ℕ) → bytes_eq c b && bytes_eq station dropped ≡ false → IsOnRecord c station stations → IsOnRecord c station (without (λ r. r.op) b (λ r. bytes_eq r.station dropped) stations)
kept_station b dropped stations c station other on =
    subst IsSome (sym (find-kept (is_at (λ x. x.op) (λ x. x.station) c station) (is_at (λ x. x.op) (λ x. x.station) b dropped)
    (λ x is. let parts = and_parts (bytes_eq x.op c) (bytes_eq x.station station) is in (λ i. bytes_eq (same_text x.op c parts.0 i) b && bytes_eq (same_text x.station station parts.1 i) dropped) ∙ other) stations)) on

module _ {R : Type 0} (op station : R → List ℕ) (key : R → List (List ℕ)) (P Q : R → Type 0) (b dropped : List ℕ) where
  -- the rows of the other stations are good, if each that isn't of the dropped one still is
  good-others : ((r : R) → is_at op station b dropped r ≡ false → P r → Q r) → (rs : List R) → AreGood key P rs → AreGood key Q (without op b (λ r. bytes_eq (station r) dropped) rs)
  good-others stays rs good = record {
    sorted = IsStrictlySortedBy-filter (by_key key) (λ r. not (is_at op station b dropped r)) rs good.sorted;
    each = all-kept P Q (is_at op station b dropped) stays rs good.each;
  }

-- ---- transactions

-- an open transaction is of another station than one that has none
open_elsewhere : (b dropped : List ℕ) (x : TxRow) → bytes_eq x.op b && (bytes_eq x.station dropped && is_open x) ≡ false → is_open x ≡ true → bytes_eq x.op b && bytes_eq x.station dropped ≡ false
open_elsewhere b dropped x none is =
    elim (bytes_eq x.op b) as (λ p. p && (bytes_eq x.station dropped && is_open x) ≡ false → p && bytes_eq x.station dropped ≡ false) [
      | true ↦ elim (bytes_eq x.station dropped) as (λ q. q && is_open x ≡ false → q ≡ false) [ true ↦ λ closed. sym is ∙ closed | false ↦ λ closed. refl ]
      | false ↦ λ closed. refl
    ] none

txs-kept : (b dropped : List ℕ) (stations : List StationRow) (txs : List TxRow) → has_open_in b dropped txs ≡ false
    → AllByRecursion (IsGoodTx stations) txs → AllByRecursion (IsGoodTx (without (λ r. r.op) b (λ r. bytes_eq r.station dropped) stations)) txs
txs-kept b dropped stations [] none all = tt
txs-kept b dropped stations (x ∷ xs) none all =
    let parts = or_parts (bytes_eq x.op b && (bytes_eq x.station dropped && is_open x)) (has_open_in b dropped xs) none in (
      record {
        station = λ is. kept_station b dropped stations x.op x.station (open_elsewhere b dropped x parts.0 is) (all.0.station is);
        number = all.0.number;
        key = all.0.key;
      },
      txs-kept b dropped stations xs parts.1 all.1,
    )

-- ---- all rows

pub station-dropped : (b : List ℕ) (rows : Rows) → WellFormedRows rows → (station : List ℕ) → has_open_in b station rows.transactions ≡ false → WellFormedRows (edit b (Stations (StationDropped station)) rows)
station-dropped b rows good station none =
    let left : List StationRow = without (λ r. r.op) b (λ r. bytes_eq r.station station) rows.stations in
    let kept = kept_station b station rows.stations in
    record {
      stations = IsStrictlySortedBy-filter (by_key station_key) (λ r. not (is_at (λ x. x.op) (λ x. x.station) b station r)) rows.stations good.stations;
      connectors = good-others (λ r. r.op) (λ r. r.station) connector_key (IsGoodConnector rows.stations) (IsGoodConnector left) b station (λ r. kept r.op r.station) rows.connectors good.connectors;
      tags = good.tags;
      grants = good.grants;
      transactions = record { sorted = good.transactions.sorted; each = txs-kept b station rows.stations rows.transactions none good.transactions.each };
      meter_values = good.meter_values;
      apart = good.apart;
      reservations = good-others (λ r. r.op) (λ r. r.station) reservation_key (IsGoodReservation rows.stations) (IsGoodReservation left) b station (λ r. kept r.op r.station) rows.reservations good.reservations;
      local_lists = good-others (λ r. r.op) (λ r. r.station) list_key (IsGoodList rows.stations) (IsGoodList left) b station (λ r other it. record { station = kept r.op r.station other it.station; entries = it.entries }) rows.local_lists good.local_lists;
      reports = good-others (λ r. r.op) (λ r. r.station) report_key (IsGoodReport rows.stations) (IsGoodReport left) b station (λ r. kept r.op r.station) rows.reports good.reports;
      tx_owners = good.tx_owners;
      uses = good.uses;
      readers = good-others (λ r. r.op) (λ r. r.station) reader_key (IsGoodReader rows.stations) (IsGoodReader left) b station (λ r. kept r.op r.station) rows.readers good.readers;
    }
