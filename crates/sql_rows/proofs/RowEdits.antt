-- Edits that change a row which was read, and those of several parts.
use Rattle.std.proofs.Common.{◌≡◌, ◌&&◌, ◌==◌, ℕ, ◌+◌, ◌<◌, ◌≤◌, nat_lt, arith, List, [], ◌∷◌, Bool, true, false, cond, not, Option, Some, None, Result, Ok, Err, IsOk, OnOk, map, refl, sym, ap, ap₂, ◌∙◌, eqb-true}
use Rattle.std.specs.Str.{bytes_eq}
use Rattle.std.proofs.lemmas.Bool.{and_parts}
use Rattle.std.proofs.lemmas.Bool.Decides.{nat_tests}
use Rattle.sqlite_trees.specs.Tree.{Trees}
use Rattle.sqlite.specs.State.{State}
use Rattle.hub_rows.specs.declared.station_row.StationRow.{StationRow}
use Rattle.hub_rows.specs.declared.tx_row.Stop.{Stop}
use Rattle.hub_rows.specs.declared.tx_row.TxRow.{TxRow}
use Rattle.hub_rows.specs.declared.reservation_row.ReservationRow.{ReservationRow}
use Rattle.hub_rows.specs.declared.use_row.UseRow.{UseRow}
use Rattle.hub_rows.specs.Changes.{with_stop}
use Rattle.hub_rows.specs.Keyed.{by_key, changed, found, put}
use Rattle.hub_rows.specs.Reservations.{without_named}
use Rattle.hub_rows.specs.Rows.{Rows, station_in, station_key, tx_key, use_key}
use Rattle.hub_rows.specs.Transactions.{is_tx, last_of_all}
use Rattle.hub_rows.specs.Uses.{last_use_in, next_use, owner_in, settled_use, use_by, use_row, with_use}
use Rattle.hub_rows.proofs.ListLaws.{by_key_total, same_text}
use Rattle.sql_rows.specs.TypedTable.{typed, rows_in}
use Rattle.sql_rows.specs.TypedTables.{stations, txs, rows_of}
use Rattle.sql_rows.specs.Kept.{IsSame, Goes}
use Rattle.sql_rows.proofs.ChangedLaws.{found_changed}
use Rattle.sql_rows.proofs.MemberLaws.{is_arranged}

-- what a part answers that may fail after it
pub goes_if : {A B E F : Type 0} (Edit : Trees → Trees → Type 0) (a b : State) (r : Result A E) (q : Result B F) → OnOk q (IsOk r) → Goes Edit a b r → Goes Edit a b q
goes_if Edit a b (Ok x) (Ok y) ok g = record { ok = g.ok; err = tt }
goes_if Edit a b (Ok x) (Err y) ok g = record { ok = tt; err = g.ok.leaves }
goes_if Edit a b (Err x) (Err y) ok g = record { ok = tt; err = g.err }
goes_if Edit a b (Err x) (Ok y) ok g = absurd cc

-- ---- a station that is there is changed

key_of_station : (op station : List ℕ) (x : StationRow) → bytes_eq x.op op && bytes_eq x.station station ≡ true → station_key x ≡ op ∷ station ∷ []
key_of_station op station x passes = let parts = and_parts (bytes_eq x.op op) (bytes_eq x.station station) passes in ap₂ (λ a b. a ∷ b ∷ []) (same_text x.op op parts.0) (same_text x.station station parts.1)

pub station_changed : (op station : List ℕ) (f : StationRow → StationRow) → ((x : StationRow) → station_key (f x) ≡ station_key x) → (a b c : Trees) (r : StationRow) → station_in op station (rows_of a).stations ≡ Some r → IsSame a b
    → rows_of c ≡ record (rows_of b) { stations = put (by_key station_key) (f r) (rows_of b).stations } → rows_of c ≡ record (rows_of a) { stations = changed (λ x. x.op) op (λ x. bytes_eq x.station station) f (rows_of a).stations }
station_changed op station f stays a b c r found same made =
    made ∙ ap (λ (db : Trees). record (rows_of db) { stations = put (by_key station_key) (f r) (rows_of db).stations }) same
    ∙ ap (λ l. record (rows_of a) { stations = l })
    (sym (found_changed station_key (λ x. x.op) op (λ x. bytes_eq x.station station) f stays (rows_in stations a) (is_arranged (by_key station_key) (by_key_total station_key) (map (typed stations) (a 2))) (op ∷ station ∷ []) (key_of_station op station) r found))

-- ---- a transaction that is there is changed

key_of_tx : (op station : List ℕ) (n : ℕ) (x : TxRow) → bytes_eq x.op op && is_tx station n x ≡ true → tx_key x ≡ op ∷ station ∷ (n ∷ []) ∷ []
key_of_tx op station n x passes =
    let parts = and_parts (bytes_eq x.op op) (is_tx station n x) passes in
    let more = and_parts (bytes_eq x.station station) (x.number == n) parts.1 in
    λ i. same_text x.op op parts.0 i ∷ same_text x.station station more.0 i ∷ (eqb-true x.number n more.1 i ∷ []) ∷ []

pub tx_changed : (op station : List ℕ) (n : ℕ) (f : TxRow → TxRow) → ((x : TxRow) → tx_key (f x) ≡ tx_key x) → (a b c : Trees) (r : TxRow) → found (λ x. x.op) op (is_tx station n) (rows_of a).transactions ≡ Some r → IsSame a b
    → rows_of c ≡ record (rows_of b) { transactions = put (by_key tx_key) (f r) (rows_of b).transactions } → rows_of c ≡ record (rows_of a) { transactions = changed (λ x. x.op) op (is_tx station n) f (rows_of a).transactions }
tx_changed op station n f stays a b c r found same made =
    made ∙ ap (λ (db : Trees). record (rows_of db) { transactions = put (by_key tx_key) (f r) (rows_of db).transactions }) same
    ∙ ap (λ l. record (rows_of a) { transactions = l })
    (sym (found_changed tx_key (λ x. x.op) op (is_tx station n) f stays (rows_in txs a) (is_arranged (by_key tx_key) (by_key_total tx_key) (map (typed txs) (a 10))) (op ∷ station ∷ (n ∷ []) ∷ []) (key_of_tx op station n) r found))

-- ---- a transaction is stopped, and its use is settled

pub tx_settled : (op station : List ℕ) (n : ℕ) (stop : Stop) (a b c : Trees) (r : TxRow) → found (λ x. x.op) op (is_tx station n) (rows_of a).transactions ≡ Some r
    → rows_of b ≡ record (rows_of a) { transactions = changed (λ x. x.op) op (is_tx station n) (with_stop stop) (rows_of a).transactions }
    → rows_of c ≡ record (rows_of b) { uses = with_use (use_by op stop (rows_of b).uses (owner_in op station n (rows_of b).tx_owners) (Some r)) (rows_of b).uses }
    → rows_of c ≡ record (rows_of a) { transactions = changed (λ x. x.op) op (is_tx station n) (with_stop stop) (rows_of a).transactions; uses = with_use (settled_use op station n stop (rows_of a)) (rows_of a).uses }
tx_settled op station n stop a b c r found stopped settled =
    settled ∙ ap (λ (rows : Rows). record rows { uses = with_use (use_by op stop rows.uses (owner_in op station n rows.tx_owners) (Some r)) rows.uses }) stopped
    ∙ ap (λ (o : Option TxRow). record (rows_of a) {
      transactions = changed (λ x. x.op) op (is_tx station n) (with_stop stop) (rows_of a).transactions;
      uses = with_use (use_by op stop (rows_of a).uses (owner_in op station n (rows_of a).tx_owners) o) (rows_of a).uses;
    }) (sym found)

-- ---- the use that follows an owner's last one

above : (m n : ℕ) → m < n → nat_lt m n ≡ true
above m n low = grind (arith, nat_tests)

not_above : (m n : ℕ) → n ≤ m → nat_lt m n ≡ false
not_above m n high = grind (arith, nat_tests)

module _ (owner host : List ℕ) (row : TxRow) (stop : Stop) (last : ℕ) (a : Trees) (is_last : last ≡ last_use_in owner (rows_of a).uses) where
  next_is : (o : Option UseRow) → next_use owner last host row stop ≡ o → record (rows_of a) { uses = with_use o (rows_of a).uses } ≡ record (rows_of a) { uses = with_use (next_use owner (last_use_in owner (rows_of a).uses) host row stop) (rows_of a).uses }
  next_is o is = ap (λ u. record (rows_of a) { uses = with_use u (rows_of a).uses }) (sym is ∙ ap (λ n. next_use owner n host row stop) is_last)

  pub next_added : (b c : Trees) → last < last_of_all → IsSame a b → rows_of c ≡ record (rows_of b) { uses = put (by_key use_key) (use_row owner (last + 1) host row stop) (rows_of b).uses }
      → rows_of c ≡ record (rows_of a) { uses = with_use (next_use owner (last_use_in owner (rows_of a).uses) host row stop) (rows_of a).uses }
  next_added b c low same made =
      made ∙ ap (λ (db : Trees). record (rows_of db) { uses = put (by_key use_key) (use_row owner (last + 1) host row stop) (rows_of db).uses }) same
      ∙ next_is (Some (use_row owner (last + 1) host row stop)) (rw (above last last_of_all low) refl)

  pub none_added : (b : Trees) → last_of_all ≤ last → IsSame a b → rows_of b ≡ record (rows_of a) { uses = with_use (next_use owner (last_use_in owner (rows_of a).uses) host row stop) (rows_of a).uses }
  none_added b high same = ap rows_of same ∙ next_is None (rw (not_above last last_of_all high) refl)

-- ---- no reservation is named

and_false : (b : Bool) → not (b && false) ≡ true
and_false true = refl
and_false false = refl

pub none_named : (op station : List ℕ) (rows : List ReservationRow) → without_named op station None rows ≡ rows
none_named op station [] = refl
none_named op station (x ∷ rows) = ap₂ (λ b l. cond b (x ∷ l) l) (and_false (bytes_eq x.op op)) (none_named op station rows)
