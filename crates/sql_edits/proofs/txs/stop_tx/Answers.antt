use Rattle.std.proofs.Common.{◌≡◌, ◌&&◌, ◌==◌, ℕ, List, Some, eqb-true, refl, subst, subst₂, sym, ◌∙◌}
use Rattle.std.proofs.lemmas.Bool.{and_parts}
use Rattle.std.specs.Str.{bytes_eq}
use Rattle.sqlite.specs.Held.{state}
use Rattle.hub_rows.specs.Changes.{with_stop}
use Rattle.hub_rows.specs.declared.tx_row.TxRow.{TxRow}
use Rattle.hub_rows.specs.Keyed.{by_key, found as found_in, put}
use Rattle.hub_rows.specs.Rows.{tx_key}
use Rattle.hub_rows.specs.Transactions.{is_tx}
use Rattle.hub_rows.specs.Uses.{owner_in, use_by, with_use}
use Rattle.hub_rows.proofs.ListLaws.{same_text}
use Rattle.sql_rows.specs.Kept.{IsMade, IsSame}
use Rattle.sql_rows.specs.TypedTables.{rows_of}
use Rattle.sql_rows.proofs.ChangedLaws.{find_has}
use Rattle.sql_rows.proofs.RowEdits.{tx_changed, tx_settled}
use Rattle.sql_rows.proofs.EditLaws.{edits_fail, edits_same, edits_then}
use Rattle.sql_edits.proofs.txs.stop_tx.Goals as goal

-- the transaction that is found has the operator, the station and the number that were sought
key_is : (op station : List ℕ) (n : ℕ) (txs : List TxRow) (r : TxRow) → found_in (λ x. x.op) op (is_tx station n) txs ≡ Some r → (r.op ≡ op) × (r.station ≡ station) × (r.number ≡ n)
key_is op station n txs r is =
    let parts = and_parts (bytes_eq r.op op) (is_tx station n r) (find_has (λ x. bytes_eq x.op op && is_tx station n x) txs r is).1 in
    let more = and_parts (bytes_eq r.station station) (r.number == n) parts.1 in
    (same_text r.op op parts.0, same_text r.station station more.0, eqb-true r.number n more.1)

pub returns-in_ok-put_ended-in-Some : goal.returns-in_ok-put_ended-in-Some
returns-in_ok-put_ended-in-Some g c =
    let op = c.args.op.now in
    let station = c.args.station.now in
    let number = c.args.number in
    let stop = c.args.stop.now in
    let row = c.in-Some.row in
    let old = (state g.S.Store c.args.conn.now).now.trees in
    let found = (state g.S.Store c.tx_inside.new.conn).now.trees in
    let ended = (state g.S.Store c.put_ended.new.conn).now.trees in
    let new = (state g.S.Store c.settle.new.conn).now.trees in
    let RowIs = found_in (λ r. r.op) op (is_tx station number) (rows_of old).transactions ≡ Some row in
    let Ends = IsMade (λ rows. record rows { transactions = put (by_key tx_key) (with_stop stop row) rows.transactions }) in
    let Settles : (List ℕ → List ℕ → ℕ → Type 0) = (λ b s n. rows_of new ≡ record (rows_of ended) { uses = with_use (use_by b stop (rows_of ended).uses (owner_in b s n (rows_of ended).tx_owners) (Some row)) (rows_of ended).uses }) in
    let both = edits_then {Both = λ _ _. RowIs × IsSame old found × Ends found ended} (edits_same c.in_ok-row.ensures.asks) c.in_ok-put_ended-in-Some.ensures.edits
    (λ inside up same made. (sym (c.in_ok-row.ensures.asks.found (λ u. (inside u).serves) up) ∙ c.in-Some.is, same, made)) in
    record {
      edits = edits_then both c.settle.ensures.edits
          (λ inside up parts made. let key = key_is op station number (rows_of old).transactions row parts.0 in
          tx_settled op station number stop old ended new row parts.0
          (tx_changed op station number (with_stop stop) (λ x. refl) old found ended row parts.0 parts.1 parts.2)
          (subst (λ b. Settles b station number) key.0 (subst₂ (Settles row.op) key.1 key.2 made)));
    }

pub returns-in_err-put_ended-in-Some : goal.returns-in_err-put_ended-in-Some
returns-in_err-put_ended-in-Some g c = record { edits = edits_fail (edits_same c.in_ok-row.ensures.asks) c.in_err-put_ended-in-Some.ensures.edits c.from_residual-in_err-put_ended-in-Some.ensures.0 }
