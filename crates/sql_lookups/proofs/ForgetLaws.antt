-- What of a station's history may go.
use Rattle.std.proofs.Common.{◌≡◌, ◌∙◌, ◌++◌, ◌==◌, ◌-◌, ◌≤◌, ℕ, List, [], ◌∷◌, Bool, true, false, cond, filter, length, take, arith, eqb-true, refl, sym, ap}
use Rattle.std.proofs.lemmas.List.{length-take, take-take, take_min}
use Rattle.std.proofs.lemmas.List.Elements.{filter-append}
use Rattle.hub_rows.specs.declared.forgettable.TheConstants.{MAX_FORGOTTEN, MAX_READINGS}
use Rattle.hub_rows.specs.declared.meter_value_row.MeterValueRow.{MeterValueRow}
use Rattle.hub_rows.specs.declared.tx_row.TxRow.{TxRow}
use Rattle.hub_rows.specs.Forgetting.{forgettable, old_meter_values, old_rows, old_txs, oldest, oldest_values}
use Rattle.hub_rows.proofs.ForgetLaws.{until-few, until-front}

-- the oldest rows are so many of all
pub oldest_front : {R : Type 0} (rows : List R) → take (length (oldest rows)) rows ≡ oldest rows
oldest_front rows =
    let front = take (length rows - 1) rows in
    let many = length-take (length rows - 1) rows in
    let most = length-take MAX_FORGOTTEN front in
    let within : length (oldest rows) ≤ length rows - 1 = omega (arith, many, most) in
    sym (take-take (length (oldest rows)) (length rows - 1) rows within) ∙ ap (λ n. take n front) most ∙ take_min MAX_FORGOTTEN front

-- the same of meter values
pub oldest_values_front : (rows : List MeterValueRow) → take (length (oldest_values rows)) rows ≡ oldest_values rows
oldest_values_front rows =
    let count : ℕ = length (oldest_values rows) in
    sym (take-take count (length (oldest rows)) rows (until-few MAX_READINGS (oldest rows))) ∙ ap (take count) (oldest_front rows) ∙ until-front MAX_READINGS (oldest rows)

-- one more row of a list
pub one_found : {R : Type 0} (p : R → Bool) (front : List R) (x : R) (found more : List R) (goes : Bool) → found ≡ filter p front → goes ≡ p x → more ≡ found ++ cond goes (x ∷ []) [] → more ≡ filter p (front ++ x ∷ [])
one_found p front x found more goes so_far tested new = new ∙ (λ i. so_far i ++ cond (tested i) (x ∷ []) []) ∙ sym (filter-append p front (x ∷ []))

module _ (until : ℕ) (txs : List TxRow) (rows gone : List MeterValueRow) (are_old : gone ≡ old_meter_values until txs rows) where
  -- meter values go, and no transaction does
  pub some_go : (length gone == 0) ≡ false → record { meter_values = gone; transactions = [] } ≡ forgettable until txs rows
  some_go some = go gone refl some ∙ ap (old_rows until txs rows) are_old
    where
      go : (l : List MeterValueRow) → l ≡ gone → (length l == 0) ≡ false → record { meter_values = l; transactions = [] } ≡ old_rows until txs rows l
      go [] e some = absurd cc
      go (v ∷ vs) e some = refl

  -- none goes, and transactions do
  pub none_goes : (length gone == 0) ≡ true → (ended : List TxRow) → ended ≡ old_txs until txs rows → record { meter_values = gone; transactions = ended } ≡ forgettable until txs rows
  none_goes none ended are_over = go gone none ∙ ap (old_rows until txs rows) are_old
    where
      go : (l : List MeterValueRow) → (length l == 0) ≡ true → record { meter_values = l; transactions = ended } ≡ old_rows until txs rows l
      go [] none = ap (λ t. record { meter_values = []; transactions = t }) are_over
      go (v ∷ vs) none = let e = eqb-true (length (v ∷ vs)) 0 none in absurd (omega (arith, e))
