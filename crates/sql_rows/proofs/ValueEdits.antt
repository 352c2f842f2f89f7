-- Meter values that are put one after the other.
use Rattle.std.proofs.Common.{◌≡◌, ℕ, ◌+◌, List, [], ◌∷◌, ◌++◌, sym, ap, ◌∙◌, arith}
use Rattle.sqlite_trees.specs.Tree.{Trees}
use Rattle.hub_rows.specs.declared.meter_value_row.MeterValue.{MeterValue}
use Rattle.hub_rows.specs.declared.meter_value_row.MeterValueRow.{MeterValueRow}
use Rattle.hub_rows.specs.Changes.{with_meter_values}
use Rattle.hub_rows.specs.Keyed.{put, put_all}
use Rattle.hub_rows.specs.MeterValues.{all_taken, meter_value_rows, numbers_taken}
use Rattle.sql_rows.specs.Kept.{IsPutIn, ArePutIn, IsMade}
use Rattle.sql_rows.specs.TypedTable.{cmp, rows_in}
use Rattle.sql_rows.specs.TypedTables.{meter_values}
use Rattle.sql_rows.proofs.ListEdits.{spares_then}
use Rattle.sql_rows.proofs.MemberLaws.{put_all-last}
use Rattle.sql_rows.proofs.TxTables.{meter_values_made}

-- how many numbers are taken with one more meter value
pub taken_more : (xs more : List MeterValue) (x : MeterValue) → more ≡ xs ++ x ∷ [] → all_taken more ≡ all_taken xs + numbers_taken x
taken_more xs more x is = ap all_taken is ∙ go xs
  where
    go : (xs : List MeterValue) → all_taken (xs ++ x ∷ []) ≡ all_taken xs + numbers_taken x
    go [] = omega arith
    go (v ∷ xs) = let later = go xs in omega (arith, later)

module _ (op station : List ℕ) where
  abbrev row_at : ℕ → MeterValue → MeterValueRow
  row_at first v = record { op = op; station = station; first = first; value = v }

  rows-last : (n : ℕ) (xs : List MeterValue) (x : MeterValue) (k : ℕ) → k ≡ n + all_taken xs → meter_value_rows op station n (xs ++ x ∷ []) ≡ meter_value_rows op station n xs ++ row_at k x ∷ []
  rows-last n [] x k e = let here : n ≡ k = omega (arith, e) in λ i. row_at (here i) x ∷ []
  rows-last n (v ∷ xs) x k e = ap (λ l. row_at n v ∷ l) (rows-last (n + numbers_taken v) xs x k (omega (arith, e)))

  -- one more meter value is put
  pub values_more : (n : ℕ) (xs more : List MeterValue) (x : MeterValue) (k : ℕ) → k ≡ n + all_taken xs → more ≡ xs ++ x ∷ [] → (a b c : Trees)
      → ArePutIn meter_values (meter_value_rows op station n xs) a b → IsPutIn meter_values (row_at k x) b c → ArePutIn meter_values (meter_value_rows op station n more) a c
  values_more n xs more x k next is a b c p q = record {
    rows = q.rows ∙ ap (put (cmp meter_values) (row_at k x)) p.rows ∙ sym (put_all-last (cmp meter_values) (meter_value_rows op station n xs) (row_at k x) (rows_in meter_values a))
        ∙ ap (λ l. put_all (cmp meter_values) l (rows_in meter_values a)) (sym (ap (meter_value_rows op station n) is ∙ rows-last n xs x k next));
    frame = spares_then 26 a b c p.frame q.frame;
  }

  pub values_made : (n : ℕ) (vs : List MeterValue) (a b : Trees) → ArePutIn meter_values (meter_value_rows op station n vs) a b → IsMade (λ rows. record rows { meter_values = with_meter_values op station n vs rows.meter_values }) a b
  values_made n vs a b put = meter_values_made a b _ put.rows put.frame
