use Rattle.std.proofs.Common.{◌≡◌, ◌==◌, ℕ, List, [], ◌∷◌, false, true, length, arith, ap, sym, ◌∙◌}
use Rattle.std.proofs.lemmas.Bool.{true≢false}
use Rattle.std.proofs.lemmas.Bool.Decides.{Decides-eqb}
use Rattle.std.specs.List.{filter}
use Rattle.hub_rows.specs.declared.forgettable.History.{History}
use Rattle.hub_rows.specs.declared.meter_value_row.MeterValueRow.{MeterValueRow}
use Rattle.hub_rows.specs.declared.tx_row.TxRow.{TxRow}
use Rattle.hub_rows.specs.Forgetting.{may_go, old_meter_values, old_rows, old_txs, tx_goes}
use Rattle.store_mem.proofs.forgettable.forgettable.Goals as goal

abbrev history : List MeterValueRow → List TxRow → History
history values txs = record { meter_values = values; transactions = txs }

some-old : (until : ℕ) (txs left : List TxRow) (values gone : List MeterValueRow) → (length gone == 0) ≡ false → left ≡ [] → history gone left ≡ old_rows until txs values gone
some-old until txs left values [] some none = absurd (true≢false some)
some-old until txs left values (v ∷ vs) some none = ap (history (v ∷ vs)) none

none-old : (until : ℕ) (txs left : List TxRow) (values gone : List MeterValueRow) → (length gone == 0) ≡ true → left ≡ old_txs until txs values → history gone left ≡ old_rows until txs values gone
none-old until txs left values [] none are = ap (history []) are
none-old until txs left values (v ∷ vs) none are = let no : length (v ∷ vs) ≡ 0 = (Decides-eqb (length (v ∷ vs)) 0).0 none in absurd (omega (arith, no))

pub returns-then-not-is_empty : goal.returns-then-not-is_empty
returns-then-not-is_empty c =
    let until = c.args.until in
    let txs = c.args.txs.now in
    let values = c.args.values.now in
    let gone = c.in_ok-meter_values.meter_values in
    let old : gone ≡ old_meter_values until txs values = c.in_ok-meter_values.ensures ∙ ap (filter (may_go until txs)) c.oldest_values.ensures in
    let some : (length gone == 0) ≡ false = ap (λ rs. length rs == 0) (sym c.as_slice.ensures) ∙ sym c.is_empty.ensures ∙ c.if-not-is_empty.true in
    some-old until txs c.new.result values gone some c.new.ensures ∙ ap (old_rows until txs values) old

pub returns : goal.returns
returns c =
    let until = c.args.until in
    let txs = c.args.txs.now in
    let values = c.args.values.now in
    let gone = c.in_ok-meter_values.meter_values in
    let old : gone ≡ old_meter_values until txs values = c.in_ok-meter_values.ensures ∙ ap (filter (may_go until txs)) c.oldest_values.ensures in
    let none : (length gone == 0) ≡ true = ap (λ rs. length rs == 0) (sym c.as_slice.ensures) ∙ sym c.is_empty.ensures ∙ c.if-not-is_empty.false in
    none-old until txs c.in_ok-transactions.transactions values gone none (c.in_ok-transactions.ensures ∙ ap (filter (tx_goes until values)) c.oldest.ensures) ∙ ap (old_rows until txs values) old
