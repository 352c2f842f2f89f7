use Rattle.std.proofs.Common.{◌≡◌, ◌==◌, ◌∙◌, ap, false, find, rules, sym, true, unsigned_abs}
use Rattle.std.specs.Int.{is_negative}
use Rattle.std.specs.Str.{bytes_eq}
use Rattle.hub_rows.specs.Forgetting.{named_tx}
use Rattle.hub_rows.specs.Transactions.{txs_in}
use Rattle.hub_rows.proofs.ForgetLaws.{named-none, named-some}
use Rattle.hub_rows.proofs.NumberLaws.{found-those}
use Rattle.sql_rows.specs.TypedTables.{rows_of}
use Rattle.sql_rows.proofs.Asking.{asks_also, asks_none}
use Rattle.sql_lookups.proofs.forget.tx_named.Goals as goal

pub returns-in-Some : goal.returns-in-Some
returns-in-Some g c =
    let id = c.in-Some.id in
    let sign : is_negative id ≡ true = search rules in
    record {
      asks = asks_none (λ db.
          let own = txs_in c.args.op.now c.args.station.now (rows_of db).transactions in
          sym (ap (λ o. named_tx o own) c.in-Some.is ∙ named-none id own sign));
    }

pub returns-in-Some-2 : goal.returns-in-Some-2
returns-in-Some-2 g c =
    let id = c.in-Some-2.id in
    let sign : is_negative id ≡ false = search rules in
    let size : c.unsigned_abs.result ≡ unsigned_abs id = search rules in
    record {
      asks = asks_also c.find_tx.ensures.asks (λ db tx is.
          let all = (rows_of db).transactions in
          let own = txs_in c.args.op.now c.args.station.now all in
          is ∙ found-those (λ r. r.op) c.args.op.now (λ r. bytes_eq r.station c.args.station.now) (λ r. r.number == c.unsigned_abs.result) all
          ∙ ap (λ n. find (λ t. t.number == n) own) size ∙ sym (ap (λ o. named_tx o own) c.in-Some-2.is ∙ named-some id own sign));
    }
