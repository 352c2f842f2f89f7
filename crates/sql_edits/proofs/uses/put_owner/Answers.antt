use Rattle.std.proofs.Common.{Option, Some, subst, sym, ap}
use Rattle.std.specs.Prelude.{List, ℕ}
use Rattle.sqlite.specs.Held.{state}
use Rattle.hub_rows.specs.Rows.{Rows}
use Rattle.hub_rows.specs.Uses.{with_owner}
use Rattle.sql_rows.specs.Kept.{Edits}
use Rattle.sql_rows.specs.TypedTables.{rows_of}
use Rattle.sql_rows.proofs.EditLaws.{edits_none}
use Rattle.sql_edits.proofs.uses.put_owner.Goals as goal

pub returns-in-Some : goal.returns-in-Some
returns-in-Some g c =
    let op = c.args.op.now in
    let station = c.args.station.now in
    let new = state g.S.Store c.add_owner.new.conn in
    let puts : (Option (List ℕ) → Rows → Rows) = (λ o rows. record rows { tx_owners = with_owner op station c.args.number o rows.tx_owners }) in
    record { edits = subst (λ o. Edits (puts o) (state g.S.Store c.args.conn.now) new c.add_owner.result) (sym c.in-Some.is) (subst (λ a. Edits (puts (Some a)) (state g.S.Store c.args.conn.now) new c.add_owner.result) c.as_str.ensures c.add_owner.ensures.edits) }

pub returns-in-None : goal.returns-in-None
returns-in-None g c =
    let all = rows_of (state g.S.Store c.args.conn.now).now.trees in
    record { edits = edits_none (ap (λ o. record all { tx_owners = with_owner c.args.op.now c.args.station.now c.args.number o all.tx_owners }) (sym c.in-None.is)) }
