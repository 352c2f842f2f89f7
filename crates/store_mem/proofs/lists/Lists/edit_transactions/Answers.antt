use Rattle.std.proofs.Common.{arith, sym, subst}
use Rattle.hub_rows.specs.declared.change.Edit.TheVariants.{Transactions}
use Rattle.hub_rows.specs.Changes.{EditFits}
use Rattle.hub_rows.specs.Rows.{Rows}
use Rattle.store_mem.specs.Lists.{rows_in}
use Rattle.store_mem.specs.TxOwners.{IsBehind}
use Rattle.store_mem.proofs.NewRows.{follows-above}
use Rattle.store_mem.proofs.TxOwnerLaws.{new_owner}
use Rattle.store_mem.proofs.lists.Lists.edit_transactions.Goals as goal

pub put_ready-requires-clause-behind : goal.put_ready-requires-clause-behind
put_ready-requires-clause-behind c =
    let rows : Rows = rows_in c.args.self.now in
    let b = c.args.op.now in
    let started = c.in-TxStarted in
    let owner = c.in_ok-owner-in-TxStarted in
    let fits = subst (λ e. EditFits b (Transactions e) rows) started.is c.requires.fits in
    subst (λ xs. IsBehind owner.owner xs) (sym c.in_ok-make_room_for-in-TxStarted.ensures.rows) (subst (λ o. IsBehind o rows.tx_owners) (sym owner.ensures)
    (new_owner b started.station started.number started.owner rows.transactions rows.tx_owners (follows-above _ started.number 1 (omega arith) fits.1) c.requires.good.tx_owners.each))
