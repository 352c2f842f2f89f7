-- What a meter value names.
use Rattle.std.specs.Prelude.{◌≡◌, List}
use Rattle.hub_rows.specs.declared.tx_row.TxRow.{TxRow}
use Rattle.hub_rows.specs.Forgetting.{named_tx}
use Rattle.sql_lookups.specs.declared.forget.Named.{Named}

-- the transaction is the one that a meter value names
abbrev pub IsNamed : List TxRow → Named → Type 0
IsNamed txs n = n.tx ≡ named_tx n.transaction txs
