-- What drivers used at other operators' stations, by id tags that were granted there.
use Rattle.std.specs.Prelude.{ℕ, ℤ, ◌+◌, ◌-ℤ◌, nat_lt, List, [], ◌∷◌, map, Bool, true, ◌&&◌, ◌==◌, if◌then◌else◌, Option, Some, None}
use Rattle.std.specs.Int.{saturate_signed, w64}
use Rattle.std.specs.Option.{option_map}
use Rattle.std.specs.Str.{bytes_eq}
use Rattle.hub_rows.specs.declared.change.Edit.{Edit}
use Rattle.hub_rows.specs.declared.change.Edit.TheVariants.{Transactions}
use Rattle.hub_rows.specs.declared.change.TransactionEdit.TheVariants.{TxStopped}
use Rattle.hub_rows.specs.declared.tx_row.Stop.{Stop}
use Rattle.hub_rows.specs.declared.tx_row.TxOwnerRow.{TxOwnerRow}
use Rattle.hub_rows.specs.declared.tx_row.TxRow.{TxRow}
use Rattle.hub_rows.specs.declared.use_row.UseRow.{UseRow}
use Rattle.hub_rows.specs.Keyed.{by_key, found, greatest, put, those}
use Rattle.hub_rows.specs.Rows.{Rows, tx_owner_key, use_key}
use Rattle.hub_rows.specs.Transactions.{is_tx, last_of_all}

-- the uses of owner a, among those of all
abbrev pub uses_in : List ℕ → List UseRow → List UseRow
uses_in a uses = those (λ r. r.op) a (λ r. true) uses

-- the last number of an owner's uses, 0 where there is none
abbrev pub last_use_in : List ℕ → List UseRow → ℕ
last_use_in a uses = greatest (map (λ r. r.number) (uses_in a uses))

-- ---- the owner of a transaction's tag

-- the row of the transaction of that number of a station
abbrev pub is_owner_of : List ℕ → ℕ → TxOwnerRow → Bool
is_owner_of station number r = bytes_eq r.station station && r.number == number

-- the operator that granted the tag with which a transaction of operator b began
abbrev pub owner_in : List ℕ → List ℕ → ℕ → List TxOwnerRow → Option (List ℕ)
owner_in b station number owners = option_map (λ r. r.owner) (found (λ r. r.op) b (is_owner_of station number) owners)

-- the same after a start of operator b with a tag that was granted, or with one of its own
abbrev pub with_owner : List ℕ → List ℕ → ℕ → Option (List ℕ) → List TxOwnerRow → List TxOwnerRow
with_owner b station number None owners = owners
with_owner b station number (Some a) owners = put (by_key tx_owner_key) (record { op = b; station = station; number = number; owner = a }) owners

-- ---- a use

-- the Wh between the start and the stop, held at the ends of 64 bits
abbrev pub energy_of : TxRow → Stop → ℤ
energy_of r stop = saturate_signed w64 (stop.meter_stop -ℤ r.start.id.meter_start)

-- use number n of owner a, of a transaction that is stopped at a station of operator b
abbrev pub use_row : List ℕ → ℕ → List ℕ → TxRow → Stop → UseRow
use_row a n b r stop = record { op = a; number = n; host = b; key = r.start.id.key; moment = stop.moment; wh = energy_of r stop }

-- the use that follows the owner's last one, unless that has the last number of all
abbrev pub next_use : List ℕ → ℕ → List ℕ → TxRow → Stop → Option UseRow
next_use a last b r stop = if nat_lt last last_of_all then Some (use_row a (last + 1) b r stop) else None

-- by the owner of the transaction's tag, if another granted it, and the transaction
abbrev pub use_by : List ℕ → Stop → List UseRow → Option (List ℕ) → Option TxRow → Option UseRow
use_by b stop uses None r = None
use_by b stop uses (Some a) None = None
use_by b stop uses (Some a) (Some r) = next_use a (last_use_in a uses) b r stop

-- the use that the stop of a transaction of operator b settles
abbrev pub settled_use : List ℕ → List ℕ → ℕ → Stop → Rows → Option UseRow
settled_use b station number stop rows = use_by b stop rows.uses (owner_in b station number rows.tx_owners) (found (λ r. r.op) b (is_tx station number) rows.transactions)

-- the uses with one more
abbrev pub with_use : Option UseRow → List UseRow → List UseRow
with_use None uses = uses
with_use (Some r) uses = put (by_key use_key) r uses

-- ---- what an owner is shown

-- the row if it is of owner a
abbrev pub if_of : List ℕ → Option UseRow → List UseRow
if_of a None = []
if_of a (Some r) = if bytes_eq r.op a then r ∷ [] else []

-- the uses of owner a that an edit of operator b settles: one where it stops a transaction that began with a
-- tag that a granted
abbrev pub uses_settled : List ℕ → List ℕ → Edit → Rows → List UseRow
uses_settled a b (Transactions (TxStopped station number stop first values)) rows = if_of a (settled_use b station number stop rows)
uses_settled a b e rows = []
