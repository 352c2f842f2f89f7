-- What an operator learns of another's records: by a use of its tags there, and by a tag that is granted to it. It is said
-- of the records before and after, in words of its own, not in those by which both machines settle and grant.
use Rattle.std.specs.Prelude.{◌≡◌, ◌↔◌, ℕ, ◌+◌, ◌-ℤ◌, ◌<◌, ◌≤◌, List, length, Contains, ◌||◌, Option, Some, None, IfSome, option_and_then}
use Rattle.std.specs.Int.{saturate_signed, w64}
use Rattle.ocpp_types.specs.TagKey.{key_of}
use Rattle.ocpp_types.specs.declared.authorization_status.AuthorizationStatus.TheVariants.{Accepted}
use Rattle.hub_rows.specs.declared.change.Edit.{Edit}
use Rattle.hub_rows.specs.declared.change.Edit.TheVariants.{Transactions}
use Rattle.hub_rows.specs.declared.change.TransactionEdit.TheVariants.{TxStopped}
use Rattle.hub_rows.specs.declared.grant_row.GrantRow.{GrantRow}
use Rattle.hub_rows.specs.declared.info.GrantedTag.{GrantedTag}
use Rattle.hub_rows.specs.declared.meter_value_row.MeterValue.{MeterValue}
use Rattle.hub_rows.specs.declared.tag_row.TagRow.{TagRow}
use Rattle.hub_rows.specs.declared.tx_row.Stop.{Stop}
use Rattle.hub_rows.specs.declared.tx_row.TxRow.{TxRow}
use Rattle.hub_rows.specs.declared.use_row.UseRow.{UseRow}
use Rattle.hub_rows.specs.Keyed.{own}
use Rattle.hub_rows.specs.Rows.{Rows}
use Rattle.hub_rows.specs.Tags.{is_blocked, tag_in}
use Rattle.hub_rows.specs.Transactions.{last_of_all}

-- ---- a use

-- A use of operator a's tag that an edit of operator b at moment m adds. The edit stops a transaction of b, which was open
-- and began Accepted, with a tag of a's. The use tells b, the tag, the moment and the energy, and no more.
pub record TellsOfUse (a b : List ℕ) (m : ℕ) (rows : Rows) (e : Option Edit) (u : UseRow) : Type 0 where
  -- the transaction and its stop
  pub tx : TxRow
  pub stop : Stop
  pub first_reading : ℕ
  pub values : List MeterValue
  pub stopped : e ≡ Some (Transactions (TxStopped tx.station tx.number stop first_reading values))
  pub on_record : Contains rows.transactions tx
  pub of_host : tx.op ≡ b
  pub is_open : tx.stop ≡ None
  pub accepted : tx.start.status ≡ Accepted
  pub owner : Contains rows.tx_owners (record { op = b; station = tx.station; number = tx.number; owner = a })
  -- the use
  pub op : u.op ≡ a
  pub number : u.number ≡ length (own (λ r. r.op) a rows.uses) + 1
  pub in_range : u.number ≤ last_of_all
  pub host : u.host ≡ b
  pub key : u.key ≡ tx.start.id.key
  pub moment : u.moment ≡ m
  pub wh : u.wh ≡ saturate_signed w64 (stop.meter_stop -ℤ tx.start.id.meter_start)

-- ---- a granted tag

-- the row of a tag's parent, among those of its owner
abbrev pub parent_of : List TagRow → List ℕ → TagRow → Option TagRow
parent_of tags owner r = option_and_then (λ parent. tag_in owner (key_of parent) tags) r.tag.parent

-- it counts at moment m, by its end
abbrev pub CountsAt : ℕ → Option ℕ → Type 0
CountsAt m None = Unit {0}
CountsAt m (Some end) = m < end

-- A tag that is granted to operator a, as it is shown to a. One row of grants and its owner's row of that tag say all of
-- it, with whether the row of the tag's parent is blocked.
pub record TellsOfTag (a : List ℕ) (tags : List TagRow) (grants : List GrantRow) (g : GrantedTag) : Type 0 where
  -- the grant and the tag
  pub grant : GrantRow
  pub tag : TagRow
  pub on_record : Contains grants grant
  pub to : grant.to ≡ a
  pub of_owner : tag_in grant.op grant.key tags ≡ Some tag
  -- what is shown
  pub key : g.key ≡ grant.key
  pub owner : g.owner ≡ grant.op
  pub named : g.info.owner ≡ Some grant.op
  pub text : g.info.text ≡ tag.tag.text
  pub parent : g.info.parent ≡ tag.tag.parent
  pub blocked : g.info.blocked ≡ (tag.tag.blocked || is_blocked (parent_of tags grant.op tag))
  -- it counts while both the tag and the grant do
  pub expiry : (m : ℕ) → CountsAt m g.info.expiry ↔ (CountsAt m tag.tag.expiry × CountsAt m grant.until)

-- two lists of tags have the same of a grant: the owner's row of the tag, and whether its parent's is blocked
pub record AgreeOn (s t : List TagRow) (g : GrantRow) : Type 0 where
  pub tag : tag_in g.op g.key s ≡ tag_in g.op g.key t
  pub parent : IfSome (tag_in g.op g.key s) (λ r. is_blocked (parent_of s g.op r) ≡ is_blocked (parent_of t g.op r))
