-- Grants in the order of their receivers.
use Rattle.std.specs.Prelude.{◌≡◌, ◌≢◌, ℕ, List, [], ◌∷◌, Bool, ◌&&◌, map}
use Rattle.std.specs.Str.{bytes_eq}
use Rattle.std.specs.declared.cmp.Ordering.TheVariants.{Less}
use Rattle.hub_rows.specs.declared.grant_row.GrantRow.{GrantRow}
use Rattle.hub_rows.specs.Grants.{received_key}
use Rattle.hub_rows.specs.Keyed.{key_cmp, by_key, in_order}
use Rattle.store_mem.specs.declared.received.Received.{Received}

abbrev pub receiver_rest : Received → List (List ℕ)
receiver_rest r = r.grant.key ∷ r.grant.op ∷ []

abbrev pub receiver_key : Received → List (List ℕ)
receiver_key r = r.grant.to ∷ receiver_rest r

-- a grant of the tag of that key of operator b
abbrev pub is_of : List ℕ → List ℕ → Received → Bool
is_of key b r = bytes_eq r.grant.key key && bytes_eq r.grant.op b

-- the same grants as those, in the order of their receivers
abbrev pub AreReceived : List Received → List GrantRow → Type 0
AreReceived received grants = map (λ r. r.grant) received ≡ in_order (by_key received_key) grants

-- the least key that a grant of the tag of that key to operator a may have
abbrev pub least_key : List ℕ → List ℕ → List (List ℕ)
least_key a key = a ∷ key ∷ [] ∷ []

-- its key is not below k
abbrev pub IsFrom : List (List ℕ) → Received → Type 0
IsFrom k r = key_cmp (receiver_key r) k ≢ Less
