-- Connections whose handshake is not done.
use Rattle.std.specs.Prelude.{ℕ, ◌+◌, Bool, List, drop, if◌then◌else◌, length, nat_lt, ⊤}
use Rattle.ws_handshake.specs.declared.head.Upgrade.{Upgrade}
use Rattle.ws_server.specs.declared.lobby.TheConstants.{MAX_WAITING}
use Rattle.ws_server.specs.declared.lobby.Lobby.{Lobby}
use Rattle.ws_server.specs.declared.lobby.Next.{Next}
use Rattle.ws_server.specs.declared.lobby.Next.TheVariants.{Wait, Drop, Refuse, Welcome}

-- how many wait
abbrev pub waiting_count : {T : Type 0} → Lobby T → ℕ
waiting_count l = length l.waiting.items

-- those that wait as one more comes: of 4,096 or more the first is dropped
abbrev pub with_room : {A : Type 0} → List A → List A
with_room waiting = if nat_lt (length waiting) MAX_WAITING then waiting else drop 1 waiting

-- the origins of the pages that are served
abbrev pub origins_of : {T : Type 0} → Lobby T → List (List ℕ)
origins_of l = l.origins.items

-- one that was accepted in second since has waited in second now for more than so many seconds
abbrev pub is_late : ℕ → ℕ → ℕ → Bool
is_late now since seconds = nat_lt (since + seconds) now

-- P of the upgrade of one that is to be welcomed
abbrev pub IfWelcome : Next → (Upgrade → Type 0) → Type 0
IfWelcome Wait P = ⊤
IfWelcome (Drop refusal) P = ⊤
IfWelcome (Refuse seen answer) P = ⊤
IfWelcome (Welcome upgrade) P = P upgrade
