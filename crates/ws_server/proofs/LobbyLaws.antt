-- Connections that wait.
use Rattle.std.proofs.Common.{ℕ, List, Option, Result, Ok, Err, get_or, length, subst, ◌≡◌, ◌<◌, ◌∙◌}
use Rattle.std.proofs.lemmas.List.{get_or_default}
use Rattle.std.specs.Prelude.{IfOk}
use Rattle.ws_server.specs.Admits.{AsksFor}
use Rattle.ws_server.specs.Lobbies.{IfWelcome}
use Rattle.ws_server.specs.declared.lobby.Next.{Next}
use Rattle.ws_server.specs.declared.lobby.Next.TheVariants.{Wait, Drop, Refuse, Welcome}
use Rattle.ws_server.specs.declared.lobby.Waiting.{Waiting}

-- what the connection at a place asks for is what that one asks for that is found there
pub asks_at : {T E : Type 0} (remaining : T → Option (List ℕ)) (origins own : List (List ℕ)) (items : List (Waiting T)) (n : ℕ) (one : Waiting T) (r : Result Next E)
    → own ≡ origins → n < length items → one ≡ get_or items n one → IfOk r (λ next. IfWelcome next (AsksFor own remaining one.stream))
    → IfOk r (λ next. IfWelcome next (λ upgrade. (other : Waiting T) → AsksFor origins remaining (get_or items n other).stream upgrade))
asks_at remaining origins own items n one (Ok (Welcome upgrade)) same small is asks = λ other. subst (λ w. AsksFor origins remaining w.stream upgrade) (is ∙ get_or_default items n one other small) (subst (λ o. AsksFor o remaining one.stream upgrade) same asks)
asks_at remaining origins own items n one (Ok Wait) same small is asks = tt
asks_at remaining origins own items n one (Ok (Drop refusal)) same small is asks = tt
asks_at remaining origins own items n one (Ok (Refuse seen answer)) same small is asks = tt
asks_at remaining origins own items n one (Err e) same small is asks = tt
