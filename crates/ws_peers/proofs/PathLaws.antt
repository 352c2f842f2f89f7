-- The two patterns in a router, and what follows the front of a path.
use Rattle.std.proofs.Common.{arith, ◌≡◌, ◌≢◌, ◌∙◌, ℕ, List, [], ◌++◌, length, take, drop, nat_eq, true, false, Some, None, sym, ap, refl, Ok}
use Rattle.std.specs.Prelude.{codes}
use Rattle.std.specs.Str.{IsUtf8, bytes_eq}
use Rattle.std.specs.Str.Lossy.{utf8_valid_len}
use Rattle.std.specs.Cmp.Lexicographic.{bytes_decides}
use Rattle.std.proofs.lemmas.Str.{utf8_valid_len-IsUtf8}
use Rattle.std.proofs.lemmas.List.{take-append-drop}
use Rattle.std.proofs.Math.Seq.{take-append_seam}
use Rattle.matchit.specs.Router.{RouteOf, InsertsRead}
use Rattle.matchit.specs.Rows.{RowsOf}
use Rattle.matchit.specs.Route.{parse_route}
use Rattle.matchit.proofs.OnLiterals.{matchit_on_literals}
use Rattle.ws_peers.specs.declared.paths.Pattern.{Pattern}
use Rattle.ws_peers.specs.Paths.{table, cut}

pub valid_text : (bs : List ℕ) → IsUtf8 bs → nat_eq (utf8_valid_len bs) (length bs) ≡ true
valid_text bs h = let e = utf8_valid_len-IsUtf8 bs h in grind arith

pub patterns_made : (a b r : RowsOf (RouteOf Pattern)) → a ≡ [] → InsertsRead (parse_route (codes "/ocpp/{operator}/{station}")) Pattern.Station a b (Ok tt) → InsertsRead (parse_route (codes "/operator/{operator}")) Pattern.Operator b r (Ok tt) → r ≡ table
unfolding matchit_on_literals table
patterns_made a b r none one two =
    let first_in = rw none at one in
    let second_in = rw first_in.1 at two in
    second_in.1

found_here : (front path : List ℕ) → path ≡ front ++ drop (length front) path → bytes_eq (take (length front) path) front ≡ true
found_here front path e = (bytes_decides _ _).1 (ap (take (length front)) e ∙ take-append_seam front (drop (length front) path))

pub cut_found : (front path x : List ℕ) (n : ℕ) → n ≡ length front → path ≡ front ++ drop n path → x ≡ drop n path → Some x ≡ cut front path
cut_found front path x n size e is =
    let here = found_here front path (e ∙ ap (λ k. front ++ drop k path) size) in
    let same : x ≡ drop (length front) path = is ∙ ap (λ k. drop k path) size in
    grind (arith, here, same)

pub cut_missing : (front path : List ℕ) → ((rest : List ℕ) → path ≢ front ++ rest) → None ≡ cut front path
cut_missing front path lacks =
    elim (bytes_eq (take (length front) path) front) as (λ b. bytes_eq (take (length front) path) front ≡ b → None ≡ cut front path) [
      | true ↦ λ e. absurd (lacks (drop (length front) path) (sym (take-append-drop (length front) path) ∙ ap (λ f. f ++ drop (length front) path) ((bytes_decides _ _).0 e)))
      | false ↦ λ e. grind (arith, e)
    ] refl
