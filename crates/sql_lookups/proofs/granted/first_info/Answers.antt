use Rattle.std.proofs.Common.{rules, ◌≡◌, ◌+◌, ◌++◌, [], ◌∷◌, ap, drop, sym, take, ◌∙◌}
use Rattle.std.proofs.lemmas.List.{take-append-drop, take_all, take_more}
use Rattle.std.specs.List.{filter_map}
use Rattle.sql_rows.specs.TypedTables.{rows_of}
use Rattle.hub_rows.specs.Grants.{info_by}
use Rattle.hub_rows.specs.Keyed.{first}
use Rattle.sql_rows.proofs.Asking.{asks_err, asks_none, asks_of, asks_then}
use Rattle.sql_lookups.proofs.GrantedLaws.{found_first, none_more}
use Rattle.sql_lookups.proofs.granted.first_info.Goals as goal

pub grants-init : goal.grants-init
grants-init g c = asks_none (λ db. search rules)

pub grants-preserved : goal.grants-preserved
grants-preserved g c =
    let all = c.args.grants.now in
    let k = c.grants.grant-index in
    let x = c.grant-item.result in
    let more : take (k + 1) all ≡ take k all ++ x ∷ [] = search (rules, take_more) in
    asks_of (asks_then c.grants.invariant c.in_ok-info.ensures.asks) (λ db is. none_more (info_by (rows_of db).tags) (take k all) (take (k + 1) all) x c.in_ok-info.info more is.0 is.1 c.if-is_some.ensures)

pub returns-then-is_some : goal.returns-then-is_some
returns-then-is_some g c =
    let all = c.args.grants.now in
    let k = c.grants.grant-index in
    let x = c.grant-item.result in
    let more : take (k + 1) all ≡ take k all ++ x ∷ [] = search (rules, take_more) in
    record {
      asks = asks_of (asks_then c.grants.invariant c.in_ok-info.ensures.asks) (λ db is.
          let info = info_by (rows_of db).tags in
          found_first info (take k all) (take (k + 1) all) (drop (k + 1) all) x c.in_ok-info.info more is.0 is.1 c.if-is_some.ensures ∙ ap (λ l. first (filter_map info l)) (take-append-drop (k + 1) all));
    }

pub returns : goal.returns
returns g c =
    let whole : take c.grants.grant-index c.args.grants.now ≡ c.args.grants.now = search (rules, take_all) in
    record { asks = asks_of c.grants.invariant (λ db is. ap first (sym is ∙ ap (filter_map (info_by (rows_of db).tags)) whole)) }

pub returns-in_err-info : goal.returns-in_err-info
returns-in_err-info g c = record { asks = asks_err (asks_then c.grants.invariant c.in_err-info.ensures.asks) c.from_residual.ensures.0 }
