use Rattle.std.proofs.Common.{rules, ◌≡◌, ◌+◌, ◌++◌, [], ◌∷◌, ap, sym, take, ◌∙◌}
use Rattle.std.proofs.lemmas.List.{take_all, take_more}
use Rattle.std.specs.List.{cons_option, filter_map}
use Rattle.sql_rows.specs.TypedTables.{rows_of}
use Rattle.hub_rows.specs.Grants.{entry_by}
use Rattle.sql_rows.proofs.Asking.{asks_err, asks_none, asks_of, asks_then}
use Rattle.sql_lookups.proofs.GrantedLaws.{mapped_more}
use Rattle.sql_lookups.proofs.granted.entries.Goals as goal

pub grants-init : goal.grants-init
grants-init g c = asks_none (λ db. search rules)

pub grants-preserved : goal.grants-preserved
grants-preserved g c =
    let all = c.args.grants.now in
    let k = c.grants.grant-index in
    let x = c.grant-item.result in
    let more : take (k + 1) all ≡ take k all ++ x ∷ [] = search (rules, take_more) in
    asks_of (asks_then c.grants.invariant c.in_ok-entry.ensures.asks) (λ db is.
    let entry = entry_by (rows_of db).tags in
    c.in_ok-add_entry.ensures ∙ ap (λ l. l ++ cons_option c.in_ok-entry.entry []) is.0
    ∙ ap (λ o. filter_map entry (take k all) ++ cons_option o []) (is.1 ∙ ap entry c.as_grant.ensures)
    ∙ sym (mapped_more entry (take k all) (take (k + 1) all) x more))

pub returns : goal.returns
returns g c =
    let whole : take c.grants.grant-index c.args.grants.now ≡ c.args.grants.now = search (rules, take_all) in
    record { asks = asks_of c.grants.invariant (λ db is. is ∙ ap (filter_map (entry_by (rows_of db).tags)) whole) }

pub returns-in_err-entry : goal.returns-in_err-entry
returns-in_err-entry g c = record { asks = asks_err (asks_then c.grants.invariant c.in_err-entry.ensures.asks) c.from_residual.ensures.0 }

pub returns-in_err-add_entry : goal.returns-in_err-add_entry
returns-in_err-add_entry g c = record { asks = asks_err (asks_then c.grants.invariant c.in_ok-entry.ensures.asks) c.from_residual-in_err-add_entry.ensures.0 }
