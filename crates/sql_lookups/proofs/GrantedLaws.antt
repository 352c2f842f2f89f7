-- What is granted, by the rows that the database shows.
use Rattle.std.proofs.Common.{◌≡◌, ◌++◌, ℕ, List, [], ◌∷◌, Equal, Option, Some, None, Ok, Err, Result, IfOk, IsOk, OnOk, filter, map, true, false, refl, sym, ap, ◌∙◌}
use Rattle.std.specs.List.{cons_option, filter_map}
use Rattle.std.specs.Option.{is_some}
use Rattle.std.specs.Str.{bytes_eq}
use Rattle.std.proofs.lemmas.List.Elements.{filter_map-append}
use Rattle.sqlite_trees.specs.Tree.{Trees}
use Rattle.sqlite_value.specs.Order.{Row}
use Rattle.sqlite_rules.specs.Lists.{Has}
use Rattle.hub_rows.specs.Grants.{entry_by, granted_in, granted_tag_in, grants_of_key, grants_to, info_by, received_key}
use Rattle.hub_rows.specs.Keyed.{by_key, first, in_order, put_all}
use Rattle.hub_rows.specs.Rows.{grant_key}
use Rattle.hub_rows.specs.declared.tag_row.TagRow.{TagRow}
use Rattle.hub_rows.specs.declared.grant_row.GrantRow.{GrantRow}
use Rattle.sql_rows.specs.TypedTable.{rows_in}
use Rattle.sql_rows.specs.TypedTables.{grants}
use Rattle.sql_rows.proofs.OrderedLaws.{in_received}

-- the grants to an operator that are shown, in the order of their receivers
pub list_received_finds : {V E F : Type 0} (items : V → List Row) (to : List ℕ) (db : Trees) (r : Result V E) (q : Result (List GrantRow) F) → OnOk q (IsOk r) → IfOk r (λ v. IfOk q (λ l. l ≡ put_all (by_key received_key) (map grants.read (items v)) []))
    → IfOk r (λ v. put_all (by_key grant_key) (map grants.read (items v)) [] ≡ filter (λ g. bytes_eq g.to to) (rows_in grants db)) → IfOk r (λ v. (a b : GrantRow) → Has (map grants.read (items v)) a → Has (map grants.read (items v)) b → by_key grant_key a b ≡ Equal → a ≡ b)
    → IfOk q (λ l. l ≡ in_order (by_key received_key) (grants_to to (rows_in grants db)))
list_received_finds items to db (Ok v) (Ok l) ok is shown once = is ∙ in_received (map grants.read (items v)) (filter (λ g. bytes_eq g.to to) (rows_in grants db)) once shown
list_received_finds items to db (Ok v) (Err e) ok is shown once = tt
list_received_finds items to db (Err x) (Ok l) ok is shown once = absurd cc
list_received_finds items to db (Err x) (Err e) ok is shown once = tt

-- one more of a list
pub mapped_more : {X Y : Type 0} (f : X → Option Y) (xs ys : List X) (x : X) → ys ≡ xs ++ x ∷ [] → filter_map f ys ≡ filter_map f xs ++ cons_option (f x) []
mapped_more f xs ys x is = ap (filter_map f) is ∙ filter_map-append f xs (x ∷ [])

-- where none was found before, the next that is found is the first
pub found_first : {X Y : Type 0} (f : X → Option Y) (xs ys rest : List X) (x : X) (o : Option Y) → ys ≡ xs ++ x ∷ [] → filter_map f xs ≡ [] → o ≡ f x → true ≡ is_some o → o ≡ first (filter_map f (ys ++ rest))
found_first f xs ys rest x (Some y) more none here some =
    let so_far : filter_map f ys ≡ y ∷ [] = mapped_more f xs ys x more ∙ ap (λ l. l ++ cons_option (f x) []) none ∙ ap (λ o. cons_option o []) (sym here) in
    sym (ap first (filter_map-append f ys rest ∙ ap (λ l. l ++ filter_map f rest) so_far))
found_first f xs ys rest x None more none here some = absurd cc

pub none_more : {X Y : Type 0} (f : X → Option Y) (xs ys : List X) (x : X) (o : Option Y) → ys ≡ xs ++ x ∷ [] → filter_map f xs ≡ [] → o ≡ f x → false ≡ is_some o → filter_map f ys ≡ []
none_more f xs ys x None more none here some = mapped_more f xs ys x more ∙ ap (λ l. l ++ cons_option (f x) []) none ∙ ap (λ o. cons_option o []) (sym here)
none_more f xs ys x (Some y) more none here some = absurd cc

pub granted_is : (op : List ℕ) (tags : List TagRow) (rows : List GrantRow) → filter_map (entry_by tags) (in_order (by_key received_key) (grants_to op rows)) ≡ granted_in op tags rows
unfolding granted_in
granted_is op tags rows = refl

pub granted_tag_is : (op key : List ℕ) (tags : List TagRow) (rows : List GrantRow) → first (filter_map (info_by tags) (grants_of_key op key rows)) ≡ granted_tag_in op key tags rows
unfolding granted_tag_in
granted_tag_is op key tags rows = refl
