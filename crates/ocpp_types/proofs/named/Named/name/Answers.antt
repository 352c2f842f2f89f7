use Rattle.std.proofs.Common.{◌≡◌, ℕ, ◌<◌, List, Some, map, length, get_or, ap, sym, ◌∙◌, arith}
use Rattle.std.specs.List.{slice_get}
use Rattle.std.proofs.lemmas.List.{length-map, get_or-map}
use Rattle.std.proofs.lemmas.Option.{slice_get_within, get_or_from_slice_get}
use Rattle.ocpp_types.proofs.named.Named.name.Goals as goal

within : {A B : Type 0} (f : A → B) (rows : List A) (names : List B) (i : ℕ) (row : B) → map f rows ≡ names → slice_get names i ≡ Some row → i < length rows
within f rows names i row same at =
    let below = slice_get_within names i row at in
    let as_long = ap length same in
    let mapped = length-map rows f in
    omega (arith, below, as_long, mapped)

value_at : {A B : Type 0} (f : A → B) (rows : List A) (names : List B) (i : ℕ) (row : B) (default : A) → map f rows ≡ names → slice_get names i ≡ Some row → f (get_or rows i default) ≡ row
value_at f rows names i row default same at =
    sym (get_or-map f rows i default row (within f rows names i row same at)) ∙ ap (λ all. get_or all i row) same ∙ get_or_from_slice_get names i row row at

pub offset_bounds-table-index : goal.offset_bounds-table-index
offset_bounds-table-index g c = let below = within _ _ g.Self.Named.names _ _ c.table.ensures c.index.ensures.row in omega (arith, below)

pub bounds-table-index : goal.bounds-table-index
bounds-table-index g c = within _ _ g.Self.Named.names _ _ c.table.ensures c.index.ensures.row

pub bounds-table-index-2 : goal.bounds-table-index-2
bounds-table-index-2 g c = within _ _ g.Self.Named.names _ _ c.table.ensures c.index.ensures.row

pub returns-clause-value : goal.returns-clause-value
returns-clause-value g c = ap (λ row. row.0) (value_at (λ row. (row.0.now, row.1)) c.table.result.now g.Self.Named.names c.index.result _ c.index-table-index.result c.table.ensures c.index.ensures.row)
