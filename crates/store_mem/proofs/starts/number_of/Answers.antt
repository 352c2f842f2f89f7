use Rattle.std.proofs.Common.{◌<◌, length, Some, None, cond, refl, arith, ap, sym, ◌∙◌}
use Rattle.std.specs.Option.{option_map, is_some}
use Rattle.std.proofs.lemmas.Bool.{true≢false}
use Rattle.std.proofs.lemmas.Option.{slice_get_read, slice_get_past}
use Rattle.store_mem.proofs.StartLaws.{if_same, find-placed}
use Rattle.store_mem.proofs.starts.number_of.Goals as goal

pub returns-in-Some : goal.returns-in-Some
returns-in-Some c =
    let k = c.args.start.now in
    let rows = c.args.rows.now in
    let place = c.first_place.result in
    let row = c.in-Some.row.now in
    let at = c.in-Some.ensures.lookup in
    sym (ap (option_map (λ r. r.number)) (find-placed k rows place c.requires c.first_place.ensures ∙ ap (if_same k) (slice_get_read rows _ place row refl at.3.0 at.1) ∙ ap (λ t. cond t (Some row) None) (sym c.is_start.ensures ∙ c.if-is_start.true)))

pub returns-in_default : goal.returns-in_default
returns-in_default c =
    let k = c.args.start.now in
    let rows = c.args.rows.now in
    let place = c.first_place.result in
    let row = c.in-Some.row.now in
    let at = c.in-Some.ensures.lookup in
    sym (ap (option_map (λ r. r.number)) (find-placed k rows place c.requires c.first_place.ensures ∙ ap (if_same k) (slice_get_read rows _ place row refl at.3.0 at.1) ∙ ap (λ t. cond t (Some row) None) (sym c.is_start.ensures ∙ c.if-is_start.false)))

pub returns-in_default-2 : goal.returns-in_default-2
returns-in_default-2 c =
    let k = c.args.start.now in
    let rows = c.args.rows.now in
    let place = c.first_place.result in
    let none : place < length rows → ⊥ = (λ within. true≢false (sym (c.get.ensures.lookup.2 within) ∙ ap is_some c.in_default.is)) in
    sym (ap (option_map (λ r. r.number)) (find-placed k rows place c.requires c.first_place.ensures ∙ ap (if_same k) (slice_get_past rows place (omega (arith, none)))))
