use Rattle.std.proofs.Common.{◌≡◌, true, false, Some, None, cond, rules, ap, sym, ◌∙◌}
use Rattle.std.specs.Option.{option_map}
use Rattle.std.specs.Str.{bytes_eq}
use Rattle.store_mem.proofs.GrantedLaws.{if_sought, find-parted}
use Rattle.store_mem.proofs.received.first_of_key.Goals as goal

pub returns-in_err-first : goal.returns-in_err-first
returns-in_err-first c =
    let place = c.first_place in
    let found = find-parted c.args.to.now c.args.key.now c.args.rows.now place.result c.requires.sorted c.requires.mine place.ensures.before place.ensures.from in
    ap (option_map (λ r. r.now)) c.from_residual.ensures ∙ sym (found ∙ ap (if_sought c.args.to.now c.args.key.now) (sym c.in_err-first.ensures.value))

pub returns-then-ne : goal.returns-then-ne
returns-then-ne c =
    let place = c.first_place in
    let row = c.in_ok-first.first.now in
    let found = find-parted c.args.to.now c.args.key.now c.args.rows.now place.result c.requires.sorted c.requires.mine place.ensures.before place.ensures.from in
    let other : bytes_eq row.grant.key c.args.key.now ≡ false = search rules in
    sym (found ∙ ap (if_sought c.args.to.now c.args.key.now) (sym c.in_ok-first.ensures.value) ∙ ap (λ t. cond t (Some row) None) other)

pub returns : goal.returns
returns c =
    let place = c.first_place in
    let row = c.in_ok-first.first.now in
    let found = find-parted c.args.to.now c.args.key.now c.args.rows.now place.result c.requires.sorted c.requires.mine place.ensures.before place.ensures.from in
    let same : bytes_eq row.grant.key c.args.key.now ≡ true = search rules in
    sym (found ∙ ap (if_sought c.args.to.now c.args.key.now) (sym c.in_ok-first.ensures.value) ∙ ap (λ t. cond t (Some row) None) same)
