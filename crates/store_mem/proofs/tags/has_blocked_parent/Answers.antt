use Rattle.std.proofs.Common.{ℕ, List, Bool, ap, sym, ◌∙◌}
use Rattle.ocpp_types.specs.TagKey.{key_of}
use Rattle.hub_rows.specs.Tags.{is_blocked, is_parent_blocked}
use Rattle.store_mem.specs.Tags.{row_of_key}
use Rattle.store_mem.proofs.tags.has_blocked_parent.Goals as goal

pub returns : goal.returns
returns c =
    let of_key : List ℕ → Bool = (λ key. is_blocked (row_of_key key c.args.tags.now)) in
    c.is_blocked.ensures ∙ ap is_blocked c.row_of_key.ensures ∙ ap of_key (c.as_str-2.ensures ∙ c.in_ok-key.ensures ∙ ap key_of c.as_str.ensures) ∙ ap (is_parent_blocked of_key) (sym c.in-Some.is)
