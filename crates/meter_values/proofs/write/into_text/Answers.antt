use Rattle.std.proofs.Common.{◌++◌, ap, subst, sym, ◌∙◌, IsUtf8}
use Rattle.json.specs.Print.{print}
use Rattle.meter_values.proofs.write.into_text.Goals as goal

pub unwrap-text-requires : goal.unwrap-text-requires
unwrap-text-requires c =
    let items = c.into_inner.ensures.items ∙ ap (λ l. l ++ print c.args.out.tokens) c.requires in
    c.from_utf8.ensures.succeeds (subst IsUtf8 (sym items) c.into_inner.ensures.utf8)
