use Rattle.std.proofs.Common.{rules}
use Rattle.std.proofs.lemmas.Fn.{filter_same}
use Rattle.store_mem.proofs.dropping.drop_rows.Goals as goal

pub returns : goal.returns
returns g c = filter_same _ _ _ (λ x b f' called. search rules) _ _ c.retain.ensures.filtered
