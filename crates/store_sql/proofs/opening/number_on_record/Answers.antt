use Rattle.std.proofs.Common.{◌≡◌, ◌∙◌, Some, codes, is_some, not, true≢false, ap, sym}
use Rattle.sqlite_schema.specs.Names.{table_named}
use Rattle.store_sql.proofs.MetaLaws.{meta_named}
use Rattle.store_sql.proofs.opening.number_on_record.Goals as goal

pub returns-then-is_none-clause-finds : goal.returns-then-is_none-clause-finds
returns-then-is_none-clause-finds g c = λ n tables shown.
    let named : c.table_named.result ≡ Some 0 = c.table_named.ensures ∙ ap (λ s. table_named s (codes "hub_meta")) (c.schema.ensures.value ∙ tables.is) ∙ meta_named n tables.some in
    absurd (true≢false (sym (ap is_some named) ∙ c.is_none.ensures ∙ ap not c.if-is_none.true))
