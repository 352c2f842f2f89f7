-- What the statement that drops a tag makes of the rows of the hub.
use Rattle.std.proofs.Common.{List, ℕ, [], ◌∷◌, inl, inr, refl}
use Rattle.std.proofs.lemmas.Bool.{cases_Bool}
use Rattle.sqlite_value.specs.declared.value.Value.TheVariants.{Text}
use Rattle.hub_rows.specs.declared.change.Edit.TheVariants.{Tags}
use Rattle.hub_rows.specs.declared.change.TagEdit.TheVariants.{TagDropped}
use Rattle.hub_rows.specs.Changes.{edit}
use Rattle.sql_tables.specs.declared.tags.TheConstants as sql_tags
use Rattle.sql_tables.proofs.Texts as texts
use Rattle.sql_rows.specs.TypedTables.{tags, grants, rows_of}
use Rattle.sql_rows.specs.Kept.{IsMade}
use Rattle.sql_rows.proofs.HubTables.{rest_is}
use Rattle.sql_rows.proofs.TagTables.{on_tags, on_grants}
use Rattle.sql_rows.proofs.Tests.{of_tag}
use Rattle.sql_rows.proofs.CascadeLemmas.{GoWith, loses_any}
use Rattle.sql_rows.proofs.CascadeWrites.{key_of_tag, key_of_list, drops_with}
use Rattle.sql_rows.proofs.StoreLemmas.{Means, means_as}

-- grants go with their tag
grants_go : GoWith tags grants
grants_go = record {
  at = 3;
  to = 4;
  on_parents = on_tags;
  on_children = on_grants;
  apart = λ e. cc;
  op = λ t. t.op;
  name = λ t. t.key;
  child_op = λ g. g.op;
  child_name = λ g. g.key;
  parent_row = λ t. refl;
  child_row = λ g. refl;
  test = of_tag;
  refers = refl;
  held = λ db id g. rw key_of_tag refl;
  sets_off = λ olds. elim (cases_Bool (loses_any olds)) [
    | inl e ↦ rw (key_of_tag, key_of_list, e) refl
    | inr e ↦ rw (key_of_tag, key_of_list, e) refl
  ];
  frees = λ depth olds. rw (key_of_tag, key_of_list) refl;
}

pub drops_tag : (op key : List ℕ) → Means sql_tags.DROP.now (Text op ∷ Text key ∷ []) (IsMade (edit op (Tags (TagDropped key))))
unfolding grants_go
drops_tag op key = means_as (drops_with tags grants grants_go op key sql_tags.DROP.now texts.drop_tag_is (λ e. cc, (λ e. cc, tt)))
    (λ old new h. λ i. record (rows_of (rest_is (6 ∷ 8 ∷ []) old new h.frame i)) { tags = h.rows i; grants = h.more i })
