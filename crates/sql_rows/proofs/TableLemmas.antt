-- A table after an edit.
use Rattle.std.proofs.Common.{◌≡◌, ℤ, not, List, [], ◌∷◌, filter, Bool, true, false, cond, refl, sym, ap, subst, inl, inr}
use Rattle.std.specs.Ordering.{is_eq}
use Rattle.std.proofs.lemmas.Bool.{cases_Bool, not-true}
use Rattle.std.proofs.lemmas.Cmp.{tied_itself}
use Rattle.sqlite_value.specs.declared.value.Value.{Value}
use Rattle.sqlite_value.specs.declared.value.Value.TheVariants.{Null, Int}
use Rattle.sqlite_value.specs.Order.{Row, value_cmp}
use Rattle.sqlite_value.proofs.OrderLemmas.{value_cmp_total}
use Rattle.sqlite_trees.specs.Tree.{rowid, has_rowid, put_row, without_rowid, IsTable}
use Rattle.sqlite_trees.proofs.TreeLemmas.{IsTable-put_row}
use Rattle.sqlite_sql.specs.Ops.{unary}
use Rattle.sqlite_schema.specs.declared.schema.Kind.TheVariants as kind
use Rattle.sqlite_rules.specs.Lists.{Has}
use Rattle.sqlite_rules.specs.Cast.{cast}
use Rattle.sqlite_rules.specs.Edit.{put_all, without_all}
use Rattle.sqlite_rules.proofs.ListLemmas.{all_has, all_from, has_filtered, has_kept}

pub table_put_all : (news rows : List Row) → IsTable rows → IsTable (put_all rows news)
table_put_all [] rows h = h
table_put_all (n ∷ news) rows h = table_put_all news (put_row n rows) (IsTable-put_row n rows h)

table_filter : (p : Row → Bool) (rows : List Row) → IsTable rows → IsTable (filter p rows)
table_filter p [] h = tt
table_filter p (r ∷ rows) h = elim (cases_Bool (p r)) [
  | inl e ↦ rw e (all_from _ (filter p rows) (λ y k. all_has _ rows y h.0 (has_filtered p rows y k).0), table_filter p rows h.1)
  | inr e ↦ rw e (table_filter p rows h.1)
]

pub table_without : (ids : List ℤ) (rows : List Row) → IsTable rows → IsTable (without_all rows ids)
table_without [] rows h = h
table_without (id ∷ ids) rows h = table_without ids (without_rowid id rows) (table_filter _ rows h)

abbrev pub Lacks : List ℤ → Row → Type 0
Lacks ids x = (id : ℤ) → Has ids id → has_rowid id x ≡ false

pub left_from : (ids : List ℤ) (rows : List Row) (x : Row) → Has (without_all rows ids) x → Has rows x × Lacks ids x
left_from [] rows x h = (h, λ id none. absurd none)
left_from (id ∷ ids) rows x h =
    let r = left_from ids (without_rowid id rows) x h in
    let was = has_filtered (λ y. not (has_rowid id y)) rows x r.0 in
    (was.0, λ other k. elim k [ inl e ↦ rw e (not-true _ was.1) | inr more ↦ r.1 other more ])

pub left_has : (ids : List ℤ) (rows : List Row) (x : Row) → Has rows x → Lacks ids x → Has (without_all rows ids) x
left_has [] rows x h lacks = h
left_has (id ∷ ids) rows x h lacks = left_has ids (without_rowid id rows) x (has_kept (λ y. not (has_rowid id y)) rows x h (ap not (lacks id (inl refl)))) (λ other k. lacks other (inr k))

either : (b : Bool) (x : Value) → cond b x x ≡ x
either true x = refl
either false x = refl

pub cast_null : cast kind.Integer Null ≡ Null
unfolding unary
cast_null = either _ Null

pub cast_int : (n : ℤ) → cast kind.Integer (Int n) ≡ Int n
unfolding unary
cast_int n = either _ (Int n)

pub has_its_id : (r : Row) (id : ℤ) → rowid r ≡ Int id → has_rowid id r ≡ true
has_its_id r id e = rw (e, tied_itself value_cmp_total (Int id)) refl

pub equal_is : (o : Rattle.std.proofs.Common.Ordering) → is_eq o ≡ true → o ≡ Rattle.std.proofs.Common.Equal
equal_is Rattle.std.proofs.Common.Less h = absurd cc
equal_is Rattle.std.proofs.Common.Equal h = refl
equal_is Rattle.std.proofs.Common.Greater h = absurd cc

pub tied_by : (x r : Row) (id : ℤ) → has_rowid id x ≡ true → rowid r ≡ Int id → value_cmp (rowid x) (rowid r) ≡ Rattle.std.proofs.Common.Equal
tied_by x r id is e = subst (λ v. value_cmp (rowid x) v ≡ Rattle.std.proofs.Common.Equal) (sym e) (equal_is _ is)
