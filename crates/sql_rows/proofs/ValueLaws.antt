-- What is written into a column is read from it, and stays under its column's type.
use Rattle.std.proofs.Common.{◌≡◌, ℕ, ℤ, pos, List, Bool, true, false, if◌then◌else◌, Option, Some, None, option_map, refl, arith}
use Rattle.sqlite_value.specs.declared.value.Value.TheVariants.{Text}
use Rattle.sqlite_schema.specs.declared.schema.Kind.TheVariants as kind
use Rattle.sqlite_rules.specs.Cast.{cast}
use Rattle.sqlite.specs.Values.{or_null, bound_value}
use Rattle.std.proofs.lemmas.Int.{ints}
use Rattle.hub_rows.specs.Reservations.{shifted, unshifted}
use Rattle.sql_rows.specs.Values.{text_or_null, number_or_null, count_or_null, flag, text_if_any, number_if_any, count_if_any, flag_in}
use Rattle.sql_rows.proofs.TableLemmas.{cast_null, cast_int}

pub text_cast : (o : Option (List ℕ)) → cast kind.Text (text_or_null o) ≡ text_or_null o
text_cast None = refl
text_cast (Some t) = refl

pub number_cast : (o : Option ℤ) → cast kind.Integer (number_or_null o) ≡ number_or_null o
number_cast None = cast_null
number_cast (Some n) = cast_int n

pub count_cast : (o : Option ℕ) → cast kind.Integer (count_or_null o) ≡ count_or_null o
count_cast None = cast_null
count_cast (Some n) = cast_int (pos n)

pub flag_cast : (b : Bool) → cast kind.Integer (flag b) ≡ flag b
flag_cast b = cast_int (if b then pos 1 else pos 0)

pub text_back : (o : Option (List ℕ)) → text_if_any (text_or_null o) ≡ o
text_back None = refl
text_back (Some t) = refl

pub number_back : (o : Option ℤ) → number_if_any (number_or_null o) ≡ o
number_back None = refl
number_back (Some n) = refl

pub count_back : (o : Option ℕ) → count_if_any (count_or_null o) ≡ o
count_back None = refl
count_back (Some n) = refl

pub flag_back : (b : Bool) → flag_in (flag b) ≡ b
flag_back true = refl
flag_back false = refl

-- an optional text, as `params!` binds it
pub optional : {X : Type 0} (f : X → List ℕ) (o : Option X) → bound_value (or_null (λ s. Text (f s)) o) ≡ text_or_null (option_map f o)
optional f None = refl
optional f (Some s) = refl

-- a number of 32 bits that is shifted, and back
pub shifted_back : (n : ℕ) → shifted (unshifted n) ≡ n
shifted_back n = omega (arith, ints)
