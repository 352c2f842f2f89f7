-- Columns: how values are written into them and read from them.
use Rattle.std.specs.Prelude.{ℕ, ℤ, pos, Bool, false, not, if◌then◌else◌, List, [], Option, Some, None, option_map, unwrap_or}
use Rattle.std.specs.Ordering.{int_eq}
use Rattle.sqlite_value.specs.declared.value.Value.{Value}
use Rattle.sqlite_value.specs.declared.value.Value.TheVariants.{Int, Text}
use Rattle.sqlite_value.specs.Order.{Row, column}
use Rattle.sqlite.specs.Values.{or_null, bound_value}
use Rattle.ocpp_types.specs.Named.{named}

abbrev pub text_in : Value → List ℕ
text_in (Text t) = t
text_in _ = []

abbrev pub text_if_any : Value → Option (List ℕ)
text_if_any (Text t) = Some t
text_if_any _ = None

abbrev pub flag_in : Value → Bool
flag_in (Int n) = not (int_eq n (pos 0))
flag_in _ = false

abbrev pub count_if_any : Value → Option ℕ
count_if_any (Int (pos n)) = Some n
count_if_any _ = None

abbrev pub count_in : Value → ℕ
count_in (Int (pos n)) = n
count_in _ = 0

-- the text in the first column
abbrev pub first_text : Row → List ℕ
first_text r = text_in (column r 0)

-- the numbers in the first two columns
abbrev pub numbers_in : Row → ℕ × ℕ
numbers_in r = (count_in (column r 0), count_in (column r 1))

abbrev pub number_in : Value → ℤ
number_in (Int n) = n
number_in _ = pos 0

abbrev pub number_if_any : Value → Option ℤ
number_if_any (Int n) = Some n
number_if_any _ = None

-- a value by its name, or else the first of them
abbrev pub name_in : {A : Type 0} → List (List ℕ × A) → A → Value → A
name_in names other v = unwrap_or (named names (text_in v)) other

-- a value by its name, if there is a text
abbrev pub name_if_any : {A : Type 0} → List (List ℕ × A) → Value → Option A
name_if_any names (Text t) = named names t
name_if_any names _ = None

-- as parameters are bound
abbrev pub text_or_null : Option (List ℕ) → Value
text_or_null o = bound_value (or_null Text o)

abbrev pub number_or_null : Option ℤ → Value
number_or_null o = bound_value (or_null Int o)

abbrev pub count_or_null : Option ℕ → Value
count_or_null o = number_or_null (option_map pos o)

abbrev pub flag : Bool → Value
flag b = Int (if b then pos 1 else pos 0)
