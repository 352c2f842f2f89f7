-- The members of a payload, as a table, and how they are read.
use Rattle.std.specs.Prelude.{ℕ, List, Option, Some, None, Result, Ok, Err, option_and_then, unwrap_or}
use Rattle.serde_json.specs.Data.{Data, null, boolean, number, string, array, object}
use Rattle.serde_json.specs.Find.{get}
use Rattle.ocpp_types.specs.declared.error_code.ErrorCode.TheVariants.{OccurenceConstraintViolation}
use Rattle.ocpp_payload.specs.declared.fault.FieldFault.{FieldFault}
use Rattle.ocpp_payload.specs.Kind.{Kind, ◌>>=◌}

-- a member that is `null` counts as missing
abbrev pub not_null : Data → Option Data
not_null null = None
not_null (boolean b) = Some (boolean b)
not_null (number n) = Some (number n)
not_null (string s) = Some (string s)
not_null (array ds) = Some (array ds)
not_null (object ms) = Some (object ms)

abbrev pub present : List ℕ → Data → Option Data
present name d = option_and_then not_null (get name d)

abbrev pub required_in : {A : Type 0} → Kind A → List ℕ → Option Data → Result A FieldFault
required_in kind name None = Err (record { code = OccurenceConstraintViolation; field = name })
required_in kind name (Some d) = kind name d

abbrev pub optional_in : {A : Type 0} → Kind A → List ℕ → Option Data → Result (Option A) FieldFault
optional_in kind name None = Ok None
optional_in kind name (Some d) = kind name d >>= (λ x. Ok (Some x))

-- the member of an object has to be there
abbrev pub required : {A : Type 0} → Kind A → Kind A
required kind name d = required_in kind name (present name d)

-- it may be missing
abbrev pub optional : {A : Type 0} → Kind A → Kind (Option A)
optional kind name d = optional_in kind name (present name d)

-- it may be missing, and then counts as sent with that value
abbrev pub with_default : {A : Type 0} → A → Kind A → Kind A
with_default default kind name d = optional kind name d >>= (λ x. Ok (unwrap_or x default))

-- a table: the members of an object, in the order in which they are read
pub data Fields : Type 1 where
  end : Fields
  field : {A : Type 0} → List ℕ → Kind A → Fields → Fields

-- what makes a B of the members of a table
abbrev pub Makes : Type 0 → Fields → Type 0
Makes B end = B
Makes B (field {A} name kind rest) = A → Makes B rest

-- the members of an object by a table, or the first fault
abbrev pub reads : {B : Type 0} → (fs : Fields) → Makes B fs → Data → Result B FieldFault
reads end made d = Ok made
reads (field {A} name kind rest) make d = kind name d >>= (λ x. reads rest (make x) d)
