-- How the value of a member is read, by what it holds.
use Rattle.std.specs.Prelude.{ℕ, nat_le, ℤ, pos, negsuc, int_le, unsigned_abs, List, Bool, ◌&&◌, if◌then◌else◌, Option, Some, None, Result, Ok, Err, option_and_then}
use Rattle.serde_json.specs.Data.{Data}
use Rattle.serde_json.specs.Find.{as_bool, as_str, as_number, as_integer}
use Rattle.std.specs.Int.{int_div_euclid}
use Rattle.ocpp_types.specs.Moment.{moment_of}
use Rattle.ocpp_types.specs.Named.{named}
use Rattle.ocpp_types.specs.Text.{characters}
use Rattle.ocpp_types.specs.Time.{time_of}
use Rattle.ocpp_types.specs.declared.error_code.ErrorCode.TheVariants.{TypeConstraintViolation, PropertyConstraintViolation}
use Rattle.ocpp_payload.specs.declared.fault.FieldFault.{FieldFault}

-- what is read of the value of the member of that name, or what is wrong with it
abbrev pub Kind : Type 0 → Type 0
Kind A = List ℕ → Data → Result A FieldFault

-- one reader after another; the first fault is given
infixl 10 ◌>>=◌
abbrev pub ◌>>=◌ : {A B : Type 0} → Result A FieldFault → (A → Result B FieldFault) → Result B FieldFault
(Ok x) >>= f = f x
(Err e) >>= f = Err e

-- a value of the JSON type that is wanted
abbrev pub typed : {A : Type 0} → List ℕ → Option A → Result A FieldFault
typed name (Some x) = Ok x
typed name None = Err (record { code = TypeConstraintViolation; field = name })

-- a value within its bounds
abbrev pub bounded : {A : Type 0} → List ℕ → Option A → Result A FieldFault
bounded name (Some x) = Ok x
bounded name None = Err (record { code = PropertyConstraintViolation; field = name })

-- a truth value
abbrev pub boolean : Kind Bool
boolean name d = typed name (as_bool d)

-- any text
abbrev pub any_text : Kind (List ℕ)
any_text name d = typed name (as_str d)

-- a text of at most so many characters
abbrev pub text : ℕ → Kind (List ℕ)
text limit name d = typed name (as_str d) >>= (λ s. bounded name (if nat_le (characters s) limit then Some s else None))

-- an integer within bounds
abbrev pub integer : ℤ → ℤ → Kind ℤ
integer low high name d = typed name (option_and_then as_integer (as_number d)) >>= (λ z. bounded name (if int_le low z && int_le z high then Some z else None))

-- a signed number of 32 bits, of 64 bits
abbrev pub int_32 : Kind ℤ
int_32 = integer (negsuc 2147483647) (pos 2147483647)

abbrev pub int_64 : Kind ℤ
int_64 = integer (negsuc 9223372036854775807) (pos 9223372036854775807)

-- a connector, from that number on up to 255; 0 is the station itself
abbrev pub connector_from : ℕ → Kind ℕ
connector_from low name d = integer (pos low) (pos 255) name d >>= (λ z. Ok (unsigned_abs z))

-- a value by its name, by a table of names
abbrev pub choice : {A : Type 0} → List (List ℕ × A) → Kind A
choice names name d = typed name (as_str d) >>= (λ s. bounded name (named names s))

-- a time, in milliseconds since 1970; a text that is none has the wrong type
abbrev pub time : Kind ℤ
time name d = typed name (option_and_then time_of (as_str d))

-- a time, floored to the moment of its second; what is no moment has the wrong type
abbrev pub moment_at : ℤ → Option ℕ
moment_at (pos seconds) = moment_of seconds
moment_at (negsuc n) = None

abbrev pub moment : Kind ℕ
moment name d = time name d >>= (λ z. typed name (moment_at (int_div_euclid z (pos 1000))))
