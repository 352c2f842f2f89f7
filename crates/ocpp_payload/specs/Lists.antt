-- Objects and lists as the values of members.
use Rattle.std.specs.Prelude.{ℕ, List, [], ◌∷◌, Option, Some, None, Result, Ok, Err}
use Rattle.serde_json.specs.Data.{Data, Items, no_items, item, Members}
use Rattle.serde_json.specs.Find.{as_array, as_object}
use Rattle.ocpp_types.specs.declared.error_code.ErrorCode.TheVariants.{OccurenceConstraintViolation, TypeConstraintViolation}
use Rattle.ocpp_payload.specs.declared.fault.FieldFault.{FieldFault}
use Rattle.ocpp_payload.specs.Kind.{Kind, ◌>>=◌, typed}

-- an object, by its members; what is no object has the wrong type, under the member's name
abbrev pub by_members : {A : Type 0} → (Data → Result A FieldFault) → List ℕ → Option Members → Data → Result A FieldFault
by_members read name (Some ms) d = read d
by_members read name None d = Err (record { code = TypeConstraintViolation; field = name })

-- a member that is an object
abbrev pub object_of : {A : Type 0} → (Data → Result A FieldFault) → Kind A
object_of read name d = by_members read name (as_object d) d

-- the items in order; the first fault is given
abbrev pub each : {A : Type 0} → (Data → Result A FieldFault) → Items → Result (List A) FieldFault
each read no_items = Ok []
each read (item d ds) = read d >>= (λ x. each read ds >>= (λ xs. Ok (x ∷ xs)))

-- at least one item
abbrev pub some_each : {A : Type 0} → Kind A → List ℕ → Items → Result (List A) FieldFault
some_each kind name no_items = Err (record { code = OccurenceConstraintViolation; field = name })
some_each kind name (item d ds) = each (kind name) (item d ds)

-- a list of such values; an item that is none is at fault under the list's name
abbrev pub list_of : {A : Type 0} → Kind A → Kind (List A)
list_of kind name d = typed name (as_array d) >>= each (kind name)

-- a list of one such value or more
abbrev pub some_of : {A : Type 0} → Kind A → Kind (List A)
some_of kind name d = typed name (as_array d) >>= some_each kind name
