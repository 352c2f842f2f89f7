-- The members of a command or of an answer, as a table: how they are read, which is bad, how they are written.
use Rattle.std.specs.Prelude.{◌≡◌, refl, ℕ, List, false, Option, Some, None, Result, option_map, option_and_then}
use Rattle.std.specs.Option.{option_or}
use Rattle.serde_json.specs.Data.{Data, object, Members, no_members, put}
use Rattle.serde_json.specs.Written.{has_float, members_have_float}
use Rattle.ocpp_payload.specs.declared.fault.FieldFault.{FieldFault}
use Rattle.ocpp_payload.specs.Conf.{put_some}
use Rattle.ocpp_payload.specs.Fields as by
use Rattle.ocpp_payload.specs.Fields.{Fields, Makes, required, optional}
use Rattle.ocpp_payload.specs.Holds.{Holds}
use Rattle.ocpp_payload.specs.Lists.{object_of}
use Rattle.ocpp_payload.specs.Plain.{put_plain}

-- the members of a C in order: a name, what it holds, and where a C has it. `may`: it may be missing;
-- `also`: what else can be bad, of several members
pub data Table (C : Type 0) : Type 1 where
  end : Table C
  must : {A : Type 0} → List ℕ → Holds A → (C → A) → Table C → Table C
  may : {A : Type 0} → List ℕ → Holds A → (C → Option A) → Table C → Table C
  also : (C → Option (List ℕ)) → Table C → Table C

-- how the members are read
abbrev pub fields : {C : Type 0} → Table C → Fields
fields end = by.end
fields (must name holds at rest) = by.field name (required holds.reads) (fields rest)
fields (may name holds at rest) = by.field name (optional holds.reads) (fields rest)
fields (also test rest) = fields rest

-- a table, and what makes a C of the members
pub record Form (C : Type 0) : Type 1 where
  pub table : Table C
  pub make : Makes C (fields table)

-- the C that an object is, or the first fault
abbrev pub read_by : {C : Type 0} → Form C → Data → Result C FieldFault
read_by form d = by.reads (fields form.table) form.make d

-- the same of a part of a table, where `found` is the one of the members before it
abbrev pub bad_after : {C : Type 0} → Option (List ℕ) → Table C → C → Option (List ℕ)
bad_after found end c = found
bad_after found (must name holds at rest) c = bad_after (option_or found (holds.bad name (at c))) rest c
bad_after found (may name holds at rest) c = bad_after (option_or found (option_and_then (holds.bad name) (at c))) rest c
bad_after found (also test rest) c = bad_after (option_or found (test c)) rest c

-- the name of the first bad member
abbrev pub bad_member : {C : Type 0} → Form C → C → Option (List ℕ)
bad_member form c = bad_after None form.table c

-- the members, put to those of `ms`
abbrev pub put_members : {C : Type 0} → Table C → C → Members → Members
put_members end c ms = ms
put_members (must name holds at rest) c ms = put_members rest c (put name (holds.json (at c)) ms)
put_members (may name holds at rest) c ms = put_members rest c (put_some name (option_map holds.json (at c)) ms)
put_members (also test rest) c ms = put_members rest c ms

-- the object that a C is written as
abbrev pub written : {C : Type 0} → Form C → C → Data
written form c = object (put_members form.table c no_members)

-- ---- what is written has no float

put_some_plain : {A : Type 0} → (name : List ℕ) (holds : Holds A) (x : Option A) (ms : Members) → members_have_float ms ≡ false → members_have_float (put_some name (option_map holds.json x) ms) ≡ false
put_some_plain name holds None ms plain = plain
put_some_plain name holds (Some x) ms plain = put_plain name (holds.json x) ms (holds.plain x) plain

pub put_members_plain : {C : Type 0} → (t : Table C) (c : C) (ms : Members) → members_have_float ms ≡ false → members_have_float (put_members t c ms) ≡ false
put_members_plain end c ms plain = plain
put_members_plain (must name holds at rest) c ms plain = put_members_plain rest c _ (put_plain name (holds.json (at c)) ms (holds.plain (at c)) plain)
put_members_plain (may name holds at rest) c ms plain = put_members_plain rest c _ (put_some_plain name holds (at c) ms plain)
put_members_plain (also test rest) c ms plain = put_members_plain rest c ms plain

pub written_plain : {C : Type 0} → (form : Form C) (c : C) → has_float (written form c) ≡ false
written_plain form c = put_members_plain form.table c no_members refl

-- an object as the value of a member
abbrev pub holds_object : {C : Type 0} → Form C → Holds C
holds_object form = record {
  reads = object_of (read_by form);
  bad = λ name c. bad_member form c;
  json = written form;
  plain = written_plain form;
}
