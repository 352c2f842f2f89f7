-- What vendors' messages are answered.
use Rattle.std.specs.Prelude.{ℕ, List, [], ◌∷◌, Option, Some, None, if◌then◌else◌}
use Rattle.std.specs.Borrow.{Bor}
use Rattle.std.specs.Str.{bytes_eq}
use Rattle.ocpp_types.specs.declared.data_transfer_status.DataTransferStatus.TheVariants.{UnknownVendorId}
use Rattle.station_calls.specs.declared.vendor.VendorAnswer.{VendorAnswer}

-- the text that a reference lends, if there is one
abbrev pub lent_text : Option (Bor (List ℕ)) → Option (List ℕ)
lent_text None = None
lent_text (Some b) = Some b.now

-- the answers to a vendor's messages, by vendor, message and content
abbrev pub Answers : Type 0
Answers = List ℕ → Option (List ℕ) → Option (List ℕ) → VendorAnswer

-- a handler, as contracts see it: its vendor, and its answer to a message of that name and content
pub record HandlerView : Type 0 where
  pub name : List ℕ
  pub gives : Option (List ℕ) → Option (List ℕ) → VendorAnswer

-- no handler answers for the vendor
abbrev pub unknown_vendor : VendorAnswer
unknown_vendor = record { status = UnknownVendorId; content = None }

-- the first handler of the vendor answers
abbrev pub answer_of : {H : Type 0} → (H → HandlerView) → List H → Answers
answer_of view [] vendor message content = unknown_vendor
answer_of view (h ∷ hs) vendor message content =
    if bytes_eq (view h).name vendor then (view h).gives message content else answer_of view hs vendor message content
