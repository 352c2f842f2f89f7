-- What a text says that an operator is sent.
use Rattle.std.specs.Prelude.{ℕ, nat_lt, ◌==◌, Bool, is_some, List, [], ◌∷◌, length, Option, Some, None, codes, option_and_then, if◌then◌else◌}
use Rattle.std.specs.List.{position_or_len, before_first, after_first}
use Rattle.std.specs.Str.{bytes_eq}
use Rattle.ocpp_types.specs.Digits.{number_of_digits}
use Rattle.clients.specs.declared.reply.Forgotten.{Forgotten}
use Rattle.clients.specs.declared.reply.Reply.{Reply}
use Rattle.clients.specs.declared.reply.Reply.TheVariants.{Taken, Call, Refused, Bad, Other}

infixl 10 ◌>>=◌
abbrev pub ◌>>=◌ : {A B : Type 0} → Option A → (A → Option B) → Option B
value >>= next = option_and_then next value

abbrev pub is_space : ℕ → Bool
is_space byte = byte == 32

-- what is before and what is after the first space
abbrev pub at_space : List ℕ → Option (List ℕ × List ℕ)
at_space text = if nat_lt (position_or_len is_space text) (length text) then Some (before_first is_space text, after_first is_space text) else None

-- what follows the first word, if that is `word`
abbrev pub after_word : List ℕ → List ℕ → Option (List ℕ)
after_word word text = do
  parts ← at_space text
  if bytes_eq parts.0 word then Some parts.1 else None

-- what follows the `#` with which a text begins
abbrev pub after_sign : List ℕ → Option (List ℕ)
after_sign [] = None
after_sign (byte ∷ rest) = if byte == 35 then Some rest else None

abbrev pub number_of : List ℕ → Option ℕ
number_of word = number_of_digits 19 word

-- the number before the first space
abbrev pub leading_number : List ℕ → Option ℕ
leading_number text = do
  parts ← at_space text
  number_of parts.0

-- the number N of `#N MARK`
abbrev pub marked : List ℕ → List ℕ → Option ℕ
marked text mark = do
  line ← after_sign text
  parts ← at_space line
  if bytes_eq parts.1 mark then number_of parts.0 else None

-- the number of the line whose answer follows
abbrev pub begun : List ℕ → Option ℕ
begun text = marked text (codes "begin")

-- the number of the line whose answer has come
abbrev pub ended : List ℕ → Option ℕ
ended text = marked text (codes "end")

-- `ok N`
abbrev pub call_reply : Option ℕ → Reply
call_reply (Some call) = Call call
call_reply None = Other

-- `refused NUMBER ..`
abbrev pub refused_reply : Option (List ℕ) → Reply
refused_reply (Some why) = if is_some (leading_number why) then Refused else Other
refused_reply None = Other

abbrev pub worded_reply : Option (List ℕ) → Option (List ℕ) → Reply
worded_reply (Some rest) why = call_reply (number_of rest)
worded_reply None why = refused_reply why

-- what is told to the operator answers its line
abbrev pub told_reply : List ℕ → Reply
told_reply told = if bytes_eq told (codes "ok") then Taken else worded_reply (after_word (codes "ok") told) (after_word (codes "refused") told)

abbrev pub reply_if_told : Option (List ℕ) → Reply
reply_if_told (Some told) = told_reply told
reply_if_told None = Other

-- a text answers the line of an operator
abbrev pub reply_of : List ℕ → List ℕ → Reply
reply_of op text = if bytes_eq text (codes "bad line") then Bad else reply_if_told (after_word op text)

-- the number of the call to a station that has ended, by `OP ST done N ..`
abbrev pub ended_call : List ℕ → List ℕ → List ℕ → Option ℕ
ended_call op station text = do
  told ← after_word op text
  said ← after_word station told
  outcome ← after_word (codes "done") said
  leading_number outcome

-- what follows `OP row KIND `
abbrev pub row_of : List ℕ → List ℕ → List ℕ → Option (List ℕ)
row_of op kind text = do
  told ← after_word op text
  row ← after_word (codes "row") told
  after_word kind row

-- the station of `OP row station ST ..`
abbrev pub station_of : List ℕ → List ℕ → Option (List ℕ)
station_of op text = do
  row ← row_of op (codes "station") text
  parts ← at_space row
  Some parts.0

-- what follows `OP row KIND ST `
abbrev pub row_of_station : List ℕ → List ℕ → List ℕ → List ℕ → Option (List ℕ)
row_of_station op kind station text = do
  row ← row_of op kind text
  after_word station row

-- what went of a station, by `OP row forgotten ST TRANSACTIONS READINGS`
abbrev pub forgotten_of : List ℕ → List ℕ → List ℕ → Option Forgotten
forgotten_of op station text = do
  counts ← row_of_station op (codes "forgotten") station text
  parts ← at_space counts
  transactions ← number_of parts.0
  readings ← number_of parts.1
  Some (record { transactions = transactions; readings = readings })
