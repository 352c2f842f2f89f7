-- The number and the name of each refusal.
use Rattle.std.specs.Prelude.{ℕ, List, codes}
use Rattle.ocpp_types.specs.declared.refusal.Refusal.{Refusal}
use Rattle.ocpp_types.specs.declared.refusal.Refusal.TheVariants.{NoSuchStation, StationExists, NoSuchTag, NoSuchOperator, SelfGrant, NoSuchGrant, NotConnected, QueueFull, NotAllowedNow, TagRefused, NoSuchTransaction, BadField, HasOpenTransactions, NoSuchReservation, NumberSpent}

abbrev pub refusal_number : Refusal → ℕ
refusal_number NoSuchStation = 1
refusal_number StationExists = 2
refusal_number NoSuchTag = 3
refusal_number NoSuchOperator = 4
refusal_number SelfGrant = 5
refusal_number NoSuchGrant = 6
refusal_number NotConnected = 7
refusal_number QueueFull = 8
refusal_number NotAllowedNow = 9
refusal_number (TagRefused status) = 10
refusal_number NoSuchTransaction = 11
refusal_number (BadField field) = 12
refusal_number HasOpenTransactions = 13
refusal_number NoSuchReservation = 14
refusal_number NumberSpent = 15

abbrev pub refusal_name : Refusal → List ℕ
refusal_name NoSuchStation = codes "NoSuchStation"
refusal_name StationExists = codes "StationExists"
refusal_name NoSuchTag = codes "NoSuchTag"
refusal_name NoSuchOperator = codes "NoSuchOperator"
refusal_name SelfGrant = codes "SelfGrant"
refusal_name NoSuchGrant = codes "NoSuchGrant"
refusal_name NotConnected = codes "NotConnected"
refusal_name QueueFull = codes "QueueFull"
refusal_name NotAllowedNow = codes "NotAllowedNow"
refusal_name (TagRefused status) = codes "TagRefused"
refusal_name NoSuchTransaction = codes "NoSuchTransaction"
refusal_name (BadField field) = codes "BadField"
refusal_name HasOpenTransactions = codes "HasOpenTransactions"
refusal_name NoSuchReservation = codes "NoSuchReservation"
refusal_name NumberSpent = codes "NumberSpent"
