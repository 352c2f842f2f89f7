-- The actions that an operator can call a station by, by name.
use Rattle.std.specs.Prelude.{ℕ, List, [], ◌∷◌, codes}
use Rattle.ocpp_types.specs.Named.{names_of}
use Rattle.operator_cmds.specs.declared.operator_action.OperatorAction.{OperatorAction}
use Rattle.operator_cmds.specs.declared.operator_action.OperatorAction.TheVariants as operator_action

-- the name of an action of an operator
abbrev pub operator_action_name : OperatorAction → List ℕ
operator_action_name operator_action.CancelReservation = codes "CancelReservation"
operator_action_name operator_action.ChangeAvailability = codes "ChangeAvailability"
operator_action_name operator_action.ChangeConfiguration = codes "ChangeConfiguration"
operator_action_name operator_action.ClearCache = codes "ClearCache"
operator_action_name operator_action.DataTransfer = codes "DataTransfer"
operator_action_name operator_action.GetConfiguration = codes "GetConfiguration"
operator_action_name operator_action.GetLocalListVersion = codes "GetLocalListVersion"
operator_action_name operator_action.RemoteStartTransaction = codes "RemoteStartTransaction"
operator_action_name operator_action.RemoteStopTransaction = codes "RemoteStopTransaction"
operator_action_name operator_action.ReserveNow = codes "ReserveNow"
operator_action_name operator_action.Reset = codes "Reset"
operator_action_name operator_action.SendLocalList = codes "SendLocalList"
operator_action_name operator_action.TriggerMessage = codes "TriggerMessage"
operator_action_name operator_action.UnlockConnector = codes "UnlockConnector"

-- all actions of an operator, by name
abbrev pub operator_actions : List (List ℕ × OperatorAction)
operator_actions = names_of operator_action_name (operator_action.CancelReservation ∷ operator_action.ChangeAvailability ∷ operator_action.ChangeConfiguration ∷ operator_action.ClearCache ∷ operator_action.DataTransfer ∷ operator_action.GetConfiguration ∷ operator_action.GetLocalListVersion ∷ operator_action.RemoteStartTransaction ∷ operator_action.RemoteStopTransaction ∷ operator_action.ReserveNow ∷ operator_action.Reset ∷ operator_action.SendLocalList ∷ operator_action.TriggerMessage ∷ operator_action.UnlockConnector ∷ [])
