pub mod Choices
pub mod Statuses
pub mod OperatorAction
pub mod Forms
pub mod LocalList
pub mod Command
pub mod AnswerForms
pub mod Answer
