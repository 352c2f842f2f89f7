pub mod AdmitLaws
pub mod HandshakeLaws
pub mod LobbyLaws
pub mod PartLaws
pub mod ProbeLaws
pub mod SayLaws
pub mod StepLaws
pub mod JournalLaws
pub mod OrderLaws
mod RecordLaws
mod TurnLaws
