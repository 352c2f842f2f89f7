pub mod Numbers
pub mod WattHours
pub mod Close
pub mod Forget
pub mod Start
pub mod Stop
pub mod MeterValues
