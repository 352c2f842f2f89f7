pub mod ChangeLaws
pub mod RecoverLaws
pub mod MetaLaws
pub mod OursLaws
pub mod StopLaws
pub mod StoreLaws
