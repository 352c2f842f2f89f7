pub mod GrantedLaws
pub mod PageLaws
pub mod FirstLaws
pub mod ForgetLaws
pub mod ValueLaws
