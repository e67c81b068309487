pub mod Rest
pub mod Law
