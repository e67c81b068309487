pub mod Standing
pub mod Health
pub mod Law
