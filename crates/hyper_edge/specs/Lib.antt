pub mod Responses
pub mod Reasons
pub mod Lines
pub mod Methods
pub mod Circles
