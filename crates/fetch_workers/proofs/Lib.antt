pub mod Filled
pub mod Posted
pub mod Crossings
mod Ways
pub mod FailedLegs
