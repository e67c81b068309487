pub mod Staff
pub mod Departure
pub mod Roster
pub mod Refusals
