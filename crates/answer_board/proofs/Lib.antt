pub mod Slots
pub mod Kept
pub mod Steps
pub mod Runs
pub mod Log
pub mod Stays
