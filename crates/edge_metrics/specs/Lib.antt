pub mod Counts
pub mod Labels
pub mod Memory
pub mod Page
pub mod Recent
pub mod Text
