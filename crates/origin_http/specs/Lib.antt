pub mod Names
pub mod Heads
pub mod Passing
pub mod Private
pub mod Lengths
pub mod Fetches
pub mod Asking
