pub mod Reasons
pub mod Lines
pub mod Reading
pub mod Merging
pub mod Writing
