pub mod Names
pub mod Bytes
pub mod Entities
pub mod Tag
pub mod Scan
pub mod Spelling
pub mod Problems
