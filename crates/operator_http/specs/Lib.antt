pub mod Foreign
pub mod Operator
pub mod Purged
pub mod Stopped
