pub mod Shards
pub mod Circles
