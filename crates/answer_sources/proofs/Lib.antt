pub mod SameLemmas
mod Replies
pub mod Crossings
