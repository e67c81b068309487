pub mod FileWords
pub mod Matches
pub mod WrittenOut
pub mod Asking
