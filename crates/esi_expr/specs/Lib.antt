pub mod Tree
pub mod Shown
pub mod Numbers
pub mod Truth
pub mod Reading
pub mod Spelling
pub mod Laws
