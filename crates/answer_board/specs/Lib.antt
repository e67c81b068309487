pub mod Board
pub mod Shown
pub mod Sound
pub mod Runs
pub mod Laws
