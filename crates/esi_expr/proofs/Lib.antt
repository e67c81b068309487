pub mod Fuel
pub mod TruthLemmas
pub mod NumberLemmas
pub mod IntLemmas
pub mod ReadingLemmas
pub mod Sound
pub mod Complete
pub mod Theorems
