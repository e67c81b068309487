pub mod PartsLemmas
pub mod ParameterLemmas
pub mod FoundLemmas
pub mod RunLemmas
pub mod Complete
pub mod Sound
pub mod Parted
