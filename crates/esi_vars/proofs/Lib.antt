pub mod FieldLemmas
pub mod AgentLemmas
pub mod Sound
pub mod Complete
pub mod PartsLemmas
pub mod Theorems
pub mod FieldTheorems
pub mod AgentTheorems
pub mod ValuesLemmas
pub mod SearchLemmas
mod LetterLemmas
