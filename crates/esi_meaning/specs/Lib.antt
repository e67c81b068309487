pub mod Run
pub mod Inlines
pub mod Meaning
pub mod Ahead
pub mod State
pub mod Laws
pub mod Ending
pub mod Evaluator
