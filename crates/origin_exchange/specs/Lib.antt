pub mod Causes
pub mod Intake
pub mod Behind
