pub mod PageTime
pub mod Privacy
pub mod Validators
pub mod Departure
pub mod Forwarded
pub mod OwnFields
