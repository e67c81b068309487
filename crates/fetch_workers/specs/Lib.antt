pub mod Given
pub mod Ways
pub mod Faults
pub mod Rests
pub mod Laws
pub mod Progress
pub mod Made
