pub mod Text
pub mod Clock
pub mod Faults
pub mod Escapes
pub mod Lines
pub mod Queued
pub mod Queue
