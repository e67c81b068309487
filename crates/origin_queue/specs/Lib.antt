pub mod Queued
pub mod Queue
pub mod Law
