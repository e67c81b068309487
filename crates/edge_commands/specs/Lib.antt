pub mod Status
pub mod CommandLine
pub mod Laws
pub mod Checked
