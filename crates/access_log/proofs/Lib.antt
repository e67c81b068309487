pub mod Dates
pub mod LogText
pub mod Plain
pub mod Printable
