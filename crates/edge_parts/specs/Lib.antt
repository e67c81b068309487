pub mod ServerOptions
pub mod OpenFiles
