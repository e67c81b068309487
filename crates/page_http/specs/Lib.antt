pub mod Head
pub mod Passed
pub mod Cookies
pub mod NamedLines
pub mod Frames
pub mod Sent
pub mod EntityTag
pub mod Laws
