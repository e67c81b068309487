pub mod Origins
pub mod Bounded
pub mod Gate
pub mod Notes
pub mod Authorities
