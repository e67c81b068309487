pub mod Machine
pub mod LastLeg
pub mod Rests
pub mod Progress
pub mod Laws
pub mod Told
pub mod Headline
