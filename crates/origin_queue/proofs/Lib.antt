pub mod PlaceLemmas
pub mod LawLemmas
