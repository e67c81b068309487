pub mod LawLemmas
pub mod NameLemmas
