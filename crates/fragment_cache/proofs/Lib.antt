pub mod EntryLemmas
pub mod FlightLemmas
pub mod LawLemmas
pub mod LookupLemmas
pub mod NameLemmas
pub mod PurgeLemmas
