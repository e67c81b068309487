pub mod AskingLemmas
