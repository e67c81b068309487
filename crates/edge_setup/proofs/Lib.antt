mod OriginLists
mod NumberLemmas
mod PrefixLists
