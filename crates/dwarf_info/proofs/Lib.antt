pub mod AbbreviationLemmas
pub mod EntryLemmas
pub mod TreeLemmas
pub mod WithinLemmas
pub mod PlaceLemmas
pub mod CallLemmas
pub mod CountLemmas
pub mod InlinedLemmas
