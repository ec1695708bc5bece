pub mod ToldLemmas
pub mod FaultsLemmas
