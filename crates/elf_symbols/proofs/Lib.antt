pub mod NameLemmas
pub mod InfoLemmas
pub mod NameLoops
pub mod SymbolRight
pub mod RightSymbols
pub mod RelocationLemmas
