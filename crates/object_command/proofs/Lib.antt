pub mod SymbolLemmas
pub mod SizeLemmas
pub mod ObjectLemmas
pub mod GlobalSymbols
