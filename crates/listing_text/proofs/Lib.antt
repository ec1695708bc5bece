pub mod HexLemmas
pub mod LineLemmas
pub mod SkipLemmas
pub mod OneOutput
pub mod Walks
